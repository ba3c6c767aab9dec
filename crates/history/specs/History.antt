-- Demand 3's words, "read from the calls alone, never from the book".
-- A log is the list of what the accepted calls asked, of whatever desks, the newest first. Sheet, tariffs, directions, open and marked codes are read from the log
-- without what was taken back, in which there is no UNDO.
-- Assumes nothing.
use Rattle.std.specs.Prelude.{Bool, true, false, cond, ◌&&◌, ◌||◌, List, [], ◌∷◌, ℕ, eqb, drop}
use Rattle.std.proofs.Math.Option.{Option, none, some}
use Rattle.tariff.specs.declared.Tariff.{Tariff}
use Rattle.tariff.specs.Tariff.{tariff_of}
use Rattle.book.specs.Calls.{Sheet, Act, SET, PUT, OPEN, CLOSE, DROP, UNDO, ASK, CONFIRM, DIRECT, Call, Answer, is_accepted}
use Rattle.book.specs.Checks.{Holding, Readings, figures_of, complies, answer}
use Rattle.book.specs.Book.{holding}

-- "The sheet in force is that of the last accepted SET, with its period; before the first there is none."
abbrev pub sheet_of : List Act → Option Sheet
sheet_of [] = none
sheet_of (SET s ∷ log) = some s
sheet_of (PUT j x ∷ log) = sheet_of log
sheet_of (OPEN j ∷ log) = sheet_of log
sheet_of (CLOSE j ∷ log) = sheet_of log
sheet_of (DROP j ∷ log) = sheet_of log
sheet_of (UNDO ∷ log) = sheet_of log
sheet_of (ASK j ∷ log) = sheet_of log
sheet_of (CONFIRM j ∷ log) = sheet_of log
sheet_of (DIRECT j ∷ log) = sheet_of log

-- "The tariff of a code is that of its last accepted PUT with no DROP accepted since."
abbrev pub tariff_at : List Act → ℕ → Option Tariff
tariff_at [] k = none
tariff_at (SET s ∷ log) k = tariff_at log k
tariff_at (PUT j x ∷ log) k = cond (eqb j k) (some (tariff_of x)) (tariff_at log k)
tariff_at (OPEN j ∷ log) k = tariff_at log k
tariff_at (CLOSE j ∷ log) k = tariff_at log k
tariff_at (DROP j ∷ log) k = cond (eqb j k) none (tariff_at log k)
tariff_at (UNDO ∷ log) k = tariff_at log k
tariff_at (ASK j ∷ log) k = tariff_at log k
tariff_at (CONFIRM j ∷ log) k = tariff_at log k
tariff_at (DIRECT j ∷ log) k = tariff_at log k

-- M-108: a code is under a direction when one was given and, since the last such, no PUT or DROP of it was accepted: "CLOSE keeps the direction, PUT
-- and DROP end it"
abbrev pub directed_of : List Act → ℕ → Bool
directed_of [] k = false
directed_of (SET s ∷ log) k = directed_of log k
directed_of (PUT j x ∷ log) k = cond (eqb j k) false (directed_of log k)
directed_of (OPEN j ∷ log) k = directed_of log k
directed_of (CLOSE j ∷ log) k = directed_of log k
directed_of (DROP j ∷ log) k = cond (eqb j k) false (directed_of log k)
directed_of (UNDO ∷ log) k = directed_of log k
directed_of (ASK j ∷ log) k = directed_of log k
directed_of (CONFIRM j ∷ log) k = directed_of log k
directed_of (DIRECT j ∷ log) k = cond (eqb j k) true (directed_of log k)

-- a tariff, where there is one, exceeds with a sheet in no cell
abbrev pub stays_open : Sheet → Option Tariff → Bool
stays_open s none = true
stays_open s (some x) = complies (figures_of s) x

-- "A code is open when an OPEN of it was accepted and, since the last such, no CLOSE, PUT or DROP of it was accepted and no SET
-- was accepted with whose sheet and period its tariff exceeds in some cell." M-106: "an accepted CONFIRM counts there as an accepted OPEN". M-108: "an
-- open one with a direction stays open through any SET", a direction that was given before that SET
abbrev pub open_of : List Act → ℕ → Bool
open_of [] k = false
open_of (SET s ∷ log) k = open_of log k && (directed_of log k || stays_open s (tariff_at log k))
open_of (PUT j x ∷ log) k = cond (eqb j k) false (open_of log k)
open_of (OPEN j ∷ log) k = cond (eqb j k) true (open_of log k)
open_of (CLOSE j ∷ log) k = cond (eqb j k) false (open_of log k)
open_of (DROP j ∷ log) k = cond (eqb j k) false (open_of log k)
open_of (UNDO ∷ log) k = open_of log k
open_of (ASK j ∷ log) k = open_of log k
open_of (CONFIRM j ∷ log) k = cond (eqb j k) true (open_of log k)
open_of (DIRECT j ∷ log) k = open_of log k

-- A code is marked when an ASK of it was accepted and, since the last such, it was not opened, by OPEN or CONFIRM, no PUT or DROP of it was
-- accepted and no SET: "any accepted SET, and any accepted PUT or DROP on the code, clears the mark", and "an open tariff has no mark". Giving a
-- direction "leaves a mark as it is"
abbrev pub marked_of : List Act → ℕ → Bool
marked_of [] k = false
marked_of (SET s ∷ log) k = false
marked_of (PUT j x ∷ log) k = cond (eqb j k) false (marked_of log k)
marked_of (OPEN j ∷ log) k = cond (eqb j k) false (marked_of log k)
marked_of (CLOSE j ∷ log) k = marked_of log k
marked_of (DROP j ∷ log) k = cond (eqb j k) false (marked_of log k)
marked_of (UNDO ∷ log) k = marked_of log k
marked_of (ASK j ∷ log) k = cond (eqb j k) true (marked_of log k)
marked_of (CONFIRM j ∷ log) k = cond (eqb j k) false (marked_of log k)
marked_of (DIRECT j ∷ log) k = marked_of log k

-- M-105: they "are read as if an accepted UNDO and the SET that it takes back were not there". An UNDO is accepted only where what was
-- accepted last is a SET (`undoable`), and that is the one
abbrev pub effective : List Act → List Act
effective [] = []
effective (SET s ∷ log) = SET s ∷ effective log
effective (PUT j x ∷ log) = PUT j x ∷ effective log
effective (OPEN j ∷ log) = OPEN j ∷ effective log
effective (CLOSE j ∷ log) = CLOSE j ∷ effective log
effective (DROP j ∷ log) = DROP j ∷ effective log
effective (UNDO ∷ log) = drop 1 (effective log)
effective (ASK j ∷ log) = ASK j ∷ effective log
effective (CONFIRM j ∷ log) = CONFIRM j ∷ effective log
effective (DIRECT j ∷ log) = DIRECT j ∷ effective log

-- UNDO "is allowed only while no PUT, OPEN, CLOSE or DROP has been accepted since" the last accepted SET, "and an accepted UNDO leaves
-- none"; "an accepted ASK or CONFIRM ends the chance", and so does giving a direction: what was accepted last is a SET
abbrev pub undoable : List Act → Bool
undoable [] = false
undoable (SET s ∷ log) = true
undoable (PUT j x ∷ log) = false
undoable (OPEN j ∷ log) = false
undoable (CLOSE j ∷ log) = false
undoable (DROP j ∷ log) = false
undoable (UNDO ∷ log) = false
undoable (ASK j ∷ log) = false
undoable (CONFIRM j ∷ log) = false
undoable (DIRECT j ∷ log) = false

-- what the checks look at: the sheet, of a code with a tariff that tariff and whether the code is open, marked or under a direction, and whether
-- there is something to take back
abbrev pub held_as : Option Tariff → (is_open is_marked is_directed : Bool) → Option Holding
held_as none o m d = none
held_as (some x) o m d = some (holding x o m d)

abbrev pub readings_of : List Act → Bool → Readings
readings_of log u =
    record { sheet = sheet_of log; held = λ k. held_as (tariff_at log k) (open_of log k) (marked_of log k) (directed_of log k); may_undo = u }

abbrev pub readings : List Act → Readings
readings log = readings_of (effective log) (undoable log)

-- "a call is accepted when its checks, for what is so read from the calls before it, give no refusal": the log after one call more,
-- and after a list of calls more
abbrev pub noted : List Act → Call → List Act
noted log c = cond (is_accepted (answer c.desk (readings log) c.act)) (c.act ∷ log) log

unfoldable pub log_after : List Act → List Call → List Act
log_after log [] = log
log_after log (c ∷ cs) = log_after (noted log c) cs

-- the accepted calls of a list, without what was taken back
abbrev pub accepted_of : List Call → List Act
accepted_of calls = effective (log_after [] calls)

-- "the answer that its checks give for the sheet, tariffs and open codes read in this way from the calls before it", of each call
unfoldable pub answers_after : List Act → List Call → List Answer
answers_after log [] = []
answers_after log (c ∷ cs) = answer c.desk (readings log) c.act ∷ answers_after (noted log c) cs
