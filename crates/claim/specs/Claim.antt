-- Demand 3, one statement.
-- Assumes nothing.
use Rattle.std.specs.Prelude.{◌≡◌, ◌↔◌, ◌⊎◌, Bool, true, false, cond, List, [], ◌∷◌, ◌++◌, ℕ, suc, ◌<◌, ℤ, pos, length, get_or, ◌<ℤ◌, ◌≤ℤ◌}
use Rattle.std.proofs.Math.Option.{some}
use Rattle.std.proofs.Math.ListN.{get_elem?}
use Rattle.laws.specs.Notions.{count, bit}
use Rattle.laws.specs.Greatest.{Greatest}
use Rattle.tariff.specs.declared.Tariff.{Tariff}
use Rattle.desks.specs.Desks.{is_full, may_use}
use Rattle.charge.specs.Charge.{month_most}
use Rattle.cap.specs.declared.CellNumbers.{CellNumbers}
use Rattle.cap.specs.Cap.{excess, Months, share}
use Rattle.verdict.specs.Cells.{Cell, offered, Offered, tariff_numbers, ExceedsIn, Before, cell_at}
use Rattle.book.specs.declared.Book.{Book}
use Rattle.book.specs.declared.Done.{Done}
use Rattle.book.specs.Calls.{Sheet, Act, SET, OPEN, ASK, CONFIRM, DIRECT, Call, by, Answer, accepted, cells, over, refusal_number, is_accepted}
use Rattle.book.specs.Checks.{figures_of, set_answer}
use Rattle.book.specs.Book.{holding, held, place_of, fresh, step}
use Rattle.book.specs.Promises.{answer_of, Does}
use Rattle.queries.specs.Queries.{Telling, refused, falling}
use Rattle.trial.specs.Trial.{trial_of}
use Rattle.history.specs.History.{sheet_of, tariff_at, directed_of, open_of, marked_of, accepted_of, answers_after}

-- the place of code k holds tariff x, open; or as a marked draft; under a direction or not
abbrev pub OpenIn : Book → ℕ → Tariff → (directed : Bool) → Type 0
OpenIn b k x d = held (place_of b.places k) ≡ some (holding x true false d)

abbrev pub MarkedIn : Book → ℕ → Tariff → (directed : Bool) → Type 0
MarkedIn b k x d = held (place_of b.places k) ≡ some (holding x false true d)

-- the numbers of a tariff's cell, with a sheet's figures, and the excess of months there
abbrev pub numbers_with : Sheet → Tariff → Cell → CellNumbers
numbers_with s x c = tariff_numbers (figures_of s) x c

abbrev pub excess_in : Sheet → Tariff → Cell → List ℕ → ℤ
excess_in s x c months = excess (numbers_with s x c) x months

-- a list of t monthly consumptions, t that of the sheet's period
abbrev pub MonthsOf : Sheet → List ℕ → Type 0
MonthsOf s months = Months (figures_of s).months months

-- the tariff exceeds in some offered cell
abbrev pub ExceedsSomewhere : Sheet → Tariff → Type 0
ExceedsSomewhere s x = (c : Cell) × Offered x c × ExceedsIn (figures_of s) x c

-- the tariff is at or below the maximum of the sheet in force, in every offered cell and for every list of t months
abbrev pub WithinCap : List Act → Tariff → Type 0
WithinCap log x =
    (s : Sheet) × (sheet_of log ≡ some s)
    × ((c : Cell) → Offered x c → (months : List ℕ) → MonthsOf s months → excess_in s x c months ≤ℤ pos 0)

-- what answer 11 shows
pub record Shows (s : Sheet) (x : Tariff) (c : Cell) (months : List ℕ) (e : ℤ) : Type 0 where
  -- the first cell that exceeds, in OPEN's order (verdict/proofs/Meaning.antt, `in_order`)
  pub cell : Offered x c
  pub first : (d : Cell) → Offered x d → Before d c → ExceedsIn (figures_of s) x d → ⊥
  -- "t monthly consumptions of greatest excess, each the smallest at which a month's share of the excess is greatest"
  pub consumptions : MonthsOf s months
  pub greatest : (others : List ℕ) → MonthsOf s others → excess_in s x c others ≤ℤ e
  pub smallest : (i : ℕ) → i < length months → Greatest (share (numbers_with s x c) x) month_most (get_or months i 0)
  -- "The excess in answer 11 is that of its months in its cell", and above 0
  pub is_excess : e ≡ excess_in s x c months
  pub above : pos 0 <ℤ e

-- "A code with a tariff that is not open is a draft": code k is one that the desk may use, a sheet is in force, and P holds of the two and of
-- whether the code is under a direction
abbrev pub DraftWhere : (desk : ℕ) → List Act → ℕ → (Bool → Sheet → Tariff → Type 0) → Type 0
DraftWhere desk log k P =
    (s : Sheet) × (x : Tariff) × (sheet_of log ≡ some s) × (tariff_at log k ≡ some x) × (may_use desk x.regions ≡ true) × (open_of log k ≡ false)
    × P (directed_of log k) s x

-- code k has a tariff, and the desk may not use it
abbrev pub OutsideDesk : (desk : ℕ) → List Act → ℕ → Type 0
OutsideDesk desk log k = (x : Tariff) × (tariff_at log k ≡ some x) × (may_use desk x.regions ≡ false)

-- the number of a tariff's cells among the 28 that OPEN takes
abbrev pub cells_offered : Tariff → ℕ
cells_offered x = count 28 (λ i. offered x (cell_at i))

-- what OPEN, ASK and CONFIRM answer: that number, or 0 of a tariff under a direction
abbrev pub cells_answered : (directed : Bool) → Tariff → ℕ
cells_answered d x = cond d 0 (cells_offered x)

-- ASK "does the checks of OPEN, with its refusals"
abbrev pub OpensOrAsks : Act → ℕ → Type 0
OpensOrAsks a k = (a ≡ OPEN k) ⊎ (a ≡ ASK k)

-- what holds of an OPEN or an ASK of code k by a desk, answered a, where log has the calls that were accepted before it
pub record OpenAnswer (desk : ℕ) (log : List Act) (k : ℕ) (a : Answer) : Type 0 where
  -- it says 11 exactly when the code is a draft that the desk may use, without a direction, and its tariff exceeds, with the sheet in force, in some
  -- offered cell
  pub over_exactly : (refusal_number a ≡ some 11) ↔ DraftWhere desk log k (λ d s x. (d ≡ false) × ExceedsSomewhere s x)
  -- 11 carries a cell, months and an excess, and this is what they are
  pub over_shows : refusal_number a ≡ some 11
      → (c : Cell) × (months : List ℕ) × (e : ℤ) × (a ≡ over c months e) × DraftWhere desk log k (λ d s x. Shows s x c months e)
  -- it is accepted exactly when the code is such a draft and is under a direction, or its tariff exceeds in no offered cell, and says how many they
  -- are, under a direction 0
  pub accepted_exactly : (n : ℕ) → (a ≡ cells n) ↔ DraftWhere desk log k (λ d s x. (d ≡ false → ExceedsSomewhere s x → ⊥) × (n ≡ cells_answered d x))
  -- it says 17 exactly when the desk may not use the code
  pub outside_exactly : (refusal_number a ≡ some 17) ↔ OutsideDesk desk log k

-- code k is marked, the desk may use it, and n is the number of its tariff's cells that is answered
abbrev pub MarkedWith : (desk : ℕ) → List Act → (k n : ℕ) → Type 0
MarkedWith desk log k n =
    (x : Tariff) × (tariff_at log k ≡ some x) × (may_use desk x.regions ≡ true) × (marked_of log k ≡ true) × (n ≡ cells_answered (directed_of log k) x)

-- what holds of a CONFIRM: it is accepted exactly when the code is marked and the desk may use it, and says how many its tariff's offered
-- cells are, under a direction 0
abbrev pub ConfirmAnswer : (desk : ℕ) → List Act → ℕ → Answer → Type 0
ConfirmAnswer desk log k a = (n : ℕ) → (a ≡ cells n) ↔ MarkedWith desk log k n

-- of a DIRECT: it is accepted exactly when the desk has all fourteen regions and the code is a draft
abbrev pub DirectAnswer : (desk : ℕ) → List Act → ℕ → Answer → Type 0
DirectAnswer desk log k a = (a ≡ accepted) ↔ ((is_full desk ≡ true) × (x : Tariff) × (tariff_at log k ≡ some x) × (open_of log k ≡ false))

-- code i + 1 is open, and would not be after a SET of the sheet accepted next
abbrev pub WouldFall : List Act → Sheet → ℕ → Type 0
WouldFall log s i = (open_of log (suc i) ≡ true) × (open_of (SET s ∷ log) (suc i) ≡ false)

-- what holds of a TRIAL of a sheet by a desk, told t, where log has the calls that were accepted before it
pub record TrialAnswer (desk : ℕ) (log : List Act) (s : Sheet) (t : Telling) : Type 0 where
  -- it is refused exactly when a SET of the sheet made next by the desk would be, by that number
  pub refused_exactly : (n : ℕ) → (t ≡ refused n) ↔ (refusal_number (set_answer desk s) ≡ some n)
  -- where that SET would be accepted, it tells a set, and the set has exactly the codes that would fall, bit code - 1 of each
  pub falling_exactly : is_accepted (set_answer desk s) ≡ true
      → (codes : ℕ) × (t ≡ falling codes) × ((i : ℕ) → (bit codes i ≡ true) ↔ WouldFall log s i)

-- Demand 3, of a list of calls, the answers that they had and the book that they left
pub record Demand3 (calls : List Call) (answers : List Answer) (b : Book) : Type 0 where
  -- each call has had the answer that its checks give for what is read from the calls before it
  pub answered : answers ≡ answers_after [] calls
  -- the open places are exactly the open codes, each with its tariff and under a direction or not
  pub open_places : (k : ℕ) (x : Tariff) (d : Bool)
      → OpenIn b k x d ↔ ((open_of (accepted_of calls) k ≡ true) × (tariff_at (accepted_of calls) k ≡ some x) × (directed_of (accepted_of calls) k ≡ d))
  -- each open tariff without a direction is within the cap
  pub within : (k : ℕ) (x : Tariff) → OpenIn b k x false → WithinCap (accepted_of calls) x
  -- "an open one with a direction stays open through any SET"
  pub directed_stays : (k : ℕ) (x : Tariff) → OpenIn b k x true → (desk : ℕ) (s : Sheet) → OpenIn (step b (by desk (SET s))).book k x true
  -- the marked places are exactly the marked codes, and what may be confirmed without a direction is within the cap
  pub marked_places : (k : ℕ) (x : Tariff) (d : Bool)
      → MarkedIn b k x d ↔ ((marked_of (accepted_of calls) k ≡ true) × (tariff_at (accepted_of calls) k ≡ some x) × (directed_of (accepted_of calls) k ≡ d))
  pub marked_within : (k : ℕ) (x : Tariff) → MarkedIn b k x false → WithinCap (accepted_of calls) x
  -- each OPEN and each ASK of the list has had, in its place, an answer that says 11 or accepts exactly when it should
  pub each_open : (before after : List Call) (c : Call) (k : ℕ) → calls ≡ before ++ (c ∷ after) → OpensOrAsks c.act k
      → (a : Answer) × (get_elem? answers (length before) ≡ some a) × OpenAnswer c.desk (accepted_of before) k a
  -- and so would one made next, a CONFIRM, and a DIRECT
  pub next_open : (c : Call) (k : ℕ) → OpensOrAsks c.act k → OpenAnswer c.desk (accepted_of calls) k (step b c).answer
  pub next_confirm : (c : Call) (k : ℕ) → c.act ≡ CONFIRM k → ConfirmAnswer c.desk (accepted_of calls) k (step b c).answer
  pub next_direct : (c : Call) (k : ℕ) → c.act ≡ DIRECT k → DirectAnswer c.desk (accepted_of calls) k (step b c).answer
  -- a TRIAL made next tells what a SET made in its place would do
  pub next_trial : (desk : ℕ) (s : Sheet) → TrialAnswer desk (accepted_of calls) s (trial_of b desk s)

-- A list of calls made by the code: each on the book that the one before it returned, with any answers and books that the calls'
-- own promises allow. `Does` is what SET, PUT, OPEN, CLOSE, DROP, UNDO, ASK, CONFIRM and DIRECT each ensure.
pub data Trace : List Call → List Answer → Book → Type 0 where
  start : Trace [] [] fresh
  then : {calls : List Call} {answers : List Answer} {b : Book} → Trace calls answers b → (c : Call) (r : Done) → Does b c r
      → Trace (calls ++ (c ∷ [])) (answers ++ (answer_of r.reply r.months ∷ [])) r.book
