-- "The book" of document 01: the places, and what each call answers and leaves.
-- Assumes nothing.
use Rattle.std.specs.Prelude.{◌≡◌, Bool, true, false, cond, ◌||◌, ℕ, zero, suc, get_or, set, replicate}
use mathlib.Core.List.{List, [], ◌∷◌, map, zip_with}
use Rattle.std.proofs.Math.Option.{Option, none, some}
use Rattle.calendar.specs.declared.Period.{Period}
use Rattle.sheet.specs.Sheet.{field_count}
use Rattle.benchmark.specs.declared.Benchmarks.{Benchmarks}
use Rattle.benchmark.specs.Benchmark.{no_benchmarks}
use Rattle.tariff.specs.declared.Tariff.{Tariff}
use Rattle.tariff.specs.Tariff.{tariff_of}
use Rattle.book.specs.declared.State.{State}
use Rattle.book.specs.declared.State.TheVariants.{Empty, Draft, Marked, Open}
use Rattle.book.specs.declared.Place.{Place}
use Rattle.book.specs.declared.Stood.{Stood}
use Rattle.book.specs.declared.Kept.{Kept}
use Rattle.book.specs.declared.Book.{Book}
use Rattle.book.specs.Calls.{Sheet, sheet_at, Act, SET, PUT, OPEN, CLOSE, DROP, UNDO, ASK, CONFIRM, DIRECT, Call, Answer, is_accepted}
use Rattle.book.specs.Checks.{Holding, Readings, figures_of, complies, answer}

-- a place is a state, and whether there is a direction, beside the numbers of a tariff: one made of these, and the tariff of one
abbrev pub place_with : State → (directed : Bool) → Tariff → Place
place_with s d x =
    record { state = s; directed = d; kind = x.kind; n = x.n; standing = x.standing; regions = x.regions; methods = x.methods; rates = x.rates; steps = x.steps; regional = x.regional }

abbrev pub tariff_in : Place → Tariff
tariff_in p =
    record { kind = p.kind; n = p.n; standing = p.standing; regions = p.regions; methods = p.methods; rates = p.rates; steps = p.steps; regional = p.regional }

abbrev pub with_state : State → Place → Place
with_state s p = place_with s p.directed (tariff_in p)

abbrev pub with_direction : Place → Place
with_direction p = place_with p.state true (tariff_in p)

-- a place that holds nothing has zeros
abbrev pub zeros : (four fourteen : List ℕ) → Tariff
zeros four fourteen =
    record { kind = 0; n = 0; standing = 0; regions = 0; methods = 0; rates = four; steps = four; regional = fourteen }

abbrev pub empty : Place
empty = place_with Empty false (zeros (replicate 4 0) (replicate 14 0))

-- "A fresh book has no sheet and all places empty."
abbrev pub no_period : Period
no_period = record { year = 0; month = 0; months = 0 }

-- nothing to take back: what is kept for UNDO has zeros
abbrev pub stood_as : State → Stood
stood_as s = record { state = s }

abbrev pub nothing_kept : Kept
nothing_kept =
    record { any = false; loaded = false; fields = replicate field_count 0; period = no_period; states = replicate 32 (stood_as Empty) }

abbrev pub fresh : Book
fresh =
    record { loaded = false; fields = replicate field_count 0; period = no_period; benchmarks = no_benchmarks; places = replicate 32 empty; kept = nothing_kept }

-- code k is place k - 1; past the places stands what a read there gives
abbrev pub beyond : Place
beyond = place_with Empty false (zeros [] [])

abbrev pub place_of : List Place → ℕ → Place
place_of ps zero = beyond
place_of ps (suc i) = get_or ps i beyond

abbrev pub set_place : List Place → ℕ → Place → List Place
set_place ps zero p = ps
set_place ps (suc i) p = set ps i p

-- "A place holds nothing, a draft or an open tariff"; ASK "marks the draft", and "an open tariff has no mark"; each may be under a direction
abbrev pub holding : Tariff → (is_open is_marked is_directed : Bool) → Holding
holding x o m d = record { tariff = x; is_open = o; is_marked = m; is_directed = d }

abbrev pub held_in : State → (directed : Bool) → Tariff → Option Holding
held_in Empty d x = none
held_in Draft d x = some (holding x false false d)
held_in Marked d x = some (holding x false true d)
held_in Open d x = some (holding x true false d)

abbrev pub held : Place → Option Holding
held p = held_in p.state p.directed (tariff_in p)

-- "The book also holds a sheet with its period, or none."
abbrev pub sheet_if : Bool → Sheet → Option Sheet
sheet_if true s = some s
sheet_if false s = none

abbrev pub sheet_in : Book → Sheet
sheet_in b = record { fields = b.fields; period = b.period }

abbrev pub in_force : Book → Option Sheet
in_force b = sheet_if b.loaded (sheet_in b)

-- what the checks of a call read of a book
abbrev pub book_readings : Book → Readings
book_readings b = record { sheet = in_force b; held = λ k. held (place_of b.places k); may_undo = b.kept.any }

abbrev pub with_places : Book → List Place → Kept → Book
with_places b ps kept =
    record { loaded = b.loaded; fields = b.fields; period = b.period; benchmarks = b.benchmarks; places = ps; kept = kept }

-- one place changed: UNDO is "allowed only while no PUT, OPEN, CLOSE or DROP has been accepted since that SET", "an accepted ASK or
-- CONFIRM ends the chance", and so does giving a direction
abbrev pub with_place : Book → ℕ → Place → Book
with_place b k p = with_places b (set_place b.places k p) nothing_kept

-- SET: "each open tariff that exceeds somewhere becomes a draft, the others staying open", but one under a direction it "leaves .. open"; and it
-- "clears the mark" of every draft
abbrev pub open_if : Bool → State
open_if true = Open
open_if false = Draft

abbrev pub state_under : Benchmarks → State → (directed : Bool) → Tariff → State
state_under f Empty d x = Empty
state_under f Draft d x = Draft
state_under f Marked d x = Draft
state_under f Open d x = open_if (d || complies f x)

abbrev pub under : Benchmarks → Place → Place
under f p = with_state (state_under f p.state p.directed (tariff_in p)) p

-- "One step is kept": of the book before a SET its sheet, or none, and the state of each place. As long as UNDO is allowed no tariff and no
-- direction changes, and the figures are those of the sheet
abbrev pub kept_of : Book → Kept
kept_of b =
    record { any = true; loaded = b.loaded; fields = b.fields; period = b.period; states = map (λ p. stood_as p.state) b.places }

-- UNDO: "the book as it was before the last accepted SET" (stands/proofs/Undone.antt, `undone`), with nothing to take back
abbrev pub figures_if : Option Sheet → Benchmarks
figures_if none = no_benchmarks
figures_if (some s) = figures_of s

abbrev pub restored : Book → Book
restored b =
    record { loaded = b.kept.loaded; fields = b.kept.fields; period = b.kept.period; benchmarks = figures_if (sheet_if b.kept.loaded (sheet_at b.kept.fields b.kept.period)); places = zip_with (λ s. with_state s.state) b.kept.states b.places; kept = nothing_kept }

-- the book after an accepted call: a direction stays until an accepted PUT or DROP, which "end it"
abbrev pub changed : Book → Act → Book
changed b (SET s) =
    record { loaded = true; fields = s.fields; period = s.period; benchmarks = figures_of s; places = map (under (figures_of s)) b.places; kept = kept_of b }
changed b (PUT k x) = with_place b k (place_with Draft false (tariff_of x))
changed b (OPEN k) = with_place b k (with_state Open (place_of b.places k))
changed b (CLOSE k) = with_place b k (with_state Draft (place_of b.places k))
changed b (DROP k) = with_place b k empty
changed b UNDO = restored b
changed b (ASK k) = with_place b k (with_state Marked (place_of b.places k))
changed b (CONFIRM k) = with_place b k (with_state Open (place_of b.places k))
changed b (DIRECT k) = with_place b k (with_direction (place_of b.places k))

-- what a call comes to: its answer and the book after it. "Any call refused changes nothing."
pub record Effect : Type 0 where
  pub answer : Answer
  pub book : Book

abbrev pub after : Answer → Book → Act → Book
after a b c = cond (is_accepted a) (changed b c) b

unfoldable pub step : Book → Call → Effect
step b c = let a = answer c.desk (book_readings b) c.act in record { answer = a; book = after a b c.act }

-- a list of calls, "each later one the book that the call before it returned"
unfoldable pub book_after : Book → List Call → Book
book_after b [] = b
book_after b (c ∷ cs) = book_after (step b c).book cs

unfoldable pub answers_of : Book → List Call → List Answer
answers_of b [] = []
answers_of b (c ∷ cs) = (step b c).answer ∷ answers_of (step b c).book cs

-- "A book handed to a call is one that some list of calls from a fresh book leaves."
pub record Reachable (b : Book) : Type 0 where
  pub calls : List Call
  pub left : b ≡ book_after fresh calls
