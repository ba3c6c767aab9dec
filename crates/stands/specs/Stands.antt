-- "A book handed to a call is one that some list of calls from a fresh book leaves": what such a book is, read from the book alone
-- (proofs/Exactly.antt, `reachable_exactly`).
-- Assumes nothing.
use Rattle.std.specs.Prelude.{◌≡◌, Bool, true, false, ℕ, length}
use Rattle.std.proofs.Math.Option.{Option, none, some}
use Rattle.refusal.specs.declared.Check.TheVariants.{Pass}
use Rattle.benchmark.specs.Benchmark.{set_check}
use Rattle.tariff.specs.declared.Tariff.{Tariff}
use Rattle.tariff.specs.Tariff.{tariff_of, valid_tariff, record_check}
use Rattle.verdict.specs.Cells.{first_over}
use Rattle.book.specs.declared.State.{State}
use Rattle.book.specs.declared.State.TheVariants.{Empty, Draft, Marked, Open}
use Rattle.book.specs.declared.Place.{Place}
use Rattle.book.specs.declared.Book.{Book}
use Rattle.book.specs.Calls.{Sheet, Record, SET}
use Rattle.book.specs.Checks.{figures_of, inside}
use Rattle.book.specs.Book.{empty, tariff_in, nothing_kept, fresh, place_of, sheet_in, in_force, restored, changed}

-- a tariff that PUT accepts: that of a record that passes refusal 8
abbrev pub Recorded : Tariff → Type 0
Recorded x = (y : Record) × (record_check y ≡ Pass) × (x ≡ tariff_of y)

-- a tariff that may be open: there is a sheet, and with it the tariff, unless it is under a direction, exceeds in no offered cell
abbrev pub MayOpen : Option Sheet → (directed : Bool) → Tariff → Type 0
MayOpen none d x = ⊥
MayOpen (some s) d x = d ≡ false → first_over (figures_of s) x ≡ none

-- what may stand in a place, by its state: nothing, with zeros and no direction; such a tariff as a draft; or one that may be open, as a marked
-- draft or open
abbrev pub MayStandAs : Option Sheet → State → Place → Type 0
MayStandAs s Empty p = p ≡ empty
MayStandAs s Draft p = Recorded (tariff_in p)
MayStandAs s Marked p = Recorded (tariff_in p) × MayOpen s p.directed (tariff_in p)
MayStandAs s Open p = Recorded (tariff_in p) × MayOpen s p.directed (tariff_in p)

abbrev pub MayStand : Option Sheet → Place → Type 0
MayStand s p = MayStandAs s p.state p

-- 32 places, each with what may stand there; without a sheet, all beside the places is as in a fresh book; with one, the sheet
-- passes SET's checks and has its figures beside it
pub record Fits (b : Book) : Type 0 where
  pub size : length b.places ≡ 32
  pub places : (k : ℕ) → inside k ≡ true → MayStand (in_force b) (place_of b.places k)
  pub without_sheet : b.loaded ≡ false
      → (b.fields ≡ fresh.fields) × (b.period ≡ fresh.period) × (b.benchmarks ≡ fresh.benchmarks)
  pub with_sheet : b.loaded ≡ true → (set_check b.fields b.period ≡ Pass) × (b.benchmarks ≡ figures_of (sheet_in b))

-- the same, and what is kept for UNDO is nothing, with zeros; or such a book, which a SET of the sheet in force made into this one
pub record Stands (b : Book) : Type 0 where
  pub fits : Fits b
  pub nothing_kept_lem : b.kept.any ≡ false → b.kept ≡ nothing_kept
  pub step_kept : b.kept.any ≡ true → Fits (restored b) × (b ≡ changed (restored b) (SET (sheet_in b)))

-- what a call that judges a place asks of it: where it holds a tariff, a valid one
abbrev pub HoldsValidAs : State → Tariff → Type 0
HoldsValidAs Empty x = Unit {0}
HoldsValidAs Draft x = valid_tariff x ≡ true
HoldsValidAs Marked x = valid_tariff x ≡ true
HoldsValidAs Open x = valid_tariff x ≡ true

abbrev pub HoldsValid : Place → Type 0
HoldsValid p = HoldsValidAs p.state (tariff_in p)
