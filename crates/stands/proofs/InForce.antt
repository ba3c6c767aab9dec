-- What a call that is handed a reachable book knows of it: the sheet in force has its figures beside it, they are lawful, and each place
-- holds nothing or a valid tariff.
-- Assumes nothing.
use mathlib.Core.Path.{◌≡◌, sym, ap, ◌∙◌, subst}
use mathlib.Core.Bool.{true}
use Prim.Native.Nat.{ℕ, suc, ◌<◌}
use native.Mathlib.Omega.{arith}
use lib.ListN.{get_or}
use Rattle.laws.proofs.Never.{never}
use Rattle.refusal.specs.declared.Check.TheVariants.{Pass}
use Rattle.benchmark.specs.Benchmark.{set_check}
use Rattle.benchmark.specs.Lawful.{Lawful}
use Rattle.benchmark.proofs.Lawful.{lawful}
use Rattle.tariff.specs.declared.Tariff.{Tariff}
use Rattle.tariff.specs.Tariff.{valid_tariff}
use Rattle.book.specs.declared.State.{State}
use Rattle.book.specs.declared.State.TheVariants.{Empty, Draft, Marked, Open}
use Rattle.book.specs.declared.Place.{Place}
use Rattle.book.specs.declared.Book.{Book}
use Rattle.book.specs.Calls.{Sheet}
use Rattle.book.specs.Checks.{figures_of}
use Rattle.book.specs.Book.{beyond, tariff_in, sheet_in, in_force, Reachable}
use Rattle.book.specs.Settling.{empty_check}
use Rattle.book.proofs.Places.{in_range, record_valid}
use mathlib.Core.Option.{Option}
use Rattle.stands.specs.Stands.{Recorded, MayStandAs, HoldsValidAs, HoldsValid}
use Rattle.stands.proofs.Kept.{reachable_fits}

-- a tariff that PUT accepts is valid
pub recorded_valid : (x : Tariff) → Recorded x → valid_tariff x ≡ true
recorded_valid x r = ap valid_tariff r.2 ∙ record_valid r.0 r.1

-- so what may stand in a place is nothing or a valid tariff
pub holds : (s : Option Sheet) (q : State) (p : Place) → MayStandAs s q p → HoldsValidAs q (tariff_in p)
holds s Empty p f = tt
holds s Draft p f = recorded_valid (tariff_in p) f
holds s Marked p f = recorded_valid (tariff_in p) f.0
holds s Open p f = recorded_valid (tariff_in p) f.0

module _ (b : Book) (from : Reachable b) where
  module _ (loaded : b.loaded ≡ true) where
    pub figures_are : b.benchmarks ≡ figures_of (sheet_in b)
    figures_are = ((reachable_fits b from).with_sheet loaded).1

    pub sheet_passed : set_check b.fields b.period ≡ Pass
    sheet_passed = ((reachable_fits b from).with_sheet loaded).0

    pub figures_lawful : Lawful b.benchmarks
    figures_lawful = subst Lawful (sym figures_are) (lawful b.fields b.period sheet_passed)

  pub holds_at : (i : ℕ) → i < 32 → HoldsValid (get_or b.places i beyond)
  holds_at i h =
      let p = get_or b.places i beyond in
      holds (in_force b) p.state p ((reachable_fits b from).places (suc i) (in_range (suc i) (omega arith) (omega arith)))

  -- so a place that is not empty holds a valid one
  filled : (q : State) (x : Tariff) → HoldsValidAs q x → empty_check q ≡ Pass → valid_tariff x ≡ true
  filled Empty x h e = never (cc)
  filled Draft x h e = h
  filled Marked x h e = h
  filled Open x h e = h

  pub filled_valid : (i : ℕ) → i < 32 → empty_check (get_or b.places i beyond).state ≡ Pass → valid_tariff (tariff_in (get_or b.places i beyond)) ≡ true
  filled_valid i h e = let p = get_or b.places i beyond in filled p.state (tariff_in p) (holds_at i h) e
