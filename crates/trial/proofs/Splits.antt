-- Under a sheet that differs from the one in force in field 95 alone, only Economy 7 tariffs fall.
-- Assumes nothing.
use mathlib.Core.Path.{◌≡◌, ◌∙◌, ap, subst}
use mathlib.Core.Bool.{true, false}
use mathlib.Core.Option.{some}
use Prim.Native.Nat.{ℕ}
use lib.Dec.{eqb}
use Rattle.benchmark.specs.Benchmark.{benchmarks_of}
use Rattle.benchmark.proofs.Splits.{AlikeButSplit}
use Rattle.verdict.specs.Cells.{first_over}
use Rattle.verdict.proofs.Splits.{first_of_sheets}
use Rattle.book.specs.declared.State.{State}
use Rattle.book.specs.declared.State.TheVariants.{Empty, Draft, Marked, Open}
use Rattle.book.specs.declared.Place.{Place}
use Rattle.book.specs.declared.Book.{Book}
use Rattle.book.specs.Calls.{Sheet, SET}
use Rattle.book.specs.Checks.{figures_of, inside}
use Rattle.book.specs.Book.{tariff_in, place_of, in_force, changed, Reachable}
use Rattle.book.proofs.Places.{at_map}
use Rattle.stands.specs.Stands.{MayOpen, MayStandAs}
use Rattle.stands.proofs.Kept.{reachable_fits}
use Rattle.trial.specs.Trial.{falls}
use Rattle.trial.specs.Places.{fell}
use Rattle.trial.proofs.InForce.{stays}

module _ (s t : Sheet) (period : t.period ≡ s.period) (fields : AlikeButSplit t.fields s.fields) where
  may_open : (p : Place) → eqb p.kind 2 ≡ false → MayOpen (some s) p.directed (tariff_in p) → MayOpen (some t) p.directed (tariff_in p)
  may_open p other h without =
      ap (λ d. first_over (benchmarks_of t.fields d) (tariff_in p)) period
      ∙ first_of_sheets t.fields s.fields fields s.period (tariff_in p) other
      ∙ h without

  -- what may stand in a place under the one may stand there under the other
  may_stand : (q : State) (p : Place) → eqb p.kind 2 ≡ false → MayStandAs (some s) q p → MayStandAs (some t) q p
  may_stand Empty p other h = h
  may_stand Draft p other h = h
  may_stand Marked p other h = (h.0, may_open p other h.1)
  may_stand Open p other h = (h.0, may_open p other h.1)

  -- so nothing else falls, if SET accepts the sheet (and nothing at all, if it does not)
  pub only_economy_7_falls : (b : Book) → Reachable b → in_force b ≡ some s → (k : ℕ) → inside k ≡ true
      → eqb (place_of b.places k).kind 2 ≡ false → falls b (changed b (SET t)) k ≡ false
  only_economy_7_falls b from e k i other =
      let p = place_of b.places k in
      ap (fell p) (at_map (figures_of t) b.places k)
      ∙ stays t p.state p (may_stand p.state p other (subst (λ o. MayStandAs o p.state p) e ((reachable_fits b from).places k i)))
