-- What may stand in a place, by its state and by what the walk over the cells found.
-- Assumes nothing.
use mathlib.Core.Path.{◌≡◌, sym, subst}
use mathlib.Core.Bool.{Bool, true, false}
use mathlib.Core.Logic.{◌↔◌}
use mathlib.Core.Option.{Option, none}
use Rattle.benchmark.specs.declared.Benchmarks.{Benchmarks}
use Rattle.verdict.specs.Cells.{first_over}
use Rattle.book.specs.declared.State.{State}
use Rattle.book.specs.declared.Place.{Place}
use Rattle.book.specs.Calls.{Sheet}
use Rattle.book.specs.Checks.{figures_of}
use Rattle.book.specs.Book.{tariff_in, sheet_if}
use Rattle.stands.specs.Stands.{Recorded, MayOpen, MayStandAs, MayStand}

pub in_state : (s : Option Sheet) (p : Place) (q : State) → p.state ≡ q → (t : Bool) → ((t ≡ true) ↔ MayStandAs s q p) → (t ≡ true) ↔ MayStand s p
in_state s p q e t h = subst (λ (r : State). (t ≡ true) ↔ MayStandAs s r p) (sym e) h

-- with a sheet loaded, of which these are the figures, a tariff that PUT accepts may be open where it is under a direction or exceeds nowhere
module _ (p : Place) (loaded : Bool) (figures : Benchmarks) (s : Sheet) (its : loaded ≡ true → figures ≡ figures_of s) (l : loaded ≡ true) where
  abbrev Complies : Benchmarks → Type 0
  Complies f = p.directed ≡ false → first_over f (tariff_in p) ≡ none

  pub opens_exactly : Recorded (tariff_in p) → (t : Bool) → (t ≡ true → Complies figures) → (Complies figures → t ≡ true)
      → (t ≡ true) ↔ (Recorded (tariff_in p) × MayOpen (sheet_if loaded s) p.directed (tariff_in p))
  opens_exactly r t f g = (
    λ e. (r, subst (λ (u : Bool). MayOpen (sheet_if u s) p.directed (tariff_in p)) (sym l) (subst Complies (its l) (f e))),
    λ q. g (subst Complies (sym (its l)) (subst (λ (u : Bool). MayOpen (sheet_if u s) p.directed (tariff_in p)) l q.1)),
  )
