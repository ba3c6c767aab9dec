-- A place that has passed the checks of OPEN.
-- Assumes nothing.
use mathlib.Core.Path.{◌≡◌}
use mathlib.Core.Bool.{Bool, true}
use Prim.Native.Nat.{ℕ}
use Rattle.laws.proofs.Never.{never}
use Rattle.refusal.specs.declared.Check.TheVariants.{Pass}
use Rattle.refusal.specs.Checks.{unless}
use Rattle.refusal.proofs.Checks.{unless_passes, first_passes}
use Rattle.tariff.specs.declared.Tariff.{Tariff}
use Rattle.tariff.specs.Tariff.{valid_tariff}
use Rattle.desks.specs.Desks.{may_use}
use Rattle.book.specs.declared.State.{State}
use Rattle.book.specs.declared.State.TheVariants.{Empty, Draft, Marked, Open}
use Rattle.book.specs.declared.Place.{Place}
use Rattle.book.specs.Book.{tariff_in}
use Rattle.book.specs.Settling.{code_check, empty_check, open_check}
use Rattle.stands.specs.Stands.{HoldsValid, HoldsValidAs}
use Rattle.opening.specs.Opening.{usable_check, open_rest}

-- what has passed OPEN's checks is a draft, and a sheet is loaded
draft : (s : State) (x : Tariff) → empty_check s ≡ Pass → open_check s ≡ Pass → HoldsValidAs s x → valid_tariff x ≡ true
draft Empty x e f h = never (cc)
draft Draft x e f h = h
draft Marked x e f h = h
draft Open x e f h = never (cc)

pub open_passed : (desk k : ℕ) (p : Place) (loaded : Bool) → HoldsValid p → usable_check desk k p (open_rest p.state loaded) ≡ Pass
    → (valid_tariff (tariff_in p) ≡ true) × (loaded ≡ true)
open_passed desk k p loaded h e =
    let past-6 = (first_passes (code_check k) _ e).1 in
    let past-9 = first_passes (empty_check p.state) _ past-6 in
    let past-17 = first_passes (unless (may_use desk p.regions) 17 Pass) _ past-9.1 in
    let past-7 = first_passes (open_check p.state) _ past-17.1 in
    (draft p.state (tariff_in p) past-9.0 past-7.0 h, (unless_passes loaded 10 Pass past-7.1).0)
