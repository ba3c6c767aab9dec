-- A valid tariff with as many numbers as one has is that of a record which passes refusal 8: its own numbers in the order of PUT.
-- Assumes nothing.
use mathlib.Core.Path.{◌≡◌, refl, sym, ◌∙◌, ap}
use mathlib.Core.Bool.{Bool, true}
use mathlib.Core.List.{List, ◌∷◌}
use mathlib.Core.Logic.{◌↔◌}
use Prim.Native.Nat.{ℕ}
use lib.ListN.{length, get_or}
use Rattle.laws.specs.Notions.{tabulate_from, tabulate}
use Rattle.laws.proofs.Lists.{is_table}
use Rattle.laws.proofs.Parts.{four}
use Rattle.refusal.specs.declared.Check.TheVariants.{Pass}
use Rattle.refusal.specs.Checks.{unless}
use Rattle.tariff.specs.declared.Tariff.{Tariff}
use Rattle.tariff.specs.Tariff.{tariff_of, valid_tariff, record_check}
use Rattle.book.specs.Calls.{Record}
use Rattle.stands.specs.Stands.{Recorded}
use Rattle.stands.proofs.InForce.{recorded_valid}

abbrev numbers_of : Tariff → Record
numbers_of x =
    x.kind ∷ x.n ∷ x.standing ∷ x.regions ∷ x.methods
    ∷ get_or x.rates 0 0 ∷ get_or x.rates 1 0 ∷ get_or x.rates 2 0 ∷ get_or x.rates 3 0
    ∷ get_or x.steps 0 0 ∷ get_or x.steps 1 0 ∷ get_or x.steps 2 0 ∷ get_or x.steps 3 0
    ∷ tabulate 14 (λ i. get_or x.regional i 0)

fourteen : (xs : List ℕ) → length xs ≡ 14 → xs ≡ tabulate 14 (λ i. get_or xs i 0)
fourteen xs l = is_table 14 (λ i. get_or xs i 0) xs l (λ i k. refl)

module _ (x : Tariff) (rates : length x.rates ≡ 4) (steps : length x.steps ≡ 4) (regional : length x.regional ≡ 14) where
  its_own : x ≡ tariff_of (numbers_of x)
  unfolding tabulate tabulate_from
  its_own i =
      record { kind = x.kind; n = x.n; standing = x.standing; regions = x.regions; methods = x.methods; rates = four x.rates rates i; steps = four x.steps steps i; regional = fourteen x.regional regional i }

  passes : valid_tariff x ≡ true → record_check (numbers_of x) ≡ Pass
  unfolding record_check tabulate tabulate_from
  passes v = ap (λ t. unless t 8 Pass) (sym (ap valid_tariff its_own) ∙ v)

  pub recorded_exactly : (t : Bool) → t ≡ valid_tariff x → (t ≡ true) ↔ Recorded x
  recorded_exactly t e = (λ h. (numbers_of x, passes (sym e ∙ h), its_own), λ r. e ∙ recorded_valid x r)
