-- What a tariff with shares charges, register by register: the one fact of weighting, for kinds 2 and 3 alike.
-- Assumes nothing.
use mathlib.Core.Path.{◌≡◌, sym, ◌∙◌, ap}
use mathlib.Core.Bool.{Bool, false, cond}
use mathlib.Core.List.{List}
use Prim.Native.Nat.{ℕ, ◌+◌, ◌*◌}
use lib.Dec.{eqb}
use lib.ListN.{take}
use Rattle.laws.specs.Notions.{total}
use Rattle.shares.specs.Shares.{whole_share, registers}
use Rattle.shares.proofs.Weighted.{registers_weighted}
use Rattle.tariff.specs.declared.Tariff.{Tariff}
use Rattle.charge.specs.Charge.{rates_in_use, shares, month_charge, charge}

-- times the whole: the standing charge, and each register's share of the months' kWh at its rate
pub charge_registers : (standing days peak : ℕ) (x : Tariff) (months : List ℕ) → eqb x.kind 1 ≡ false
    → charge standing days peak x months ≡ whole_share * (standing * days) + total (registers (rates_in_use x) (shares peak x)) months
unfolding charge
charge_registers standing days peak x months e = rw (e, registers_weighted (rates_in_use x) (shares peak x) months)

-- what stands where a test fails
untaken : {A : Type 0} {t : Bool} (a b : A) → t ≡ false → cond t a b ≡ b
untaken a b e = ap (λ t. cond t a b) e

-- only Economy 7 depends on the split
module _ (p q : ℕ) (x : Tariff) (other : eqb x.kind 2 ≡ false) where
  own_shares : (peak : ℕ) → shares peak x ≡ take x.n x.steps
  own_shares peak = untaken _ (take x.n x.steps) other

  shares_same : shares p x ≡ shares q x
  shares_same = own_shares p ∙ sym (own_shares q)

  pub month_without_split : (kwh : ℕ) → month_charge p x kwh ≡ month_charge q x kwh
  unfolding month_charge
  month_without_split kwh = rw shares_same

  pub charge_without_split : (standing days : ℕ) (months : List ℕ) → charge standing days p x months ≡ charge standing days q x months
  unfolding charge
  charge_without_split standing days months = rw shares_same
