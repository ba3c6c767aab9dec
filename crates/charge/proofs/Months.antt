-- The charge month by month, for every kind.
-- Assumes nothing.
use mathlib.Core.Path.{◌≡◌}
use mathlib.Core.Bool.{Bool, true, false, cond}
use mathlib.Core.List.{List}
use Prim.Native.Nat.{ℕ, ◌+◌, ◌*◌}
use native.Mathlib.Omega.{arith}
use lib.Dec.{eqb}
use Rattle.laws.specs.Notions.{sum, total}
use Rattle.laws.proofs.Sums.{total_scaled, total_line}
use Rattle.shares.specs.Shares.{whole_share, weighted}
use Rattle.tariff.specs.declared.Tariff.{Tariff}
use Rattle.charge.specs.Charge.{rates_in_use, tier_steps, shares, tier_charge, month_charge, charge}

-- the charge is the standing charge and the sum of the months' charges
pub charge_monthly : (standing days peak : ℕ) (x : Tariff) (months : List ℕ)
    → charge standing days peak x months ≡ whole_share * (standing * days) + total (month_charge peak x) months
unfolding charge month_charge
charge_monthly standing days peak x months = go (eqb x.kind 1)
  where
    tiers : ℕ → ℕ
    tiers = tier_charge 0 (rates_in_use x) (tier_steps x)

    W : ℕ
    W = weighted (rates_in_use x) (shares peak x)

    go : (t : Bool)
        → whole_share * (standing * days) + cond t (whole_share * total tiers months) (W * sum months)
        ≡ whole_share * (standing * days) + total (λ kwh. cond t (whole_share * tiers kwh) (W * kwh)) months
    go true = omega (arith, total_scaled whole_share tiers months)
    go false = omega (arith, total_line W months)
