-- Weighting is shown once, for any number of registers, any rates and any shares: the weighted rate on the total is each register's
-- share of each month's kWh at its rate.
-- Assumes nothing.
use mathlib.Core.Path.{◌≡◌}
use mathlib.Core.List.{List, [], ◌∷◌}
use Prim.Native.Nat.{ℕ, suc, ◌*◌, ◌≤◌}
use native.Mathlib.Nat.{mul-le-mul_right}
use native.Mathlib.Omega.{arith}
use lib.ListN.{get_or}
use Rattle.laws.specs.Notions.{sum, total}
use Rattle.shares.specs.Shares.{weighted, registers}

-- a month's registers come to the weighted rate for its kWh
pub registers_month : (rs ps : List ℕ) (kwh : ℕ) → registers rs ps kwh ≡ weighted rs ps * kwh
unfolding registers weighted
registers_month [] ps kwh = omega arith
registers_month (r ∷ rs) [] kwh = omega arith
registers_month (r ∷ rs) (p ∷ ps) kwh = omega (arith, registers_month rs ps kwh)

-- the one fact: the months' registers come to the weighted rate for the total
pub registers_weighted : (rs ps : List ℕ) (months : List ℕ) → total (registers rs ps) months ≡ weighted rs ps * sum months
unfolding total sum
registers_weighted rs ps [] = omega arith
registers_weighted rs ps (kwh ∷ months) = omega (arith, registers_month rs ps kwh, registers_weighted rs ps months)

-- a weighted rate is at most the greatest rate times the sum of the shares
pub weighted_most : (R : ℕ) (rs ps : List ℕ) → ((i : ℕ) → get_or rs i 0 ≤ R) → weighted rs ps ≤ R * sum ps
unfolding weighted sum
weighted_most R [] ps h = omega arith
weighted_most R (r ∷ rs) [] h = omega arith
weighted_most R (r ∷ rs) (p ∷ ps) h = omega (arith, weighted_most R rs ps (λ i. h (suc i)), mul-le-mul_right p (h 0))
