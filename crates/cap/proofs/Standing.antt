-- The worst months do not depend on the standing charge that counts in a cell; and each mill a day more adds its days to the charge, whatever
-- the months are.
-- Assumes nothing.
use mathlib.Core.Path.{◌≡◌, refl}
use mathlib.Core.List.{List}
use Prim.Native.Nat.{ℕ, ◌+◌, ◌*◌}
use native.Mathlib.Omega.{arith}
use Rattle.shares.specs.Shares.{whole_share}
use Rattle.tariff.specs.declared.Tariff.{Tariff}
use Rattle.charge.specs.Charge.{charge}
use Rattle.cap.specs.declared.CellNumbers.{CellNumbers}
use Rattle.cap.specs.Cap.{charged, share, worst_month, worst_months}

-- the numbers of a cell with another standing charge
abbrev pub numbers_at : ℕ → CellNumbers → CellNumbers
numbers_at standing e =
    record { lower = e.lower; upper = e.upper; m = e.m; months = e.months; days = e.days; standing = standing; peak = e.peak }

module _ (standing : ℕ) (e : CellNumbers) (x : Tariff) where
  pub worst_without_standing : worst_months e x ≡ worst_months (numbers_at standing e) x
  unfolding worst_months worst_month share
  worst_without_standing = refl

  pub charged_by_the_day : (added : ℕ) (months : List ℕ)
      → charged (numbers_at (standing + added) e) x months ≡ charged (numbers_at standing e) x months + 12 * e.m * (whole_share * (added * e.days))
  unfolding charged charge
  charged_by_the_day added months = omega arith
