-- What the test of a period says.
-- Assumes nothing.
use mathlib.Core.Path.{◌≡◌}
use mathlib.Core.Bool.{true}
use Prim.Native.Nat.{◌+◌, ◌<◌, ◌≤◌}
use native.Mathlib.Omega.{arith}
use Rattle.std.proofs.lemmas.Bool.Decides.{nat_tests}
use Rattle.calendar.specs.declared.Period.{Period}
use Rattle.calendar.specs.Calendar.{period_in_range, first_month}

pub record Within (p : Period) : Type 0 where
  pub year_least : 2018 ≤ p.year
  pub year_most : p.year ≤ 2099
  pub month_least : 1 ≤ p.month
  pub month_most_lem : p.month ≤ 12
  pub months_least : 1 ≤ p.months
  pub months_most_lem : p.months ≤ 12

pub within : (p : Period) → period_in_range p ≡ true → Within p
unfolding period_in_range
within p h =
    record {
      year_least = grind (arith, nat_tests);
      year_most = grind (arith, nat_tests);
      month_least = grind (arith, nat_tests);
      month_most_lem = grind (arith, nat_tests);
      months_least = grind (arith, nat_tests);
      months_most_lem = grind (arith, nat_tests);
    }

-- the month after a period has an entry, and so has its first
pub end_in_table : (p : Period) → period_in_range p ≡ true → first_month p + p.months < 996
end_in_table p h = omega (arith, within p h)
