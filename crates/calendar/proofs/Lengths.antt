-- The days of a period are the sum of its months' lengths, and at most 372.
-- Assumes nothing.
use mathlib.Core.Path.{◌≡◌, refl}
use mathlib.Core.Bool.{Bool, true, false, cond, ◌||◌}
use Prim.Native.Nat.{ℕ, zero, suc, ◌+◌, ◌-◌, ◌*◌, ◌/◌, ◌%◌, ◌<◌, ◌≤◌}
use native.Mathlib.Nat.{add-zero, add-suc, suc-add}
use native.Mathlib.Omega.{arith}
use lib.Dec.{eqb}
use lib.ListN.{get_or}
use Rattle.laws.specs.Notions.{sum, tabulate_from}
use Rattle.calendar.specs.declared.Period.{Period}
use Rattle.calendar.specs.Calendar.{leap_year, month_length, length_at, month_begins, first_month, period_in_range, period_days}
use Rattle.calendar.proofs.Periods.{within, end_in_table}
use Rattle.calendar.proofs.Table.{begins, entry}

-- t months from month i
pub between : (t i : ℕ) → month_begins (i + t) ≡ month_begins i + sum (tabulate_from i t length_at)
unfolding sum tabulate_from month_begins
between zero i = simp add-zero
between (suc t) i =
    let h : month_begins (suc i + t) ≡ month_begins (suc i) + sum (tabulate_from (suc i) t length_at) = between t (suc i) in
    let e : month_begins (i + suc t) ≡ month_begins (suc i + t) = rw (add-suc, suc-add) refl in
    omega arith

pub days_are_lengths : (p : Period) → period_days p ≡ sum (tabulate_from (first_month p) p.months length_at)
unfolding period_days
days_are_lengths p = omega (arith, between p.months (first_month p))

-- a later month begins no earlier
pub no_less : (i t : ℕ) → month_begins i ≤ month_begins (i + t)
no_less i t = omega (arith, between t i)

-- a month has at most 31 days
pub length_most : (k : ℕ) → length_at k ≤ 31
unfolding length_at month_length
length_most k =
    let m = 1 + k % 12 in go (eqb m 2) (leap_year (2018 + k / 12)) (eqb m 4 || eqb m 6 || eqb m 9 || eqb m 11)
  where
    go : (a b c : Bool) → cond a (cond b 29 28) (cond c 30 31) ≤ 31
    go true true c = omega arith
    go true false c = omega arith
    go false b true = omega arith
    go false b false = omega arith

-- so t months have at most 31 * t
pub at_most : (i t : ℕ) → month_begins (i + t) ≤ month_begins i + 31 * t
unfolding month_begins
at_most i zero = simp add-zero (omega arith)
at_most i (suc t) = rw add-suc (omega (arith, at_most i t, length_most (i + t)))

pub days_most_lem : (p : Period) → period_in_range p ≡ true → period_days p ≤ 372
unfolding period_days
days_most_lem p h = omega (arith, at_most (first_month p) p.months, within p h)

-- the entries rise
pub entries_rise : (i j : ℕ) → i ≤ j → j < 996 → get_or begins i 0 ≤ get_or begins j 0
entries_rise i j h l =
    let e : i + (j - i) ≡ j = omega arith in
    omega (arith, entry i (omega arith), entry j l, rw e at (no_less i (j - i)))

-- the two entries of a period
module _ (p : Period) (h : period_in_range p ≡ true) where
  pub entries_apart : get_or begins (first_month p + p.months) 0 - get_or begins (first_month p) 0 ≡ period_days p
  unfolding period_days
  entries_apart =
      let l : first_month p + p.months < 996 = end_in_table p h in
      rw (entry (first_month p) (omega arith), entry (first_month p + p.months) l)

  pub entries_at_most : get_or begins (first_month p + p.months) 0 - get_or begins (first_month p) 0 ≤ 372
  entries_at_most = rw entries_apart (days_most_lem p h)

-- document 01's figures: October 2022, t 6; October 2023, t 6; December 2099, t 12
pub october_2022 : period_days (record { year = 2022; month = 10; months = 6 }) ≡ 182
unfolding period_days month_begins length_at month_length leap_year
october_2022 = refl

pub october_2023 : period_days (record { year = 2023; month = 10; months = 6 }) ≡ 183
unfolding period_days month_begins length_at month_length leap_year
october_2023 = refl

pub december_2099 : period_days (record { year = 2099; month = 12; months = 12 }) ≡ 365
unfolding period_days month_begins length_at month_length leap_year
december_2099 = refl
