-- "The month table" of document 01.
-- Assumes nothing.
use Rattle.std.specs.Prelude.{Bool, cond, not, ◌&&◌, ◌||◌, ℕ, zero, suc, ◌+◌, ◌-◌, ◌*◌, ◌/◌, ◌%◌, leb, eqb}
use Rattle.calendar.specs.declared.Period.{Period}

-- the Gregorian calendar: every fourth year is a leap year, but of the full centuries only every fourth
unfoldable pub leap_year : ℕ → Bool
leap_year y = eqb (y % 4) 0 && (not (eqb (y % 100) 0) || eqb (y % 400) 0)

-- the length of a month, 1 to 12
unfoldable pub month_length : ℕ → ℕ → ℕ
month_length y m =
    cond (eqb m 2) (cond (leap_year y) 29 28) (cond (eqb m 4 || eqb m 6 || eqb m 9 || eqb m 11) 30 31)

-- months are counted from January 2018, which is 0: the length of month k
unfoldable pub length_at : ℕ → ℕ
length_at k = month_length (2018 + k / 12) (1 + k % 12)

-- the day number on which month k begins. Day 0 is 1 January 2018, and each entry differs from the next by that month's length
unfoldable pub month_begins : ℕ → ℕ
month_begins zero = 0
month_begins (suc k) = month_begins k + length_at k

-- the first month of a period, by its count
abbrev pub first_month : Period → ℕ
first_month p = 12 * (p.year - 2018) + (p.month - 1)

-- a period's days: "the difference of two entries"
unfoldable pub period_days : Period → ℕ
period_days p = month_begins (first_month p + p.months) - month_begins (first_month p)

-- "A period is a start year 2018 to 2099, a start month 1 to 12, and t, 1 to 12 whole calendar months."
unfoldable pub period_in_range : Period → Bool
period_in_range p =
    leb 2018 p.year && leb p.year 2099 && leb 1 p.month && leb p.month 12 && leb 1 p.months && leb p.months 12
