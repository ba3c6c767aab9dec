-- The charges of sheet S, worked out once for every split, and of the sheet with no costs but NC; the days of their periods.
-- Assumes nothing.
use mathlib.Core.Path.{◌≡◌, refl, ◌∙◌, ap}
use mathlib.Core.List.{List, [], ◌∷◌}
use Prim.Native.Nat.{ℕ, ◌≤◌}
use native.Mathlib.Omega.{arith}
use Rattle.laws.specs.Notions.{tabulate, tabulate_from}
use Rattle.calendar.specs.Calendar.{period_days, month_begins, length_at, month_length, leap_year}
use Rattle.shares.specs.Shares.{whole_share}
use Rattle.sheet.specs.Sheet.{peak_share, signed, value_of, round, round_signed, indexed}
use Rattle.benchmark.specs.Benchmark.{benchmark, wc, pc, oc, nc, paenc, headroom, panc, figure, figures}
use Rattle.reference.specs.SheetS.{times, sheet_s, with_split, period_s}
use Rattle.reference.specs.Splits.{even_sheet, january}

-- each region's eight
abbrev pub charges_s : List ℕ
charges_s = times 14 (9418050 ∷ 66183090 ∷ 8817500 ∷ 64469500 ∷ 9418050 ∷ 72982410 ∷ 8817500 ∷ 71135500 ∷ [])

pub charges_of_s : (tenths : ℕ) → figures (with_split tenths) ≡ charges_s
unfolding figures figure tabulate tabulate_from benchmark wc pc oc nc paenc headroom panc value_of signed indexed round round_signed sheet_s times
charges_of_s tenths = refl

pub days_of_s : period_days period_s ≡ 92
unfolding period_days month_begins length_at month_length leap_year
days_of_s = refl

-- sheet S itself has the split 580
is_580 : sheet_s ≡ with_split 580
unfolding sheet_s times
is_580 = refl

pub charges_at_580 : figures sheet_s ≡ charges_s
charges_at_580 = ap figures is_580 ∙ charges_of_s 580

pub split_of_s : peak_share sheet_s ≤ whole_share
unfolding sheet_s times
split_of_s = omega arith

abbrev pub even_charges : List ℕ
even_charges = times 56 (7440000 ∷ 22440000 ∷ [])

pub charges_even : (tenths : ℕ) → figures (even_sheet tenths) ≡ even_charges
unfolding figures figure tabulate tabulate_from benchmark wc pc oc nc paenc headroom panc value_of signed indexed round round_signed even_sheet times
charges_even tenths = refl

pub days_in_january : period_days january ≡ 31
unfolding period_days month_begins length_at month_length leap_year
days_in_january = refl
