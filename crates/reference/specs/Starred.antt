-- The starred verdicts of document 01's reference sheet, as one table about the definitions. M-103: "With field 95 at 580 every verdict of
-- the reference sheet stays, its excess ten times as large."
-- Assumes nothing.
use Rattle.std.specs.Prelude.{◌≡◌, Bool, true, false, List, [], ◌∷◌, ℕ, ◌*◌, ◌/◌, ◌%◌, eqb, ℤ, pos, negsuc, ◌-ℤ◌, get_or}
use Rattle.laws.specs.Notions.{every}
use Rattle.refusal.specs.declared.Check.TheVariants.{Pass}
use Rattle.calendar.specs.Calendar.{period_days}
use Rattle.sheet.specs.CommonFields.{common_fields}
use Rattle.benchmark.specs.declared.Benchmarks.{Benchmarks}
use Rattle.benchmark.specs.Benchmark.{benchmark, benchmarks_of, set_check}
use Rattle.benchmark.specs.Common.{commons}
use Rattle.tariff.specs.Tariff.{tariff_of, record_check}
use Rattle.cap.specs.Cap.{excess}
use Rattle.verdict.specs.Cells.{Cell, Verdict, opens, over, verdict, tariff_numbers}
use Rattle.reference.specs.SheetS.{sheet_s, period_s, flat, tiered, economy_seven}

-- the figures of sheet S for its period
abbrev pub benchmarks_s : Benchmarks
benchmarks_s = benchmarks_of sheet_s period_s

-- region 0 with method 1, Other
abbrev pub first_other : Cell
first_other = record { region = 0; method = 1 }

-- the verdict on a record, and the excess of months in region 0 with method 1
abbrev pub verdict_on : List ℕ → Verdict
verdict_on x = verdict benchmarks_s (tariff_of x)

abbrev pub excess_of : List ℕ → List ℕ → ℤ
excess_of x months = excess (tariff_numbers benchmarks_s (tariff_of x) first_other) (tariff_of x) months

-- ten times an excess of document 01
abbrev pub tenfold : ℕ → ℤ
tenfold excess = pos (10 * excess)

-- whether a signed number is the whole number n
abbrev pub is_whole : ℤ → ℕ → Bool
is_whole (pos m) n = eqb m n
is_whole (negsuc m) n = false

-- whether these are the eight benchmarks of a region, by arrangement, method and level
abbrev pub eight_are : List ℕ → ℕ → List ℕ → Bool
eight_are s region charges = every 8 (λ j. is_whole (benchmark s region (j / 4) (j / 2 % 2) (j % 2)) (get_or charges j 0))

-- in every region, alike
abbrev pub everywhere : ℕ → ℕ → ℕ → ℕ → Bool
everywhere arrangement method level charge = every 14 (λ region. is_whole (benchmark sheet_s region arrangement method level) charge)

-- the verdicts on records, by whatever judges them
pub record StarredVerdicts (judge : List ℕ → Verdict) : Type 0 where
  -- standing charge 23,000, 23,960 and 23,961 with one rate of 18,000
  pub within : judge (flat 23000 18000) ≡ opens 28
  pub just_within : judge (flat 23960 18000) ≡ opens 28
  pub just_over : judge (flat 23961 18000) ≡ over first_other (0 ∷ 0 ∷ 0 ∷ []) (tenfold 133200000)
  -- 20,000 to 100 kWh, then 15,000: over with 100 kWh in each month, by 70,425 mills (times 12,000 × m, which is 36,000,000)
  pub tiers_over : judge (tiered 20000 20000 100 15000) ≡ over first_other (100 ∷ 100 ∷ 100 ∷ []) (tenfold 253530000000)
  -- 165,509 to 5 kWh, then 0: exactly at the cap with 5 kWh in each month, and one mill more is over
  pub at_the_cap : judge (tiered 0 165509 5 0) ≡ opens 28
  pub a_mill_over : judge (tiered 0 165510 5 0) ≡ over first_other (5 ∷ 5 ∷ 5 ∷ []) (tenfold 54000000)
  -- Economy 7, 58:42
  pub economy_over : judge (economy_seven 23000 18000 12250) ≡ over first_other (10000 ∷ 10000 ∷ 10000 ∷ []) (tenfold 367800000000)

pub record Starred : Type 0 where
  pub accepted : set_check sheet_s period_s ≡ Pass
  pub days : period_days period_s ≡ 92
  -- the eight sums that no region is in, by arrangement, method and level (not in the paper: worked out by hand)
  pub sums : commons (common_fields sheet_s) ≡ 7378050 ∷ 53943090 ∷ 6817500 ∷ 52469500 ∷ 7378050 ∷ 60742410 ∷ 6817500 ∷ 59135500 ∷ []
  -- single-rate, Other and Standard Credit, at nil and m; Economy 7, Other, at m
  pub other_nil : everywhere 0 1 0 8817500 ≡ true
  pub other_m : everywhere 0 1 1 64469500 ≡ true
  pub credit_nil : everywhere 0 0 0 9418050 ≡ true
  pub credit_m : everywhere 0 0 1 66183090 ≡ true
  pub economy_m : everywhere 1 1 1 71135500 ≡ true
  pub verdicts : StarredVerdicts verdict_on
  -- the tariff of `tiers_over` is below the cap with the same 300 kWh in one month, by 929,575 mills; that of `at_the_cap` has an excess of 0
  pub one_month_below : excess_of (tiered 20000 20000 100 15000) (300 ∷ 0 ∷ 0 ∷ []) ≡ pos 0 -ℤ tenfold 3346470000000
  pub excess_nought : excess_of (tiered 0 165509 5 0) (5 ∷ 5 ∷ 5 ∷ []) ≡ pos 0
  -- each of these records is a tariff
  pub records : (record_check (flat 23000 18000) ≡ Pass) × (record_check (tiered 20000 20000 100 15000) ≡ Pass) × (record_check (economy_seven 23000 18000 12250) ≡ Pass)
