-- Sheet S with other splits of Economy 7 (document 02, M-103), as one table about the definitions. The figures were worked out apart from
-- them, by the second implementation.
-- Assumes nothing.
use Rattle.std.specs.Prelude.{◌≡◌, List, [], ◌∷◌, ◌++◌, ℕ, pos}
use Rattle.refusal.specs.declared.Check.TheVariants.{Pass, Refuse}
use Rattle.calendar.specs.declared.Period.{Period}
use Rattle.benchmark.specs.Benchmark.{benchmarks_of, set_check}
use Rattle.tariff.specs.Tariff.{tariff_of, record_check}
use Rattle.verdict.specs.Cells.{cell, Verdict, opens, over, verdict}
use Rattle.reference.specs.SheetS.{times, with_split, period_s, flat, economy_seven, two_registers}
use Rattle.reference.specs.Starred.{first_other}

-- the verdict on a record under a split
abbrev pub verdict_under : ℕ → List ℕ → Verdict
verdict_under tenths x = verdict (benchmarks_of (with_split tenths) period_s) (tariff_of x)

-- the Economy 7 tariff of the starred table, and one with its rates exchanged; the same rates of kind 3, with shares of their own
abbrev pub day_dear : List ℕ
day_dear = economy_seven 23000 18000 12250

abbrev pub night_dear : List ℕ
night_dear = economy_seven 23000 12250 18000

abbrev pub registers_at : ℕ → ℕ → List ℕ
registers_at share rest = two_registers 23000 18000 share 12250 rest

-- verdicts by split and record
pub record SplitVerdicts (judge : ℕ → List ℕ → Verdict) : Type 0 where
  -- a tenth of a percent less at the dearer rate, and the tariff is within the cap
  pub at_579 : judge 579 day_dear ≡ opens 28
  pub at_580 : judge 580 day_dear ≡ over first_other (10000 ∷ 10000 ∷ 10000 ∷ []) (pos 3678000000000)
  -- all of it at one rate
  pub at_0 : judge 0 day_dear ≡ opens 28
  pub at_1000 : judge 1000 day_dear ≡ over (cell 0 0) (10000 ∷ 10000 ∷ 10000 ∷ []) (pos 3025381800000000)
  -- with the rates exchanged it is the other way round
  pub night_at_420 : judge 420 night_dear ≡ over first_other (10000 ∷ 10000 ∷ 10000 ∷ []) (pos 3678000000000)
  pub night_at_421 : judge 421 night_dear ≡ opens 28
  pub night_at_0 : judge 0 night_dear ≡ over (cell 0 0) (10000 ∷ 10000 ∷ 10000 ∷ []) (pos 3025381800000000)
  -- registers of kind 3 have their own shares, whatever the split is; and a single register has one rate
  pub registers_over : judge 0 (registers_at 580 420) ≡ over first_other (10000 ∷ 10000 ∷ 10000 ∷ []) (pos 3678000000000)
  pub registers_within : judge 1000 (registers_at 579 421) ≡ opens 28
  pub flat_within : judge 579 (flat 23000 18000) ≡ opens 28

-- A sheet with no costs but NC, for January 2018 alone: in every cell it allows 20,000 mills a day and 15,000 for each kWh. All regions and
-- both methods are alike, so that a tariff that is over is over in the first cell.
unfoldable pub even_sheet : ℕ → List ℕ
even_sheet tenths =
    times 22 (0 ∷ [])
    ++ times 14 (1 ∷ [])
    ++ (0 ∷ [])
    ++ times 14 (7440000 ∷ 22440000 ∷ 7440000 ∷ 22440000 ∷ [])
    ++ (1000 ∷ 1000 ∷ tenths ∷ [])

abbrev pub january : Period
january = record { year = 2018; month = 1; months = 1 }

abbrev pub even_verdict : ℕ → List ℕ → Verdict
even_verdict tenths x = verdict (benchmarks_of (even_sheet tenths) january) (tariff_of x)

-- Economy 7 at 20,000 a day and 0.58 × 17,100 + 0.42 × 12,100 = 15,000 for each kWh, exactly at the cap; and one unit to either side
pub record EvenVerdicts (judge : ℕ → List ℕ → Verdict) : Type 0 where
  pub exact : judge 580 (economy_seven 20000 17100 12100) ≡ opens 28
  pub peak_over : judge 580 (economy_seven 20000 17101 12100) ≡ over (cell 0 0) (10000 ∷ []) (pos 69600000000)
  pub peak_under : judge 580 (economy_seven 20000 17099 12100) ≡ opens 28
  pub off_peak_over : judge 580 (economy_seven 20000 17100 12101) ≡ over (cell 0 0) (10000 ∷ []) (pos 50400000000)
  pub off_peak_under : judge 580 (economy_seven 20000 17100 12099) ≡ opens 28
  pub standing_over : judge 580 (economy_seven 20001 17100 12100) ≡ over (cell 0 0) (0 ∷ []) (pos 372000000)
  pub standing_under : judge 580 (economy_seven 19999 17100 12100) ≡ opens 28
  pub split_over : judge 581 (economy_seven 20000 17100 12100) ≡ over (cell 0 0) (10000 ∷ []) (pos 600000000000)
  pub split_under : judge 579 (economy_seven 20000 17100 12100) ≡ opens 28

pub record Splits : Type 0 where
  -- 0 to 1,000 and no more
  pub accepted : (set_check (with_split 0) period_s ≡ Pass) × (set_check (with_split 579) period_s ≡ Pass) × (set_check (with_split 1000) period_s ≡ Pass)
  pub refused : (set_check (with_split 1001) period_s ≡ Refuse 2) × (set_check (with_split 10000) period_s ≡ Refuse 2)
  pub verdicts : SplitVerdicts verdict_under
  pub even_accepted : set_check (even_sheet 580) january ≡ Pass
  pub even : EvenVerdicts even_verdict
  -- each of these records is a tariff
  pub records : (record_check day_dear ≡ Pass) × (record_check night_dear ≡ Pass) × (record_check (registers_at 580 420) ≡ Pass) × (record_check (registers_at 579 421) ≡ Pass)
