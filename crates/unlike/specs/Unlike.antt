-- What sheet U comes to, as one table about the definitions. The figures were worked out apart from them, by the second implementation.
-- Assumes nothing.
use Rattle.std.specs.Prelude.{◌≡◌, Bool, true, false, List, [], ◌∷◌, ℕ, eqb, pos, set}
use Rattle.laws.specs.Notions.{every}
use Rattle.refusal.specs.declared.Check.{Check}
use Rattle.refusal.specs.declared.Check.TheVariants.{Pass, Refuse}
use Rattle.calendar.specs.Calendar.{period_days}
use Rattle.sheet.specs.CommonFields.{common_fields}
use Rattle.benchmark.specs.Benchmark.{wc, pc, oc, paenc, headroom, nc, panc, benchmarks_of, set_check}
use Rattle.benchmark.specs.Common.{commons}
use Rattle.tariff.specs.Tariff.{tariff_of, record_check}
use Rattle.verdict.specs.Cells.{cell, Verdict, opens, over, verdict}
use Rattle.reference.specs.Starred.{eight_are}
use Rattle.unlike.specs.SheetU.{sheet_u, period_u, three_tiers, peak_at, three_registers, all_in_one, most_added, most_added_seven, flat_with, seven_with, lone_pair}

-- the verdict on a record
abbrev pub verdict_on : List ℕ → Verdict
verdict_on x = verdict (benchmarks_of sheet_u period_u) (tariff_of x)

-- refused with 5
abbrev pub is_five : Check → Bool
is_five Pass = false
is_five (Refuse n) = eqb n 5

-- the verdicts on records, by whatever judges them
pub record UnlikeVerdicts (judge : List ℕ → Verdict) : Type 0 where
  -- three tiers: over in region 9 and not in 4, most at the second step
  pub tiers_over : judge (three_tiers 27000) ≡ over (cell 9 0) (400 ∷ 400 ∷ []) (pos 549918000000)
  pub tiers_within : judge (three_tiers 26000) ≡ opens 2
  -- Economy 7: over by Other and not by Standard Credit
  pub economy_over : judge (peak_at 16100) ≡ over (cell 0 1) (10000 ∷ 10000 ∷ []) (pos 58795269600000)
  -- three registers: over by Other and not by Standard Credit
  pub registers_over : judge (three_registers 15000) ≡ over (cell 3 1) (10000 ∷ 10000 ∷ []) (pos 105623468400000)
  pub registers_within : judge (three_registers 14000) ≡ opens 4
  -- a register without consumption costs nothing
  pub all_in_one_lem : judge all_in_one ≡ opens 2
  -- each region adds the most that it may; one mill more in region 4, in the last, and the numbers of regions 3 and 4 exchanged
  pub most_added_lem : judge (flat_with most_added) ≡ opens 28
  pub more_in_4 : judge (flat_with (set most_added 4 10130)) ≡ over (cell 4 1) (0 ∷ 0 ∷ []) (pos 12400000)
  pub more_in_13 : judge (flat_with (set most_added 13 9880)) ≡ over (cell 13 1) (0 ∷ 0 ∷ []) (pos 2077000000)
  pub neighbours_exchanged : judge (flat_with (set (set most_added 3 10129) 4 10157)) ≡ over (cell 4 1) (0 ∷ 0 ∷ []) (pos 60276400000)
  -- and of Economy 7, which is held to the other arrangement
  pub seven_most_added : judge (seven_with most_added_seven) ≡ opens 28
  pub seven_more_in_6 : judge (seven_with (set most_added_seven 6 14288)) ≡ over (cell 6 1) (0 ∷ 0 ∷ []) (pos 739200000)

pub record Unlike : Type 0 where
  pub accepted : set_check sheet_u period_u ≡ Pass
  pub days : period_days period_u ≡ 60
  -- the eight sums, and one figure traced: WC, PC and OC of single-rate at m, PAENC and H by Standard Credit, NC and PANC of region 0
  pub sums : commons (common_fields sheet_u) ≡ 9176014 ∷ 56333521 ∷ 8680346 ∷ 55051895 ∷ 10638546 ∷ 64664326 ∷ 10116806 ∷ 63242157 ∷ []
  pub costs_traced : (wc sheet_u 1 ≡ pos 35675000) × (pc sheet_u 1 ≡ pos 8532710) × (oc sheet_u 1 ≡ pos 10062840)
  pub shares_traced : (paenc sheet_u 0 (pos 54270550) ≡ pos 1505213) × (headroom sheet_u 0 (pos 55775763) ≡ pos 557758)
  pub network_traced : (nc sheet_u 0 1 ≡ pos 12400000) × (panc sheet_u 0 (pos 12400000) ≡ pos 248000)
  -- the first region and the last
  pub first_region : eight_are sheet_u 0 (11420014 ∷ 68981521 ∷ 10886946 ∷ 67489095 ∷ 12780546 ∷ 77414326 ∷ 12223106 ∷ 75779657 ∷ []) ≡ true
  pub last_region : eight_are sheet_u 13 (11287321 ∷ 68583575 ∷ 10756465 ∷ 67097782 ∷ 13046024 ∷ 77945243 ∷ 12484160 ∷ 76301726 ∷ []) ≡ true
  pub verdicts : UnlikeVerdicts verdict_on
  -- each of these records is a tariff
  pub records : (record_check (three_tiers 27000) ≡ Pass) × (record_check (peak_at 16100) ≡ Pass) × (record_check (three_registers 15000) ≡ Pass) × (record_check all_in_one ≡ Pass)
  -- one pair of benchmarks out of order is enough for refusal 5, whichever of the 56 it is
  pub each_pair : every 14 (λ r. every 2 (λ a. every 2 (λ p. is_five (set_check (lone_pair r a p) period_u)))) ≡ true
