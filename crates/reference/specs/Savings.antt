-- Sheet S with a saving for SMNCC (document 02, M-102), as one table about the definitions. The figures were worked out apart from them, by
-- the second implementation; on sheet S an OC term is 5,250,000 at nil and 9,450,000 at m.
-- Assumes nothing.
use Rattle.std.specs.Prelude.{◌≡◌, Bool, true, List, [], ◌∷◌, ℕ, pos, neg_ℤ, set}
use Rattle.laws.specs.Notions.{every}
use Rattle.refusal.specs.declared.Check.TheVariants.{Pass, Refuse}
use Rattle.sheet.specs.Sheet.{smncc_field, signed}
use Rattle.sheet.specs.CommonFields.{common_fields}
use Rattle.benchmark.specs.Benchmark.{oc, benchmarks_of, set_check}
use Rattle.benchmark.specs.Common.{commons}
use Rattle.tariff.specs.Tariff.{tariff_of}
use Rattle.verdict.specs.Cells.{cell, over, verdict}
use Rattle.reference.specs.SheetS.{sheet_s, period_s, flat}
use Rattle.reference.specs.Starred.{eight_are}

-- sheet S with another word in field 36
abbrev pub with_smncc : ℕ → List ℕ
with_smncc word = set sheet_s smncc_field word

-- a saving of 500,000, and one of 5,250,000, the whole of OC at nil
abbrev pub saving : List ℕ
saving = with_smncc 4294467296

abbrev pub whole_saving : List ℕ
whole_saving = with_smncc 4289717296

-- whether every region has these eight benchmarks
abbrev pub alike : List ℕ → List ℕ → Bool
alike s charges = every 14 (λ region. eight_are s region charges)

pub record Savings : Type 0 where
  -- the numbers that words stand for, at the ends of the two halves and of the range
  pub words : (signed 0 ≡ pos 0) × (signed 2147483647 ≡ pos 2147483647) × (signed 2147483648 ≡ neg_ℤ (pos 2147483648))
      × (signed 4194967296 ≡ neg_ℤ (pos 100000000)) × (signed 4294967295 ≡ neg_ℤ (pos 1))
  -- a saving of 500,000: OC at nil and m, the eight sums, and in every region the eight benchmarks
  pub accepted : set_check saving period_s ≡ Pass
  pub ocs : (oc saving 0 ≡ pos 4750000) × (oc saving 1 ≡ pos 8950000) × (oc saving 2 ≡ pos 4750000) × (oc saving 3 ≡ pos 8950000)
  pub sums : commons (common_fields saving) ≡ 6347850 ∷ 52912890 ∷ 5807500 ∷ 51459500 ∷ 6347850 ∷ 59712210 ∷ 5807500 ∷ 58125500 ∷ []
  pub benchmarks : alike saving (8387850 ∷ 65152890 ∷ 7807500 ∷ 63459500 ∷ 8387850 ∷ 71952210 ∷ 7807500 ∷ 70125500 ∷ []) ≡ true
  -- the tariff that sheet S has just within the cap is over it, by 107,357.5 mills with no consumption
  pub falls : verdict (benchmarks_of saving period_s) (tariff_of (flat 23960 18000)) ≡ over (cell 0 0) (0 ∷ 0 ∷ 0 ∷ []) (pos 3864870000000)
  -- OC is exactly 0 at nil: accepted; one mill lower: 14
  pub nought : (oc whole_saving 0 ≡ pos 0) × (oc whole_saving 1 ≡ pos 4200000)
  pub nought_accepted : set_check whole_saving period_s ≡ Pass
  pub nought_benchmarks : alike whole_saving (3494400 ∷ 60259440 ∷ 3010000 ∷ 58662000 ∷ 3494400 ∷ 67058760 ∷ 3010000 ∷ 65328000 ∷ []) ≡ true
  pub a_mill_lower : set_check (with_smncc 4289717295) period_s ≡ Refuse 14
