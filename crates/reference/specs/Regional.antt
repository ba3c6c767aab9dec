-- Sheet S with standing charges by region (document 02, M-104), as one table about the definitions. All regions are alike on it, so the figures
-- are document 01's with the sum in the place of field 2: 23,960 a day is within the cap, and 23,961 above it.
-- Assumes nothing.
use Rattle.std.specs.Prelude.{◌≡◌, List, [], ◌∷◌, ◌++◌, ℕ, set, take}
use Rattle.refusal.specs.declared.Check.TheVariants.{Pass, Refuse}
use Rattle.tariff.specs.Tariff.{record_check}
use Rattle.verdict.specs.Cells.{cell, Verdict, opens, over}
use Rattle.reference.specs.SheetS.{in_every, in_region, adding, flat, tiered}
use Rattle.reference.specs.Starred.{verdict_on, tenfold}

-- one rate of 18,000 and 23,000 a day, with so much more in the regions
abbrev pub with_more : List ℕ → List ℕ
with_more fourteen = adding fourteen (flat 23000 18000)

-- the same, offered in region 0 alone
abbrev pub offered_in0 : List ℕ → List ℕ
offered_in0 fourteen = set (with_more fourteen) 3 1

pub record RegionalVerdicts (judge : List ℕ → Verdict) : Type 0 where
  -- 960 in every region is within the cap; 961 in one region alone is over it there, in the fifth, in the first and in the last
  pub within : judge (with_more (in_every 960)) ≡ opens 28
  pub within_in_5 : judge (with_more (in_region 5 960)) ≡ opens 28
  pub over_in_5 : judge (with_more (in_region 5 961)) ≡ over (cell 5 1) (0 ∷ 0 ∷ 0 ∷ []) (tenfold 133200000)
  pub over_in_0 : judge (with_more (in_region 0 961)) ≡ over (cell 0 1) (0 ∷ 0 ∷ 0 ∷ []) (tenfold 133200000)
  pub over_in_13 : judge (with_more (in_region 13 961)) ≡ over (cell 13 1) (0 ∷ 0 ∷ 0 ∷ []) (tenfold 133200000)
  -- in two regions: the first of them
  pub over_in_two : judge (with_more (set (in_region 9 961) 3 961)) ≡ over (cell 3 1) (0 ∷ 0 ∷ 0 ∷ []) (tenfold 133200000)
  -- nothing in field 2, and all in the regions
  pub none_in_field_2 : judge (adding (in_every 23960) (flat 0 18000)) ≡ opens 28
  pub over_in_7 : judge (adding (set (in_every 23960) 7 23961) (flat 0 18000)) ≡ over (cell 7 1) (0 ∷ 0 ∷ 0 ∷ []) (tenfold 133200000)
  -- the months do not depend on it: the tiered tariff is over at 100, 100, 100 with its 20,000 a day in field 2 or in the regions
  pub tiers_over : judge (adding (in_every 20000) (tiered 0 20000 100 15000)) ≡ over (cell 0 1) (100 ∷ 100 ∷ 100 ∷ []) (tenfold 253530000000)

pub record Regional : Type 0 where
  pub verdicts : RegionalVerdicts verdict_on
  -- each sum is at most 1,000,000, in the first region and in the last, and no sum wraps: 23,000 and 2^32 - 1, or 2^32 - 23,000
  pub sums : (record_check (with_more (in_region 0 977000)) ≡ Pass) × (record_check (with_more (in_region 0 977001)) ≡ Refuse 8)
      × (record_check (with_more (in_region 13 977000)) ≡ Pass) × (record_check (with_more (in_region 13 977001)) ≡ Refuse 8)
  pub no_wrapping : (record_check (with_more (in_region 5 4294967295)) ≡ Refuse 8) × (record_check (with_more (in_region 5 4294944296)) ≡ Refuse 8)
  -- field 2 keeps its own range
  pub field_2 : (record_check (flat 1000000 18000) ≡ Pass) × (record_check (flat 1000001 18000) ≡ Refuse 8)
  -- a region not offered has 0
  pub not_offered : (record_check (offered_in0 (in_region 0 960)) ≡ Pass) × (record_check (offered_in0 (in_region 1 1)) ≡ Refuse 8) × (record_check (offered_in0 (in_region 13 1)) ≡ Refuse 8)
  -- 27 numbers, and not 26, 28 or the 13 of before
  pub lengths : (record_check (take 26 (flat 23000 18000)) ≡ Refuse 8) × (record_check (flat 23000 18000 ++ (0 ∷ [])) ≡ Refuse 8) × (record_check (take 13 (flat 23000 18000)) ≡ Refuse 8)
  -- each of these records is a tariff
  pub records : (record_check (with_more (in_every 960)) ≡ Pass) × (record_check (with_more (in_region 5 961)) ≡ Pass) × (record_check (with_more (in_region 5 960)) ≡ Pass)
