-- Sheet U: no two regions, arrangements, methods or indices are alike on it, so that a figure taken from the wrong field shows. Its
-- period, the tariffs judged by it, and small sheets on which one pair of benchmarks alone is out of order.
-- Assumes nothing.
use Rattle.std.specs.Prelude.{cond, ◌&&◌, List, [], ◌∷◌, ◌++◌, ℕ, zero, suc, ◌+◌, ◌-◌, ◌*◌, leb, eqb}
use Rattle.laws.specs.Notions.{tabulate}
use Rattle.calendar.specs.declared.Period.{Period}
use Rattle.sheet.specs.Sheet.{field_count}
use Rattle.reference.specs.SheetS.{nothing_added, adding, flat, economy_seven}

-- NC of n regions from region r on: single-rate falls from region to region, Economy 7 rises
unfoldable pub networks : ℕ → ℕ → List ℕ
networks r zero = []
networks r (suc n) =
    (2200000 - 10007 * r) ∷ (12400000 - 30011 * r) ∷ (2100000 + 20021 * r) ∷ (12500000 + 40039 * r) ∷ networks (suc r) n

-- DF0, CM0, PC0, OC0; HAP, PAP, PAAC; initial and current DFI, CMI, CPIH and PI; SMNCC; NC of each region; m; the peak share
unfoldable pub sheet_u : List ℕ
sheet_u =
    (1000000 ∷ 31000000 ∷ 2000000 ∷ 37000000 ∷ [])
    ++ (300000 ∷ 1500000 ∷ 350000 ∷ 1750000 ∷ [])
    ++ (1100000 ∷ 8300000 ∷ 1200000 ∷ 8600000 ∷ [])
    ++ (5200000 ∷ 9100000 ∷ 5300000 ∷ 9400000 ∷ [])
    ++ (10000 ∷ 15000 ∷ 20000 ∷ 3000 ∷ 400000 ∷ 70000 ∷ [])
    ++ (1000 ∷ 200 ∷ 101 ∷ 103 ∷ 107 ∷ 109 ∷ 113 ∷ [])
    ++ (1100 ∷ 210 ∷ 106 ∷ 104 ∷ 110 ∷ 111 ∷ 120 ∷ [])
    ++ (512345 ∷ [])
    ++ networks 0 14
    ++ (3100 ∷ 4200 ∷ [])
    ++ (587 ∷ [])

-- February and March 2024
abbrev pub period_u : Period
period_u = record { year = 2024; month = 2; months = 2 }

-- three tiers, in regions 4 and 9 by Standard Credit
abbrev pub three_tiers : ℕ → List ℕ
three_tiers standing = 1 ∷ 3 ∷ standing ∷ 528 ∷ 1 ∷ 20000 ∷ 18700 ∷ 10000 ∷ 0 ∷ 50 ∷ 400 ∷ 0 ∷ 0 ∷ nothing_added

-- Economy 7, in regions 0 and 13 by both methods
abbrev pub peak_at : ℕ → List ℕ
peak_at peak = 2 ∷ 2 ∷ 20000 ∷ 8193 ∷ 3 ∷ peak ∷ 14000 ∷ 0 ∷ 0 ∷ 0 ∷ 0 ∷ 0 ∷ 0 ∷ nothing_added

-- three registers of 50, 30 and 20 percent, in tenths, in regions 3 and 13 by both methods
abbrev pub three_registers : ℕ → List ℕ
three_registers rate = 3 ∷ 3 ∷ 18000 ∷ 8200 ∷ 3 ∷ rate ∷ 20000 ∷ 9000 ∷ 0 ∷ 500 ∷ 300 ∷ 200 ∷ 0 ∷ nothing_added

-- two registers, of which the first has all the consumption, in regions 1 and 12 by Other
abbrev pub all_in_one : List ℕ
all_in_one = 3 ∷ 2 ∷ 20000 ∷ 4098 ∷ 2 ∷ 15000 ∷ 150000 ∷ 0 ∷ 0 ∷ 1000 ∷ 0 ∷ 0 ∷ 0 ∷ nothing_added

-- what each region may add at most to 20,000 a day: with one rate of 15,000, where it falls from region to region as NC does, and with Economy
-- 7 at 15,000 and 14,000, where it rises
abbrev pub most_added : List ℕ
most_added = 10241 ∷ 10213 ∷ 10185 ∷ 10157 ∷ 10129 ∷ 10102 ∷ 10074 ∷ 10046 ∷ 10018 ∷ 9990 ∷ 9962 ∷ 9934 ∷ 9906 ∷ 9879 ∷ []

abbrev pub most_added_seven : List ℕ
most_added_seven = 13953 ∷ 14008 ∷ 14064 ∷ 14120 ∷ 14176 ∷ 14231 ∷ 14287 ∷ 14343 ∷ 14399 ∷ 14455 ∷ 14510 ∷ 14566 ∷ 14622 ∷ 14678 ∷ []

-- everywhere, with so much added
abbrev pub flat_with : List ℕ → List ℕ
flat_with fourteen = adding fourteen (flat 20000 15000)

abbrev pub seven_with : List ℕ → List ℕ
seven_with fourteen = adding fourteen (economy_seven 20000 15000 14000)

-- A sheet on which the benchmark at m is below that at nil in one region, arrangement and method alone. All indices, both m and the peak
-- share are 1; OC0 is 1 at m of the arrangement, NC of the region is 2 at nil and 1 at m, and PAP of the method is a quarter:
-- 2 + Round(0.5) = 3 at nil, 1 + Round(0.25) + 1 + Round(0.25) = 2 at m. By the other method it is 2 and 2.
unfoldable pub lone_field : ℕ → ℕ → ℕ → ℕ → ℕ
lone_field region arrangement method k =
    cond (eqb k (12 + 2 * arrangement + 1)) 1
    (cond (eqb k (18 + method)) 250000
    (cond (leb 22 k && leb k 35) 1
    (cond (eqb k (37 + 4 * region + 2 * arrangement)) 2
    (cond (eqb k (37 + 4 * region + 2 * arrangement + 1)) 1 (cond (leb 93 k) 1 0)))))

unfoldable pub lone_pair : ℕ → ℕ → ℕ → List ℕ
lone_pair region arrangement method = tabulate field_count (lone_field region arrangement method)
