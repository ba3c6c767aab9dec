-- Sheet S of document 01 with the split of 28AD.31, its period and the tariffs of the starred verdicts, as the numbers that a caller hands in.
-- Assumes nothing.
use Rattle.std.specs.Prelude.{List, [], ◌∷◌, ◌++◌, ℕ, zero, suc, set, take, replicate}
use Rattle.calendar.specs.declared.Period.{Period}
use Rattle.sheet.specs.Sheet.{peak_field}

-- a list n times over
unfoldable pub times : ℕ → List ℕ → List ℕ
times zero xs = []
times (suc n) xs = xs ++ times n xs

-- DF0, CM0, PC0, OC0; HAP, PAP, PAAC; initial and current DFI, CMI, CPIH and PI; SMNCC; NC of each region; m; and M-103's peak share, 580
unfoldable pub sheet_s : List ℕ
sheet_s =
    (0 ∷ 30000000 ∷ 0 ∷ 36000000 ∷ [])
    ++ (0 ∷ 1000000 ∷ 0 ∷ 1000000 ∷ [])
    ++ (1000000 ∷ 8000000 ∷ 1000000 ∷ 8000000 ∷ [])
    ++ (5000000 ∷ 9000000 ∷ 5000000 ∷ 9000000 ∷ [])
    ++ (10000 ∷ 10000 ∷ 20000 ∷ 0 ∷ 400000 ∷ 0 ∷ [])
    ++ (1000 ∷ 100 ∷ 100 ∷ 100 ∷ 100 ∷ 100 ∷ 100 ∷ [])
    ++ (1100 ∷ 100 ∷ 105 ∷ 100 ∷ 100 ∷ 100 ∷ 100 ∷ [])
    ++ (500000 ∷ [])
    ++ times 14 (2000000 ∷ 12000000 ∷ 2000000 ∷ 12000000 ∷ [])
    ++ (3000 ∷ 4000 ∷ [])
    ++ (580 ∷ [])

-- the same with another peak share
abbrev pub with_split : ℕ → List ℕ
with_split tenths = set sheet_s peak_field tenths

-- October 2023, t 3
abbrev pub period_s : Period
period_s = record { year = 2023; month = 10; months = 3 }

-- what the fourteen regions add to the standing charge: nothing; the same everywhere; or something in one region alone
abbrev pub nothing_added : List ℕ
nothing_added = replicate 14 0

abbrev pub in_every : ℕ → List ℕ
in_every mills = replicate 14 mills

abbrev pub in_region : ℕ → ℕ → List ℕ
in_region region mills = set nothing_added region mills

-- a record with other numbers there
abbrev pub adding : List ℕ → List ℕ → List ℕ
adding fourteen x = take 13 x ++ fourteen

-- all regions and both methods: a kind, n, a standing charge, four rates and four steps, with nothing added in any region
abbrev pub offered_everywhere : ℕ → ℕ → ℕ → List ℕ → List ℕ → List ℕ
offered_everywhere kind n standing rates steps = kind ∷ n ∷ standing ∷ 16383 ∷ 3 ∷ (rates ++ steps ++ nothing_added)

abbrev pub no_steps : List ℕ
no_steps = 0 ∷ 0 ∷ 0 ∷ 0 ∷ []

-- one rate; two rates with one step; Economy 7; two registers with their shares
abbrev pub flat : ℕ → ℕ → List ℕ
flat standing rate = offered_everywhere 1 1 standing (rate ∷ 0 ∷ 0 ∷ 0 ∷ []) no_steps

abbrev pub tiered : ℕ → ℕ → ℕ → ℕ → List ℕ
tiered standing rate step next = offered_everywhere 1 2 standing (rate ∷ next ∷ 0 ∷ 0 ∷ []) (step ∷ 0 ∷ 0 ∷ 0 ∷ [])

abbrev pub economy_seven : ℕ → ℕ → ℕ → List ℕ
economy_seven standing peak offPeak = offered_everywhere 2 2 standing (peak ∷ offPeak ∷ 0 ∷ 0 ∷ []) no_steps

abbrev pub two_registers : ℕ → ℕ → ℕ → ℕ → ℕ → List ℕ
two_registers standing rate share next rest = offered_everywhere 3 2 standing (rate ∷ next ∷ 0 ∷ 0 ∷ []) (share ∷ rest ∷ 0 ∷ 0 ∷ [])
