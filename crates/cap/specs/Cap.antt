-- "Relevant Maximum Charge (28AD.6)" of document 01, the excess of a tariff over it, and what it means to exceed in a cell.
-- Assumes nothing.
use Rattle.std.specs.Prelude.{◌≡◌, List, ℕ, ◌+◌, ◌-◌, ◌*◌, ◌≤◌, ℤ, pos, ◌-ℤ◌, length, get_or, replicate, ◌<ℤ◌}
use Rattle.laws.specs.Notions.{sum}
use Rattle.laws.specs.Greatest.{first_greatest}
use Rattle.shares.specs.Shares.{whole_share}
use Rattle.tariff.specs.declared.Tariff.{Tariff}
use Rattle.charge.specs.Charge.{month_most, month_charge, charge}
use Rattle.cap.specs.declared.CellNumbers.{CellNumbers}

-- "With N and M the benchmarks at nil and m: 12 × m × maximum = N × t × m + 12 × (M - N) × total consumption."
-- Refusal 5 keeps M at N or above.
unfoldable pub maximum : CellNumbers → ℕ → ℕ
maximum e total = e.lower * e.months * e.m + 12 * (e.upper - e.lower) * total

-- M-103: "Every excess is now over 12,000 × m": the whole of the shares for the charge, 12 × m for the maximum
abbrev pub scale : CellNumbers → ℕ
scale e = 12 * whole_share * e.m

-- the charge and the maximum, each times this scale
unfoldable pub charged : CellNumbers → Tariff → List ℕ → ℕ
charged e x months = 12 * e.m * charge e.standing e.days e.peak x months

unfoldable pub capped : CellNumbers → List ℕ → ℕ
capped e months = whole_share * maximum e (sum months)

-- "The excess is 1,200 × m × (charge - maximum), a whole number", with M-103's scale for 1,200 × m
unfoldable pub excess : CellNumbers → Tariff → List ℕ → ℤ
excess e x months = pos (charged e x months) -ℤ pos (capped e months)

-- a list of t monthly consumptions
abbrev pub Months : ℕ → List ℕ → Type 0
Months t months = (length months ≡ t) × ((i : ℕ) → get_or months i 0 ≤ month_most)

-- "A tariff exceeds in a cell .. when its excess there is above 0 for some list of t monthly consumptions."
abbrev pub Exceeds : CellNumbers → Tariff → Type 0
Exceeds e x = (months : List ℕ) × Months e.months months × (pos 0 <ℤ excess e x months)

-- "A month's share is 1,200 × m × the charge for its kWh, less 1,200 × (M - N) × its kWh", at the same scale
unfoldable pub share : CellNumbers → Tariff → ℕ → ℤ
share e x kwh = pos (12 * e.m * month_charge e.peak x kwh) -ℤ pos (12 * whole_share * (e.upper - e.lower) * kwh)

-- "each the smallest at which a month's share of the excess is greatest"
unfoldable pub worst_month : CellNumbers → Tariff → ℕ
worst_month e x = first_greatest (share e x) month_most

-- the months of answer 11 (proofs/Worst.antt: `excess_most`, `each_worst`)
unfoldable pub worst_months : CellNumbers → Tariff → List ℕ
worst_months e x = replicate e.months (worst_month e x)
