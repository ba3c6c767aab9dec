-- How the code looks for the worst month, and what it promises.
-- Assumes nothing.
use Rattle.std.specs.Prelude.{◌≡◌, List, [], ◌∷◌, ℕ, zero, suc, ◌+◌, ◌-◌, ◌*◌, ◌≤◌, ◌<◌, pos, get_or, take}
use Rattle.laws.proofs.Pieces.{Pieces}
use Rattle.shares.specs.Shares.{whole_share}
use Rattle.tariff.specs.declared.Tariff.{Tariff}
use Rattle.tariff.specs.Tariff.{standing_most}
use Rattle.charge.specs.declared.Tiers.{Tiers}
use Rattle.charge.specs.Charge.{month_most, month_charge}
use Rattle.charge.specs.Most.{months_most, days_most, month_charge_most}
use Rattle.cap.specs.declared.CellNumbers.{CellNumbers}
use Rattle.cap.specs.declared.Corners.{Corners}
use Rattle.cap.specs.declared.Share.{Share}
use Rattle.cap.specs.declared.Comparison.{Comparison}
use Rattle.cap.specs.declared.WorstCase.{WorstCase}
use Rattle.cap.specs.Cap.{charged, capped, excess, worst_month, worst_months}

-- the most of a benchmark and of m, and of what follows from them: a total, the maximum times 12 × m, what the cap allows for a kWh
-- and for a month's kWh, and a month's charge, each of these three times the scale
abbrev pub benchmark_most : ℕ
benchmark_most = 2400000000

abbrev pub level_most : ℕ
level_most = 20000

abbrev pub total_most : ℕ
total_most = months_most * month_most

abbrev pub maximum_most : ℕ
maximum_most = benchmark_most * months_most * level_most + 12 * benchmark_most * total_most

abbrev pub slope_most : ℕ
slope_most = 12 * whole_share * benchmark_most

abbrev pub room : ℕ
room = slope_most * month_most

abbrev pub month_charged_most : ℕ
month_charged_most = 12 * level_most * month_charge_most

-- the numbers of a cell of an accepted sheet
pub record Fits (e : CellNumbers) : Type 0 where
  pub ordered : e.lower ≤ e.upper
  pub upper_most : e.upper ≤ benchmark_most
  pub m_most : e.m ≤ level_most
  pub months_most_lem : e.months ≤ months_most
  pub days_most_lem : e.days ≤ days_most
  pub standing_most_lem : e.standing ≤ standing_most
  pub peak_most : e.peak ≤ whole_share

-- where the worst month is looked for, beside 0: the first k of a list of steps, and the end in every place that is left
unfoldable pub corners_to : ℕ → ℕ → List ℕ → List ℕ
corners_to end k [] = []
corners_to end zero (s ∷ ss) = end ∷ corners_to end zero ss
corners_to end (suc k) (s ∷ ss) = s ∷ corners_to end k ss

abbrev pub corners_of : ℕ → Tiers → List ℕ
corners_of end t = corners_to end (t.n - 1) t.steps

-- corners whose numbers fit
pub record Bounded (k : Corners) : Type 0 where
  pub at_most : (i : ℕ) → get_or k.at i 0 ≤ month_most
  pub charged_most : (i : ℕ) → get_or k.charged i 0 ≤ month_charged_most

-- each corner stands with u there
abbrev pub Priced : Corners → (ℕ → ℕ) → Type 0
Priced k u = (i : ℕ) → i < 4 → get_or k.charged i 0 ≡ u (get_or k.at i 0)

-- a month with its share, raised by the room
pub record Raised (u : ℕ → ℕ) (slope : ℕ) (w : Share) : Type 0 where
  pub within : w.month ≤ month_most
  pub is : w.raised + slope * w.month ≡ u w.month + room

-- k has the corners of a tariff, each with a month's charge there times the scale
pub record Cornered (peak : ℕ) (x : Tariff) (m : ℕ) (k : Corners) : Type 0 where
  pub bounded : Bounded k
  pub rises : List ℕ
  pub runs : Pieces (λ kwh. 12 * m * month_charge peak x kwh) month_most 0 rises k.at
  pub charges : Priced k (λ kwh. 12 * m * month_charge peak x kwh)

-- the worst month, and both sides of the comparison for t of it, raised by as much
pub record Compares (e : CellNumbers) (x : Tariff) (w : Comparison) : Type 0 where
  pub month_is : w.month ≡ worst_month e x
  pub within : w.month ≤ month_most
  pub raised : w.charged + capped e (worst_months e x) ≡ charged e x (worst_months e x) + w.capped

-- the months of answer 11 and their excess; places past the t months are 0
pub record Carries (e : CellNumbers) (x : Tariff) (w : WorstCase) : Type 0 where
  pub months : take e.months w.months ≡ worst_months e x
  pub rest : (i : ℕ) → e.months ≤ i → get_or w.months i 0 ≡ 0
  pub excess_is : pos w.excess ≡ excess e x (worst_months e x)
