-- Bounds of the products that the code forms in a cell of an accepted sheet.
-- Assumes nothing.
use Prim.Native.Nat.{ℕ, ◌+◌, ◌*◌, ◌-◌, ◌≤◌}
use native.Mathlib.Nat.{mul-le-mul}
use native.Mathlib.Omega.{arith}
use Rattle.shares.specs.Shares.{whole_share}
use Rattle.tariff.specs.Tariff.{standing_most}
use Rattle.charge.specs.Most.{months_most, days_most}
use Rattle.cap.specs.declared.CellNumbers.{CellNumbers}
use Rattle.cap.specs.Corners.{benchmark_most, level_most, total_most, room, month_charged_most, Fits}

module _ (e : CellNumbers) (h : Fits e) where
  pub months_part : e.lower * e.months ≤ benchmark_most * months_most
  months_part = let l : e.lower ≤ benchmark_most = omega (arith, h.ordered, h.upper_most) in mul-le-mul l h.months_most_lem

  -- N × t × m
  pub nil_part : e.lower * e.months * e.m ≤ benchmark_most * months_most * level_most
  nil_part = mul-le-mul months_part h.m_most

  -- 12 × (M - N) × total
  pub used_part : (total : ℕ) → total ≤ total_most → 12 * (e.upper - e.lower) * total ≤ 12 * benchmark_most * total_most
  used_part total k = let s : 12 * (e.upper - e.lower) ≤ 12 * benchmark_most = omega (arith, h.upper_most) in mul-le-mul s k

  pub scale_most : 12 * e.m ≤ 12 * level_most
  scale_most = omega (arith, h.m_most)

  -- standing × days, times the scale
  pub daily : e.standing * e.days ≤ standing_most * days_most
  daily = mul-le-mul h.standing_most_lem h.days_most_lem

  pub standing_part : 12 * e.m * (whole_share * (e.standing * e.days)) ≤ 12 * level_most * (whole_share * (standing_most * days_most))
  standing_part =
      let d : whole_share * (e.standing * e.days) ≤ whole_share * (standing_most * days_most) = omega (arith, daily) in mul-le-mul scale_most d

  -- t months of one consumption, on either side
  pub months_charged : (c : ℕ) → c ≤ month_charged_most + room → e.months * c ≤ months_most * (month_charged_most + room)
  months_charged c k = mul-le-mul h.months_most_lem k

  pub months_capped : (c : ℕ) → c ≤ room → e.months * c ≤ months_most * room
  months_capped c k = mul-le-mul h.months_most_lem k
