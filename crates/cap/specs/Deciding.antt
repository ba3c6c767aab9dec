-- The parts of a charge and of a maximum that a month's kWh bring, and those that they do not change: the sides that are compared to decide
-- whether a tariff exceeds in a cell (proofs/Deciding.antt).
-- Assumes nothing.
use Rattle.std.specs.Prelude.{ℕ, ◌+◌, ◌-◌, ◌*◌}
use Rattle.shares.specs.Shares.{whole_share}
use Rattle.tariff.specs.declared.Tariff.{Tariff}
use Rattle.charge.specs.Charge.{month_charge}
use Rattle.cap.specs.declared.CellNumbers.{CellNumbers}

-- the part of each side that a month's kWh bring, and the parts that they do not change
abbrev pub month_charged : CellNumbers → Tariff → ℕ → ℕ
month_charged e x kwh = 12 * e.m * month_charge e.peak x kwh

abbrev pub month_capped : CellNumbers → ℕ → ℕ
month_capped e kwh = 12 * whole_share * (e.upper - e.lower) * kwh

abbrev pub fixed_charged : CellNumbers → ℕ
fixed_charged e = 12 * e.m * (whole_share * (e.standing * e.days))

abbrev pub fixed_capped : CellNumbers → ℕ
fixed_capped e = whole_share * (e.lower * e.months * e.m)
