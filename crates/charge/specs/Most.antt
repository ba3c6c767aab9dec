-- The most of the numbers that the code adds up: products of the limits of the papers.
-- Assumes nothing.
use Rattle.std.specs.Prelude.{ℕ, ◌+◌, ◌*◌}
use Rattle.shares.specs.Shares.{whole_share}
use Rattle.tariff.specs.Tariff.{rate_most, standing_most}
use Rattle.charge.specs.Charge.{month_most}

-- the months of a period, and its days
abbrev pub months_most : ℕ
months_most = 12

abbrev pub days_most : ℕ
days_most = 372

-- a rate, a month's charge and the charge of a period, each times the whole of the shares
abbrev pub scaled_rate_most : ℕ
scaled_rate_most = rate_most * whole_share

abbrev pub month_charge_most : ℕ
month_charge_most = scaled_rate_most * month_most

abbrev pub charge_most : ℕ
charge_most = whole_share * (standing_most * days_most) + months_most * month_charge_most
