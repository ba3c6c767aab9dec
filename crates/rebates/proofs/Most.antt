-- The most of a charge and of the scale, so that the code's arithmetic fits 64 bits.
-- Assumes nothing.
use mathlib.Core.Path.{◌≡◌}
use mathlib.Core.Bool.{true}
use mathlib.Core.List.{List}
use Prim.Native.Nat.{ℕ, ◌*◌, ◌≤◌, ◌<◌}
use native.Mathlib.Nat.{mul-le-mul, mul-le-mul_left}
use native.Mathlib.Omega.{arith}
use lib.ListN.{length, get_or}
use Rattle.laws.proofs.Bounds.{total_most_lem}
use Rattle.shares.specs.Shares.{whole_share}
use Rattle.benchmark.specs.declared.Benchmarks.{Benchmarks}
use Rattle.benchmark.specs.Lawful.{Lawful}
use Rattle.tariff.specs.declared.Tariff.{Tariff}
use Rattle.tariff.specs.Tariff.{standing_in, valid_tariff}
use Rattle.tariff.proofs.Validity.{valid_standing_in}
use Rattle.charge.specs.Charge.{arrangement, month_charge, charge}
use Rattle.charge.specs.Most.{month_charge_most}
use Rattle.charge.proofs.Months.{charge_monthly}
use Rattle.charge.proofs.TariffTiers.{month_most_lem}
use Rattle.cap.specs.Cap.{scale, charged, Months}
use Rattle.cap.specs.Corners.{level_most}
use Rattle.verdict.specs.Cells.{Cell, cell_numbers, tariff_numbers}
use Rattle.verdict.proofs.Walk.{arrangement_small}
use Rattle.rebates.specs.Repaid.{rebate_most}

-- what the tariff of a place is known to be, with the figures of a sheet, in a cell
module _ (f : Benchmarks) (x : Tariff) (c : Cell) (law : Lawful f) where
  pub scale_some : 0 < scale (tariff_numbers f x c)
  unfolding cell_numbers
  scale_some = omega (arith, law.level_some (arrangement x) (arrangement_small x))

  pub scale_most : scale (tariff_numbers f x c) ≤ 12 * whole_share * level_most
  unfolding cell_numbers
  scale_most = omega (arith, law.level_most_lem (arrangement x))

  module _ (valid : valid_tariff x ≡ true) (rates : length x.rates ≡ 4) (steps : length x.steps ≡ 4) (region : c.region < 14) (months : List ℕ) (listed : Months f.months months) where
    charge_most_lem : charge (standing_in x c.region) f.days f.peak x months ≤ whole_share * rebate_most
    charge_most_lem =
        omega (
          arith,
          charge_monthly (standing_in x c.region) f.days f.peak x months,
          mul-le-mul (valid_standing_in x c.region valid region) law.days_most_lem,
          total_most_lem (month_charge f.peak x) month_charge_most months (λ i. month_most_lem f.peak x law.peak_most valid rates steps (get_or months i 0) (listed.1 i)),
          listed.0,
          law.months_most_lem,
        )

    pub charged_most : charged (tariff_numbers f x c) x months ≤ rebate_most * scale (tariff_numbers f x c)
    unfolding charged cell_numbers
    charged_most = omega (arith, mul-le-mul_left (12 * get_or f.levels (arrangement x) 0) charge_most_lem)
