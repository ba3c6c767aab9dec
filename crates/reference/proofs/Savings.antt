-- The table of sheet S with a saving holds: the figures by computation, the verdict by the scan of the corners.
-- Assumes nothing.
use mathlib.Core.Path.{◌≡◌, refl}
use mathlib.Core.List.{List, [], ◌∷◌}
use Prim.Native.Nat.{ℕ, ◌≤◌}
use native.Mathlib.Omega.{arith}
use lib.IntN.{pos}
use Rattle.laws.proofs.Pieces.{scan}
use Rattle.laws.specs.Notions.{every, sum, total, tabulate, tabulate_from, bit}
use Rattle.calendar.specs.Calendar.{period_in_range}
use Rattle.shares.specs.Shares.{whole_share}
use Rattle.sheet.specs.Sheet.{peak_share, signed, value_of, range_of, field_in_range, fields_in_range, round, round_signed, indexed, four_fit, paac_fits, terms_fit}
use Rattle.benchmark.specs.Benchmark.{benchmark, wc, pc, oc, nc, paenc, headroom, panc, figure, figures, ocs_fit, ordered, set_check}
use Rattle.benchmark.specs.Common.{costs_at, sum_from, common, common_at, commons}
use Rattle.fours.specs.Fours.{zero_from, within, rising}
use Rattle.tariff.specs.Tariff.{tariff_of, standing_in, valid_tariff, region_fits, valid_kind, single_register, rates_within}
use Rattle.charge.specs.Charge.{arrangement, tier_charge, month_charge, charge}
use Rattle.charge.specs.Tiers.{tiers_of}
use Rattle.cap.specs.Cap.{maximum, charged, capped, excess}
use Rattle.cap.specs.Corners.{corners_to}
use Rattle.cap.proofs.Scanned.{scanned_months}
use Rattle.verdict.specs.Cells.{cell, offered, cell_numbers, over}
use Rattle.verdict.proofs.Scanned.{scanned_below, scanned_verdict}
use Rattle.reference.specs.SheetS.{times, sheet_s, period_s, flat}
use Rattle.reference.specs.Savings.{saving, Savings}
use Rattle.reference.proofs.Scanning.{formed, by_scan}
use Rattle.reference.proofs.Figures.{days_of_s}

-- the charges with a saving of 500,000, worked out: each region's eight
abbrev charges : List ℕ
charges = times 14 (8387850 ∷ 65152890 ∷ 7807500 ∷ 63459500 ∷ 8387850 ∷ 71952210 ∷ 7807500 ∷ 70125500 ∷ [])

charges_are : figures saving ≡ charges
unfolding figures figure tabulate tabulate_from benchmark wc pc oc nc paenc headroom panc value_of signed indexed round round_signed sheet_s times
charges_are = refl

split : peak_share saving ≤ whole_share
unfolding sheet_s times
split = omega arith

falling : scanned_verdict (formed saving period_s charges 92) (tariff_of (flat 23960 18000)) ≡ over (cell 0 0) (0 ∷ 0 ∷ 0 ∷ []) (pos 3864870000000)
unfolding scanned_verdict scanned_below offered bit cell_numbers standing_in arrangement scanned_months corners_to tiers_of scan tier_charge month_charge charge maximum charged capped excess sum total sheet_s times
falling = refl

-- THE TABLE
pub savings : Savings
unfolding commons common_at common sum_from costs_at set_check fields_in_range field_in_range value_of signed range_of every terms_fit four_fit paac_fits ocs_fit ordered period_in_range figures figure tabulate tabulate_from benchmark wc pc oc nc paenc headroom panc indexed round round_signed sheet_s times valid_tariff region_fits standing_in bit valid_kind single_register rates_within zero_from within rising
savings =
    record {
      words = (refl, refl, refl, refl, refl);
      accepted = refl;
      ocs = (refl, refl, refl, refl);
      sums = refl;
      benchmarks = refl;
      falls = by_scan saving period_s charges 92 charges_are days_of_s split (flat 23960 18000) _ refl falling;
      nought = (refl, refl);
      nought_accepted = refl;
      nought_benchmarks = refl;
      a_mill_lower = refl;
    }
