-- The table of sheet U holds: the figures by computation, the verdicts by the scan of the corners.
-- Assumes nothing.
use mathlib.Core.Path.{◌≡◌, refl}
use mathlib.Core.Bool.{true}
use mathlib.Core.List.{List}
use Prim.Native.Nat.{ℕ, ◌≤◌}
use native.Mathlib.Omega.{arith}
use lib.Count.{ones, ones_in}
use lib.ListN.{set}
use Rattle.laws.proofs.Pieces.{scan}
use Rattle.laws.specs.Notions.{every, sum, total, tabulate, tabulate_from, bit}
use Rattle.calendar.specs.Calendar.{period_days, period_in_range, month_begins, length_at, month_length, leap_year}
use Rattle.shares.specs.Shares.{whole_share, weighted}
use Rattle.sheet.specs.Sheet.{peak_share, signed, value_of, range_of, field_in_range, fields_in_range, round, round_signed, indexed, four_fit, paac_fits, terms_fit}
use Rattle.benchmark.specs.declared.Benchmarks.{Benchmarks}
use Rattle.benchmark.specs.Benchmark.{benchmark, wc, pc, oc, nc, paenc, headroom, panc, figure, figures, ocs_fit, ordered, set_check}
use Rattle.benchmark.specs.Common.{costs_at, sum_from, common, common_at, commons}
use Rattle.fours.specs.Fours.{zero_from, within, rising}
use Rattle.tariff.specs.Tariff.{tariff_of, standing_in, record_check, valid_tariff, region_fits, valid_kind, single_register, economy7, multi_register, rates_within}
use Rattle.charge.specs.Charge.{arrangement, tier_charge, month_charge, charge}
use Rattle.charge.specs.Tiers.{tiers_of}
use Rattle.cap.specs.Cap.{maximum, charged, capped, excess}
use Rattle.cap.specs.Corners.{corners_to}
use Rattle.cap.proofs.Scanned.{scanned_months}
use Rattle.verdict.specs.Cells.{offered, cell_numbers, cell_count, Verdict}
use Rattle.verdict.proofs.Scanned.{scanned_below, scanned_verdict}
use Rattle.reference.proofs.Scanning.{formed, by_scan}
use Rattle.unlike.specs.SheetU.{networks, sheet_u, period_u, three_tiers, peak_at, three_registers, all_in_one, most_added, most_added_seven, flat_with, seven_with, lone_field, lone_pair}
use Rattle.unlike.specs.Unlike.{UnlikeVerdicts, Unlike, verdict_on}
use Rattle.unlike.proofs.Figures.{charges_u, charges_of_u, days_of_u}

-- the figures of sheet U, worked out
abbrev known : Benchmarks
known = formed sheet_u period_u charges_u 60

split : peak_share sheet_u ≤ whole_share
unfolding sheet_u networks
split = omega arith

on_known : (x : List ℕ) (v : Verdict) → valid_tariff (tariff_of x) ≡ true → scanned_verdict known (tariff_of x) ≡ v → verdict_on x ≡ v
on_known = by_scan sheet_u period_u charges_u 60 charges_of_u days_of_u split

-- the verdicts, by the scan
computed : UnlikeVerdicts (λ x. scanned_verdict known (tariff_of x))
unfolding scanned_verdict scanned_below offered bit cell_numbers standing_in arrangement scanned_months corners_to tiers_of scan tier_charge weighted month_charge charge maximum charged capped excess sum total cell_count ones ones_in sheet_u networks
computed =
    record {
      tiers_over = refl;
      tiers_within = refl;
      economy_over = refl;
      registers_over = refl;
      registers_within = refl;
      all_in_one_lem = refl;
      most_added_lem = refl;
      more_in_4 = refl;
      more_in_13 = refl;
      neighbours_exchanged = refl;
      seven_most_added = refl;
      seven_more_in_6 = refl;
    }

-- THE TABLE
pub unlike : Unlike
unfolding commons common_at common sum_from costs_at set_check fields_in_range field_in_range value_of signed range_of every sum terms_fit four_fit paac_fits ocs_fit ordered period_in_range figures figure tabulate tabulate_from benchmark wc pc oc nc paenc headroom panc indexed round round_signed sheet_u networks lone_field lone_pair period_days month_begins length_at month_length leap_year record_check valid_tariff region_fits standing_in bit valid_kind single_register economy7 multi_register rates_within zero_from within rising
unlike =
    record {
      accepted = refl;
      days = refl;
      sums = refl;
      costs_traced = (refl, refl, refl);
      shares_traced = (refl, refl);
      network_traced = (refl, refl);
      first_region = refl;
      last_region = refl;
      verdicts =
          record {
            tiers_over = on_known (three_tiers 27000) _ refl computed.tiers_over;
            tiers_within = on_known (three_tiers 26000) _ refl computed.tiers_within;
            economy_over = on_known (peak_at 16100) _ refl computed.economy_over;
            registers_over = on_known (three_registers 15000) _ refl computed.registers_over;
            registers_within = on_known (three_registers 14000) _ refl computed.registers_within;
            all_in_one_lem = on_known all_in_one _ refl computed.all_in_one_lem;
            most_added_lem = on_known (flat_with most_added) _ refl computed.most_added_lem;
            more_in_4 = on_known (flat_with (set most_added 4 10130)) _ refl computed.more_in_4;
            more_in_13 = on_known (flat_with (set most_added 13 9880)) _ refl computed.more_in_13;
            neighbours_exchanged = on_known (flat_with (set (set most_added 3 10129) 4 10157)) _ refl computed.neighbours_exchanged;
            seven_most_added = on_known (seven_with most_added_seven) _ refl computed.seven_most_added;
            seven_more_in_6 = on_known (seven_with (set most_added_seven 6 14288)) _ refl computed.seven_more_in_6;
          };
      records = (refl, refl, refl, refl);
      each_pair = refl;
    }
