-- The table of starred verdicts holds: the figures of the sheet by computation, the verdicts by the scan of the corners.
-- Assumes nothing.
use mathlib.Core.Path.{◌≡◌, refl, ◌∙◌, ap}
use mathlib.Core.Bool.{true}
use mathlib.Core.List.{List, [], ◌∷◌}
use Prim.Native.Nat.{ℕ}
use lib.Count.{ones, ones_in}
use lib.IntN.{ℤ, pos, ◌-ℤ◌}
use Rattle.laws.proofs.Pieces.{scan}
use Rattle.laws.specs.Notions.{every, sum, total, tabulate, tabulate_from, bit}
use Rattle.calendar.specs.Calendar.{period_days, period_in_range, month_begins, length_at, month_length, leap_year}
use Rattle.shares.specs.Shares.{weighted}
use Rattle.sheet.specs.Sheet.{signed, value_of, range_of, field_in_range, fields_in_range, round, round_signed, indexed, four_fit, paac_fits, terms_fit}
use Rattle.benchmark.specs.declared.Benchmarks.{Benchmarks}
use Rattle.benchmark.specs.Benchmark.{benchmark, wc, pc, oc, nc, paenc, headroom, panc, figure, figures, ocs_fit, ordered, set_check}
use Rattle.benchmark.specs.Common.{costs_at, sum_from, common, common_at, commons}
use Rattle.fours.specs.Fours.{zero_from, within, rising}
use Rattle.tariff.specs.Tariff.{tariff_of, standing_in, record_check, valid_tariff, region_fits, valid_kind, single_register, economy7, multi_register, rates_within}
use Rattle.charge.specs.Charge.{arrangement, tier_charge, month_charge, charge}
use Rattle.charge.specs.Tiers.{tiers_of}
use Rattle.cap.specs.Cap.{maximum, charged, capped, excess}
use Rattle.cap.specs.Corners.{corners_to}
use Rattle.cap.proofs.Scanned.{scanned_months}
use Rattle.verdict.specs.Cells.{offered, cell_numbers, tariff_numbers, cell_count, Verdict}
use Rattle.verdict.proofs.Scanned.{scanned_below, scanned_verdict}
use Rattle.reference.specs.SheetS.{times, sheet_s, period_s, flat, tiered, economy_seven}
use Rattle.reference.specs.Starred.{StarredVerdicts, Starred, first_other, verdict_on, excess_of, tenfold}
use Rattle.reference.proofs.Scanning.{formed, is_formed, by_scan}
use Rattle.reference.proofs.Figures.{charges_s, charges_at_580, split_of_s, days_of_s}

-- the figures of sheet S, worked out
abbrev pub known : Benchmarks
known = formed sheet_s period_s charges_s 92

-- a verdict by the scan, on the known figures
pub on_known : (x : List ℕ) (v : Verdict) → valid_tariff (tariff_of x) ≡ true → scanned_verdict known (tariff_of x) ≡ v → verdict_on x ≡ v
on_known = by_scan sheet_s period_s charges_s 92 charges_at_580 days_of_s split_of_s

-- the excess in region 0 with method 1, on the known figures
by_figures : (x months : List ℕ) (d : ℤ) → excess (tariff_numbers known (tariff_of x) first_other) (tariff_of x) months ≡ d → excess_of x months ≡ d
by_figures x months d e = ap (λ (b : Benchmarks). excess (tariff_numbers b (tariff_of x) first_other) (tariff_of x) months) (is_formed sheet_s period_s charges_s 92 charges_at_580 days_of_s) ∙ e

-- the starred verdicts, by the scan
computed : StarredVerdicts (λ x. scanned_verdict known (tariff_of x))
unfolding scanned_verdict scanned_below offered bit cell_numbers standing_in arrangement scanned_months corners_to tiers_of scan tier_charge weighted month_charge charge maximum charged capped excess sum total cell_count ones ones_in sheet_s times
computed =
    record {
      within = refl;
      just_within = refl;
      just_over = refl;
      tiers_over = refl;
      at_the_cap = refl;
      a_mill_over = refl;
      economy_over = refl;
    }

-- 300 kWh in one month, and 5 kWh in each
below : excess_of (tiered 20000 20000 100 15000) (300 ∷ 0 ∷ 0 ∷ []) ≡ pos 0 -ℤ tenfold 3346470000000
unfolding cell_numbers standing_in arrangement tier_charge charge maximum charged capped excess sum total sheet_s times
below = by_figures (tiered 20000 20000 100 15000) (300 ∷ 0 ∷ 0 ∷ []) _ refl

nought : excess_of (tiered 0 165509 5 0) (5 ∷ 5 ∷ 5 ∷ []) ≡ pos 0
unfolding cell_numbers standing_in arrangement tier_charge charge maximum charged capped excess sum total sheet_s times
nought = by_figures (tiered 0 165509 5 0) (5 ∷ 5 ∷ 5 ∷ []) _ refl

-- THE TABLE
pub starred : Starred
unfolding commons common_at common sum_from costs_at set_check fields_in_range field_in_range value_of signed range_of every terms_fit four_fit paac_fits ocs_fit ordered period_in_range figures figure tabulate tabulate_from benchmark wc pc oc nc paenc headroom panc indexed round round_signed sheet_s times period_days month_begins length_at month_length leap_year record_check valid_tariff region_fits standing_in bit valid_kind single_register economy7 multi_register rates_within zero_from within rising
starred =
    record {
      accepted = refl;
      days = refl;
      sums = refl;
      other_nil = refl;
      other_m = refl;
      credit_nil = refl;
      credit_m = refl;
      economy_m = refl;
      verdicts =
          record {
            within = on_known (flat 23000 18000) _ refl computed.within;
            just_within = on_known (flat 23960 18000) _ refl computed.just_within;
            just_over = on_known (flat 23961 18000) _ refl computed.just_over;
            tiers_over = on_known (tiered 20000 20000 100 15000) _ refl computed.tiers_over;
            at_the_cap = on_known (tiered 0 165509 5 0) _ refl computed.at_the_cap;
            a_mill_over = on_known (tiered 0 165510 5 0) _ refl computed.a_mill_over;
            economy_over = on_known (economy_seven 23000 18000 12250) _ refl computed.economy_over;
          };
      one_month_below = below;
      excess_nought = nought;
      records = (refl, refl, refl);
    }
