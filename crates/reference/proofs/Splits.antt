-- The table of other splits holds: the verdicts by the scan of the corners.
-- Assumes nothing.
use mathlib.Core.Path.{◌≡◌, refl}
use mathlib.Core.Bool.{true}
use mathlib.Core.List.{List}
use Prim.Native.Nat.{ℕ, ◌≤◌}
use native.Mathlib.Omega.{arith}
use lib.Count.{ones, ones_in}
use Rattle.laws.proofs.Pieces.{scan}
use Rattle.laws.specs.Notions.{every, sum, total, tabulate, tabulate_from, bit}
use Rattle.calendar.specs.Calendar.{period_in_range}
use Rattle.shares.specs.Shares.{whole_share, weighted}
use Rattle.sheet.specs.Sheet.{signed, value_of, range_of, field_in_range, fields_in_range, round, round_signed, indexed, four_fit, paac_fits, terms_fit}
use Rattle.benchmark.specs.Benchmark.{benchmark, wc, pc, oc, nc, paenc, headroom, panc, figure, figures, ocs_fit, ordered, set_check}
use Rattle.fours.specs.Fours.{zero_from, within, rising}
use Rattle.tariff.specs.Tariff.{tariff_of, standing_in, record_check, valid_tariff, region_fits, valid_kind, single_register, economy7, multi_register, rates_within}
use Rattle.charge.specs.Charge.{arrangement, tier_charge, month_charge, charge}
use Rattle.charge.specs.Tiers.{tiers_of}
use Rattle.cap.specs.Cap.{maximum, charged, capped, excess}
use Rattle.cap.specs.Corners.{corners_to}
use Rattle.cap.proofs.Scanned.{scanned_months}
use Rattle.verdict.specs.Cells.{offered, cell_numbers, cell_count, Verdict}
use Rattle.verdict.proofs.Scanned.{scanned_below, scanned_verdict}
use Rattle.reference.specs.SheetS.{times, sheet_s, with_split, period_s, flat, economy_seven}
use Rattle.reference.specs.Splits.{verdict_under, day_dear, night_dear, registers_at, SplitVerdicts, even_sheet, january, even_verdict, EvenVerdicts, Splits}
use Rattle.reference.proofs.Scanning.{formed, by_scan}
use Rattle.reference.proofs.Figures.{charges_s, charges_of_s, days_of_s, even_charges, charges_even, days_in_january}

-- the verdicts, by the scan
computed : SplitVerdicts (λ tenths x. scanned_verdict (formed (with_split tenths) period_s charges_s 92) (tariff_of x))
unfolding scanned_verdict scanned_below offered bit cell_numbers standing_in arrangement scanned_months corners_to tiers_of scan tier_charge weighted month_charge charge maximum charged capped excess sum total cell_count ones ones_in sheet_s times
computed =
    record {
      at_579 = refl;
      at_580 = refl;
      at_0 = refl;
      at_1000 = refl;
      night_at_420 = refl;
      night_at_421 = refl;
      night_at_0 = refl;
      registers_over = refl;
      registers_within = refl;
      flat_within = refl;
    }

even_computed : EvenVerdicts (λ tenths x. scanned_verdict (formed (even_sheet tenths) january even_charges 31) (tariff_of x))
unfolding scanned_verdict scanned_below offered bit cell_numbers standing_in arrangement scanned_months corners_to tiers_of scan weighted month_charge charge maximum charged capped excess sum total cell_count ones ones_in even_sheet times
even_computed =
    record {
      exact = refl;
      peak_over = refl;
      peak_under = refl;
      off_peak_over = refl;
      off_peak_under = refl;
      standing_over = refl;
      standing_under = refl;
      split_over = refl;
      split_under = refl;
    }

-- a verdict by the scan, of sheet S and of the even one
on_known : (tenths : ℕ) → tenths ≤ whole_share → (x : List ℕ) (v : Verdict) → valid_tariff (tariff_of x) ≡ true
    → scanned_verdict (formed (with_split tenths) period_s charges_s 92) (tariff_of x) ≡ v → verdict_under tenths x ≡ v
unfolding sheet_s times
on_known tenths h = by_scan (with_split tenths) period_s charges_s 92 (charges_of_s tenths) days_of_s h

on_even : (tenths : ℕ) → tenths ≤ whole_share → (x : List ℕ) (v : Verdict) → valid_tariff (tariff_of x) ≡ true
    → scanned_verdict (formed (even_sheet tenths) january even_charges 31) (tariff_of x) ≡ v → even_verdict tenths x ≡ v
unfolding even_sheet times
on_even tenths h = by_scan (even_sheet tenths) january even_charges 31 (charges_even tenths) days_in_january h

-- THE TABLE
pub splits : Splits
unfolding set_check fields_in_range field_in_range value_of signed range_of every sum terms_fit four_fit paac_fits ocs_fit ordered period_in_range figures figure tabulate tabulate_from benchmark wc pc oc nc paenc headroom panc indexed round round_signed sheet_s even_sheet times record_check valid_tariff region_fits standing_in bit valid_kind single_register economy7 multi_register rates_within zero_from within rising
splits =
    record {
      accepted = (refl, refl, refl);
      refused = (refl, refl);
      verdicts =
          record {
            at_579 = on_known 579 (omega arith) day_dear _ refl computed.at_579;
            at_580 = on_known 580 (omega arith) day_dear _ refl computed.at_580;
            at_0 = on_known 0 (omega arith) day_dear _ refl computed.at_0;
            at_1000 = on_known 1000 (omega arith) day_dear _ refl computed.at_1000;
            night_at_420 = on_known 420 (omega arith) night_dear _ refl computed.night_at_420;
            night_at_421 = on_known 421 (omega arith) night_dear _ refl computed.night_at_421;
            night_at_0 = on_known 0 (omega arith) night_dear _ refl computed.night_at_0;
            registers_over = on_known 0 (omega arith) (registers_at 580 420) _ refl computed.registers_over;
            registers_within = on_known 1000 (omega arith) (registers_at 579 421) _ refl computed.registers_within;
            flat_within = on_known 579 (omega arith) (flat 23000 18000) _ refl computed.flat_within;
          };
      even_accepted = refl;
      even =
          record {
            exact = on_even 580 (omega arith) (economy_seven 20000 17100 12100) _ refl even_computed.exact;
            peak_over = on_even 580 (omega arith) (economy_seven 20000 17101 12100) _ refl even_computed.peak_over;
            peak_under = on_even 580 (omega arith) (economy_seven 20000 17099 12100) _ refl even_computed.peak_under;
            off_peak_over = on_even 580 (omega arith) (economy_seven 20000 17100 12101) _ refl even_computed.off_peak_over;
            off_peak_under = on_even 580 (omega arith) (economy_seven 20000 17100 12099) _ refl even_computed.off_peak_under;
            standing_over = on_even 580 (omega arith) (economy_seven 20001 17100 12100) _ refl even_computed.standing_over;
            standing_under = on_even 580 (omega arith) (economy_seven 19999 17100 12100) _ refl even_computed.standing_under;
            split_over = on_even 581 (omega arith) (economy_seven 20000 17100 12100) _ refl even_computed.split_over;
            split_under = on_even 579 (omega arith) (economy_seven 20000 17100 12100) _ refl even_computed.split_under;
          };
      records = (refl, refl, refl, refl);
    }
