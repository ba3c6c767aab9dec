-- The table of standing charges by region holds: the verdicts by the scan of the corners.
-- Assumes nothing.
use mathlib.Core.Path.{refl}
use lib.Count.{ones, ones_in}
use lib.ListN.{set}
use Rattle.laws.proofs.Pieces.{scan}
use Rattle.laws.specs.Notions.{every, sum, total, bit}
use Rattle.shares.specs.Shares.{weighted}
use Rattle.fours.specs.Fours.{zero_from, within, rising}
use Rattle.tariff.specs.Tariff.{tariff_of, standing_in, record_check, valid_tariff, region_fits, valid_kind, single_register, rates_within}
use Rattle.charge.specs.Charge.{arrangement, tier_charge, month_charge, charge}
use Rattle.charge.specs.Tiers.{tiers_of}
use Rattle.cap.specs.Cap.{maximum, charged, capped, excess}
use Rattle.cap.specs.Corners.{corners_to}
use Rattle.cap.proofs.Scanned.{scanned_months}
use Rattle.verdict.specs.Cells.{offered, cell_numbers, cell_count}
use Rattle.verdict.proofs.Scanned.{scanned_below, scanned_verdict}
use Rattle.reference.specs.SheetS.{times, sheet_s, in_every, in_region, adding, flat, tiered}
use Rattle.reference.specs.Regional.{with_more, RegionalVerdicts, Regional}
use Rattle.reference.proofs.Table.{known, on_known}

-- the verdicts, by the scan
computed : RegionalVerdicts (λ x. scanned_verdict known (tariff_of x))
unfolding scanned_verdict scanned_below offered bit cell_numbers standing_in arrangement scanned_months corners_to tiers_of scan tier_charge weighted month_charge charge maximum charged capped excess sum total cell_count ones ones_in sheet_s times
computed =
    record {
      within = refl;
      within_in_5 = refl;
      over_in_5 = refl;
      over_in_0 = refl;
      over_in_13 = refl;
      over_in_two = refl;
      none_in_field_2 = refl;
      over_in_7 = refl;
      tiers_over = refl;
    }

-- THE TABLE
pub regional : Regional
unfolding record_check valid_tariff region_fits standing_in every bit valid_kind single_register rates_within zero_from within rising
regional =
    record {
      verdicts =
          record {
            within = on_known (with_more (in_every 960)) _ refl computed.within;
            within_in_5 = on_known (with_more (in_region 5 960)) _ refl computed.within_in_5;
            over_in_5 = on_known (with_more (in_region 5 961)) _ refl computed.over_in_5;
            over_in_0 = on_known (with_more (in_region 0 961)) _ refl computed.over_in_0;
            over_in_13 = on_known (with_more (in_region 13 961)) _ refl computed.over_in_13;
            over_in_two = on_known (with_more (set (in_region 9 961) 3 961)) _ refl computed.over_in_two;
            none_in_field_2 = on_known (adding (in_every 23960) (flat 0 18000)) _ refl computed.none_in_field_2;
            over_in_7 = on_known (adding (set (in_every 23960) 7 23961) (flat 0 18000)) _ refl computed.over_in_7;
            tiers_over = on_known (adding (in_every 20000) (tiered 0 20000 100 15000)) _ refl computed.tiers_over;
          };
      sums = (refl, refl, refl, refl);
      no_wrapping = (refl, refl);
      field_2 = (refl, refl);
      not_offered = (refl, refl, refl);
      lengths = (refl, refl, refl);
      records = (refl, refl, refl);
    }
