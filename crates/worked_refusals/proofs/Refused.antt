-- The lists of refused calls hold, each answer by computation.
-- Assumes nothing.
use mathlib.Core.Path.{refl}
use Rattle.laws.specs.Notions.{every, sum, tabulate, tabulate_from, bit}
use Rattle.calendar.specs.Calendar.{period_in_range}
use Rattle.sheet.specs.Sheet.{signed, value_of, range_of, field_in_range, fields_in_range, round, round_signed, indexed, four_fit, paac_fits, terms_fit}
use Rattle.benchmark.specs.Benchmark.{benchmark, wc, pc, oc, nc, paenc, headroom, panc, figure, figures, ocs_fit, ordered, set_check}
use Rattle.fours.specs.Fours.{zero_from, within, rising}
use Rattle.tariff.specs.Tariff.{record_check, valid_tariff, region_fits, valid_kind, single_register, economy7, multi_register, rates_within, standing_in}
use Rattle.history.specs.History.{answers_after}
use Rattle.reference.specs.SheetS.{sheet_s, times}
use Rattle.unlike.specs.SheetU.{lone_field, lone_pair}
use Rattle.worked_refusals.specs.Refusals.{Refusals}

pub refusals : Refusals
unfolding answers_after set_check fields_in_range field_in_range value_of signed range_of every sum terms_fit four_fit paac_fits ocs_fit ordered period_in_range figures figure tabulate tabulate_from benchmark wc pc oc nc paenc headroom panc indexed round round_signed sheet_s times lone_field lone_pair record_check valid_tariff region_fits standing_in bit valid_kind single_register economy7 multi_register rates_within zero_from within rising
refusals =
    record {
      set_ranges = refl;
      set_count = refl;
      set_splits = refl;
      set_periods = refl;
      set_terms = refl;
      set_smncc = refl;
      set_ocs = refl;
      both_fail = (refl, refl, refl, refl);
      set_between = refl;
      put_steps = refl;
      put_shares = refl;
      put_regions = refl;
      empty_place = refl;
    }
