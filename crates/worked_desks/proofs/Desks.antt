-- The worked lists of desks hold, and what desks are told of sheet U.
-- Assumes nothing.
use mathlib.Core.Path.{◌≡◌, refl, sym, ap, subst₂}
use mathlib.Core.Bool.{Bool, true, false}
use mathlib.Core.List.{[], ◌∷◌}
use lib.Count.{ones, ones_in}
use Rattle.laws.proofs.Pieces.{scan}
use Rattle.laws.specs.Notions.{every, sum, total, tabulate, tabulate_from, bit}
use Rattle.refusal.specs.declared.Check.{Check}
use Rattle.refusal.specs.declared.Check.TheVariants.{Pass}
use Rattle.refusal.specs.Checks.{checked, need}
use Rattle.shares.specs.Shares.{weighted}
use Rattle.calendar.specs.Calendar.{period_days, month_begins, length_at, month_length, leap_year}
use Rattle.sheet.specs.Sheet.{signed, value_of, round, round_signed, indexed}
use Rattle.benchmark.specs.Benchmark.{benchmark, wc, pc, oc, nc, paenc, headroom, panc, figure, figures, benchmarks_of}
use Rattle.fours.specs.Fours.{zero_from, within, rising}
use Rattle.tariff.specs.Tariff.{tariff_of, standing_in, record_check, valid_tariff, region_fits, valid_kind, single_register, rates_within}
use Rattle.desks.specs.Desks.{in_desk, covers}
use Rattle.charge.specs.Charge.{arrangement, tier_charge, month_charge, charge}
use Rattle.charge.specs.Tiers.{tiers_of}
use Rattle.cap.specs.Cap.{maximum, charged, capped, excess}
use Rattle.cap.specs.Corners.{corners_to}
use Rattle.cap.proofs.Scanned.{scanned_months}
use Rattle.verdict.specs.Cells.{cell, offered, cell_numbers, cell_count, opens, over}
use Rattle.verdict.proofs.Scanned.{scanned_below, scanned_verdict}
use Rattle.book.specs.Calls.{accepted, refused}
use Rattle.book.specs.Book.{fresh}
use Rattle.book.specs.Checks.{verdict_answer}
use Rattle.queries.specs.Queries.{benchmark_of, maximum_of}
use Rattle.quoting.specs.Quote.{quote_of, cell_allowed, months_allowed}
use Rattle.trial.proofs.Trials.{trial_outside}
use Rattle.reference.specs.SheetS.{times, sheet_s}
use Rattle.reference.specs.Starred.{verdict_on, tenfold}
use Rattle.reference.proofs.Table.{known, on_known}
use Rattle.unlike.specs.SheetU.{sheet_u, networks}
use Rattle.worked.specs.Worked.{quarter, no_fields}
use Rattle.worked_queries.specs.Queried.{three_tariffs, no_sheet}
use Rattle.worked_desks.specs.Desks.{low_in, high_in, Desks, ToldToDesks}
use Rattle.worked.proofs.Lists.{then, ended, told, quarter_set, no_fields_set, low_put, low_opens, low_cells}
use Rattle.worked_queries.proofs.Queried.{three, bare, after_four, after_one}

-- the tariffs in one region or another
records : (record_check (low_in 1) ≡ Pass) × (record_check (low_in 2) ≡ Pass) × (record_check (high_in 2) ≡ Pass)
unfolding record_check valid_tariff region_fits standing_in every bit valid_kind single_register rates_within zero_from within rising
records = (refl, refl, refl)

scanned : (scanned_verdict known (tariff_of (low_in 1)) ≡ opens 2) × (scanned_verdict known (tariff_of (low_in 2)) ≡ opens 2)
    × (scanned_verdict known (tariff_of (high_in 2)) ≡ over (cell 1 1) (0 ∷ 0 ∷ 0 ∷ []) (tenfold 133200000))
unfolding scanned_verdict scanned_below offered bit cell_numbers standing_in arrangement scanned_months corners_to tiers_of scan tier_charge weighted month_charge charge maximum charged capped excess sum total cell_count ones ones_in sheet_s times
scanned = (refl, refl, refl)

verdicts : (verdict_on (low_in 1) ≡ opens 2) × (verdict_on (low_in 2) ≡ opens 2) × (verdict_on (high_in 2) ≡ over (cell 1 1) (0 ∷ 0 ∷ 0 ∷ []) (tenfold 133200000))
unfolding valid_tariff region_fits standing_in every bit valid_kind single_register rates_within zero_from within rising
verdicts = (on_known (low_in 1) _ refl scanned.0, on_known (low_in 2) _ refl scanned.1, on_known (high_in 2) _ refl scanned.2)

-- PUT behind 6 and 7: of a record that is a tariff, what its desk may; and of one that is none, 8
put_by : {c : Check} (m : Bool) → c ≡ Pass → checked refused c (need refused m 17 accepted) ≡ need refused m 17 accepted
put_by m e = ap (λ c. checked refused c (need refused m 17 accepted)) e

no_tariff : (m : Bool) → checked refused (record_check []) (need refused m 17 accepted) ≡ refused 8
unfolding record_check
no_tariff m = refl

-- THE LISTS
pub desks : Desks
unfolding covers every bit
desks =
    record {
      own =
          told
          (then quarter_set
          (then (put_by true records.0)
          (then refl
          (then refl
          (then (ap verdict_answer verdicts.0) (then refl (then refl (then refl (then refl (then refl ended))))))))));
      half_inside =
          told
          (then quarter_set
          (then low_put
          (then refl
          (then refl
          (then refl (then refl (then low_opens (then refl (then refl (then refl (then low_cells ended)))))))))));
      between =
          told
          (then refl
          (then refl (then refl (then refl (then refl (then (put_by true records.0) (then refl (then refl ended))))))));
      put_over =
          told
          (then (no_tariff false)
          (then (put_by false records.0)
          (then (put_by false records.1)
          (then (put_by true records.0)
          (then (put_by false records.1)
          (then (put_by true records.1)
          (then (put_by false records.0)
          (then (put_by true records.1) (then quarter_set (then (ap verdict_answer verdicts.1) (then refl ended)))))))))));
      full_alone = told (then refl (then refl (then refl (then quarter_set (then refl (then no_fields_set (then refl ended)))))));
      over_there =
          told
          (then quarter_set (then (put_by true records.2) (then (ap verdict_answer verdicts.2) (then refl ended))));
      tried = (trial_outside fresh no_fields 16382 refl, trial_outside fresh quarter 32767 refl);
    }

computed : ToldToDesks three bare
unfolding in_desk covers benchmark_of maximum_of quote_of cell_allowed months_allowed every offered bit cell_numbers standing_in arrangement tier_charge weighted charge maximum charged capped sum total benchmarks_of figures figure tabulate tabulate_from benchmark wc pc oc nc paenc headroom panc value_of signed indexed round round_signed sheet_u networks period_days month_begins length_at month_length leap_year
computed =
    record {
      benchmark_told = refl;
      benchmark_outside = (refl, refl, refl);
      benchmark_bare = (refl, refl, refl);
      maximum_told = refl;
      maximum_outside = refl;
      maximum_bare = (refl, refl, refl);
      quote_told = refl;
      quote_outside = (refl, refl);
      quote_last = (refl, refl, refl);
    }

pub told_to_desks : ToldToDesks three_tariffs no_sheet
told_to_desks = subst₂ ToldToDesks (sym after_four) (sym after_one) computed
