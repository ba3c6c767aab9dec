-- What the queries give holds: the calls before them are accepted, and the rest is computed.
-- Assumes nothing.
use mathlib.Core.Path.{◌≡◌, refl, sym, subst₂}
use Rattle.laws.specs.Notions.{every, sum, total, tabulate, tabulate_from, bit}
use Rattle.calendar.specs.Calendar.{period_days, month_begins, length_at, month_length, leap_year}
use Rattle.shares.specs.Shares.{weighted}
use Rattle.sheet.specs.Sheet.{signed, value_of, round, round_signed, indexed}
use Rattle.benchmark.specs.Benchmark.{benchmark, wc, pc, oc, nc, paenc, headroom, panc, figure, figures, benchmarks_of}
use Rattle.tariff.specs.Tariff.{standing_in}
use Rattle.charge.specs.Charge.{arrangement, tier_charge, charge}
use Rattle.cap.specs.Cap.{maximum, charged, capped}
use Rattle.verdict.specs.Cells.{offered, cell_numbers}
use Rattle.book.specs.declared.Book.{Book}
use Rattle.book.specs.Calls.{sheet_at, SET, PUT}
use Rattle.book.specs.Book.{fresh, book_after, step, changed}
use Rattle.queries.specs.Queries.{benchmark_of, maximum_of}
use Rattle.quoting.specs.Quote.{quote_of, cell_allowed, months_allowed}
use Rattle.unlike.specs.SheetU.{networks, sheet_u, period_u, three_tiers, peak_at, three_registers}
use Rattle.unlike.proofs.Table.{unlike}
use Rattle.worked_queries.specs.Queried.{three_tariffs, no_sheet, Queried}

-- the calls are accepted
abbrev pub three : Book
three = changed (changed (changed (changed fresh (SET (sheet_at sheet_u period_u))) (PUT 1 (three_tiers 27000))) (PUT 4 (three_registers 15000))) (PUT 5 (peak_at 16100))

abbrev pub bare : Book
bare = changed fresh (PUT 4 (three_registers 15000))

pub after_four : three_tariffs ≡ three
unfolding book_after step
after_four = rw (unlike.accepted, unlike.records.0, unlike.records.2, unlike.records.1)

pub after_one : no_sheet ≡ bare
unfolding book_after step
after_one = rw unlike.records.2

computed : Queried three bare
unfolding benchmark_of maximum_of quote_of cell_allowed months_allowed every offered bit cell_numbers standing_in arrangement tier_charge weighted charge maximum charged capped sum total benchmarks_of figures figure tabulate tabulate_from benchmark wc pc oc nc paenc headroom panc value_of signed indexed round round_signed sheet_u networks period_days month_begins length_at month_length leap_year
computed =
    record {
      benchmark_refused = (refl, refl);
      maximum_refused = (refl, refl);
      benchmark_given = refl;
      maximum_given = refl;
      quote_6 = refl;
      quote_9 = refl;
      quote_10 = refl;
      quote_13_region = (refl, refl);
      quote_13_method = (refl, refl);
      quote_13_months = (refl, refl);
      quoted_tiers = refl;
      quoted_registers = refl;
      quoted_economy = refl;
      quoted_most = refl;
    }

pub queried : Queried three_tariffs no_sheet
queried = subst₂ Queried (sym after_four) (sym after_one) computed
