-- The worked runs hold: what QUOTE tells of each account is worked out, and the rebate is the division.
-- Assumes nothing.
use mathlib.Core.Path.{◌≡◌, refl, sym, ◌∙◌, ap, ap₂, subst}
use mathlib.Core.List.{[], ◌∷◌}
use Prim.Native.Nat.{◌+◌}
use native.Mathlib.Omega.{arith}
use Rattle.laws.specs.Notions.{every, sum, total, tabulate, tabulate_from, bit}
use Rattle.calendar.specs.Calendar.{period_days, month_begins, length_at, month_length, leap_year}
use Rattle.sheet.specs.Sheet.{signed, value_of, round, round_signed, indexed}
use Rattle.benchmark.specs.Benchmark.{benchmark, wc, pc, oc, nc, paenc, headroom, panc, figure, figures, benchmarks_of}
use Rattle.tariff.specs.Tariff.{standing_in, all_fourteen}
use Rattle.desks.specs.Desks.{covers}
use Rattle.charge.specs.Charge.{arrangement, tier_charge, charge}
use Rattle.cap.specs.Cap.{maximum, charged, capped}
use Rattle.verdict.specs.Cells.{offered, cell_numbers}
use Rattle.book.specs.declared.Book.{Book}
use Rattle.book.specs.Calls.{SET, PUT, OPEN, DIRECT, accepted, cells}
use Rattle.book.specs.Book.{fresh, changed}
use Rattle.queries.specs.Queries.{Quotation, quotation}
use Rattle.quoting.specs.Quote.{quote_of, cell_allowed, months_allowed}
use Rattle.rebates.specs.Rebates.{quoted_of, fails19, fails18, first_from, scale_for, due_by, due_of, with_rebate, total_of, run_of, after_run}
use Rattle.rebates.specs.Rebates as run
use Rattle.rebates.proofs.Rounded.{rebate_divided, rebate_none}
use Rattle.reference.specs.SheetS.{sheet_s, times}
use Rattle.worked.specs.Worked.{quarter, low, steep}
use Rattle.worked.proofs.Lists.{quarter_set, low_put, low_opens}
use Rattle.worked_queries.proofs.Tried.{makes}
use Rattle.worked_queries.proofs.Tried as made
use Rattle.worked_directions.proofs.Directions.{steep_put}
use Rattle.worked_directions.specs.Rebates.{at_quarter_end, even, lumped, of_code, of_count, Rebates}

-- the book after the eight calls
abbrev left : Book
left = changed (changed (changed (changed (changed (changed (changed (changed fresh (SET quarter)) (PUT 7 steep)) (DIRECT 7)) (OPEN 7)) (PUT 8 low)) (OPEN 8)) (PUT 9 steep)) (DIRECT 9)

all_made : at_quarter_end ≡ left
all_made =
    makes
    (made.then accepted quarter_set refl
    (made.then accepted steep_put refl
    (made.then accepted refl refl
    (made.then (cells 0) refl refl
    (made.then accepted low_put refl (made.then (cells 28) low_opens refl (made.then accepted steep_put refl (made.then accepted refl refl made.ended))))))))

-- what QUOTE tells of the two households, and the scale
abbrev even_quote : Quotation
even_quote = record { charge = 282240000000000; maximum = 279704700000000 }

abbrev lumped_quote : Quotation
lumped_quote = record { charge = 246240000000000; maximum = 279704700000000 }

quotes : (quoted_of left all_fourteen even ≡ quotation even_quote) × (quoted_of left all_fourteen lumped ≡ quotation lumped_quote)
    × (scale_for left even ≡ 36000000) × (scale_for left lumped ≡ 36000000)
unfolding quoted_of scale_for quote_of cell_allowed months_allowed every offered bit cell_numbers standing_in arrangement tier_charge charge maximum charged capped sum total benchmarks_of figures figure tabulate tabulate_from benchmark wc pc oc nc paenc headroom panc value_of signed indexed round round_signed sheet_s times period_days month_begins length_at month_length leap_year
quotes = (refl, refl, refl, refl)

due_even : due_of left all_fourteen even ≡ 70425
unfolding due_of
due_even = ap₂ due_by quotes.0 quotes.2 ∙ rebate_divided 36000000 even_quote (omega arith)

due_lumped : due_of left all_fourteen lumped ≡ 0
unfolding due_of
due_lumped = ap₂ due_by quotes.1 quotes.3 ∙ rebate_none 36000000 lumped_quote (omega arith) (omega arith)

-- THE RUNS
on_left : Rebates left
unfolding run_of after_run first_from fails19 fails18 total_of sum quoted_of quote_of cell_allowed months_allowed every offered bit covers
on_left =
    record {
      owed = ap (λ d. run.accepted (d + 0)) due_even;
      written = ap (λ d. with_rebate d even ∷ []) due_even;
      owed_nothing = ap (λ d. run.accepted (d + 0)) due_lumped;
      added_up = ap₂ (λ d e. run.accepted (d + (e + (d + 0)))) due_even due_lumped;
      all_written = ap₂ (λ d e. with_rebate d even ∷ with_rebate e lumped ∷ with_rebate d even ∷ []) due_even due_lumped;
      not_directed = refl;
      not_open = refl;
      quote_first = refl;
      none_written = refl;
      two_months = refl;
      four_months = refl;
      thirteen_months = refl;
      outside = refl;
      no_account_lem = refl;
      no_tariff = refl;
    }

pub rebates : Rebates at_quarter_end
rebates = subst Rebates (sym all_made) on_left
