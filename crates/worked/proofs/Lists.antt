-- The worked lists hold: each answer from the starred table, one call after the other.
-- Assumes nothing.
use mathlib.Core.Path.{◌≡◌, refl, ◌∙◌, ap, ap₂}
use mathlib.Core.Bool.{Bool, true, false, cond, not}
use mathlib.Core.List.{List, [], ◌∷◌}
use mathlib.Core.Option.{Option, none, some}
use lib.Count.{ones}
use Rattle.refusal.specs.declared.Check.{Check}
use Rattle.refusal.specs.declared.Check.TheVariants.{Pass}
use Rattle.refusal.specs.Checks.{checked, need}
use Rattle.benchmark.specs.declared.Benchmarks.{Benchmarks}
use Rattle.benchmark.specs.Benchmark.{set_check, benchmark, wc, pc, oc, nc, paenc, headroom, panc, figure, figures, benchmarks_of}
use Rattle.tariff.specs.declared.Tariff.{Tariff}
use Rattle.tariff.specs.Tariff.{tariff_of, standing_in, record_check, all_fourteen}
use Rattle.verdict.specs.Cells.{Cell, offered, cell_numbers, cell_count, Verdict, opens, verdict, verdict_at, first_over}
use Rattle.verdict.specs.Cells as verdicts
use Rattle.book.specs.declared.Book.{Book}
use Rattle.book.specs.Calls.{Sheet, Record, Act, SET, PUT, UNDO, Call, call, Answer, accepted, cells, refused, is_accepted, is_none}
use Rattle.book.specs.Checks.{figures_of, complies, verdict_answer, set_answer, answer}
use Rattle.history.specs.History.{readings, answers_after}
use Rattle.laws.specs.Notions.{every, sum, total, tabulate, tabulate_from, bit}
use Rattle.calendar.specs.Calendar.{period_days, month_begins, length_at, month_length, leap_year}
use Rattle.sheet.specs.Sheet.{signed, value_of, round, round_signed, indexed}
use Rattle.charge.specs.Charge.{arrangement, tier_charge, charge}
use Rattle.cap.specs.Cap.{maximum, charged, capped}
use Rattle.book.specs.Book.{fresh, after, book_after, step, changed}
use Rattle.book.proofs.Reached.{fresh_reachable}
use Rattle.stands.proofs.Undone.{undone}
use Rattle.stands.proofs.Kept.{reachable_fits}
use Rattle.queries.specs.Queries.{quotation}
use Rattle.quoting.specs.Quote.{quote_of, cell_allowed, months_allowed}
use Rattle.reference.specs.SheetS.{sheet_s, times}
use Rattle.reference.specs.Splits.{day_dear}
use Rattle.reference.proofs.Table.{starred}
use Rattle.reference.proofs.Splits.{splits}
use Rattle.reference.proofs.Regional.{regional}
use Rattle.worked.proofs.October.{october_accepted, october_low, october_close, october_dear, close_record, high_record}
use Rattle.worked.specs.Worked.{quarter, october, split_at, no_fields, low, close, steep, dear_in5, book_of, Worked}

-- the answers to a list, one after the other
pub data Told : List Act → List Call → List Answer → Type 0 where
  ended : {log : List Act} → Told log [] []
  then : {log : List Act} {c : Call} {cs : List Call} {a : Answer} {rest : List Answer} → answer c.desk (readings log) c.act ≡ a
      → Told (cond (is_accepted a) (c.act ∷ log) log) cs rest → Told log (c ∷ cs) (a ∷ rest)

pub told : {log : List Act} {cs : List Call} {answers : List Answer} → Told log cs answers → answers_after log cs ≡ answers
unfolding answers_after
told ended = refl
told (then {a = a} e t) = rw e (ap (◌∷◌ a) (told t))

-- a verdict says whether a tariff complies
abbrev pub is_opening : Verdict → Bool
is_opening (opens n) = true
is_opening (verdicts.over c months e) = false

pub complying : (f : Benchmarks) (x : Tariff) → complies f x ≡ is_opening (verdict f x)
unfolding verdict
complying f x = go (first_over f x)
  where
    go : (o : Option Cell) → is_none o ≡ is_opening (verdict_at f x o)
    go none = refl
    go (some c) = refl

-- the checks of the sheets and tariffs here
pub passed : {c : Check} → c ≡ Pass → checked refused c accepted ≡ accepted
passed e = ap (λ c. checked refused c accepted) e

pub quarter_set : set_answer all_fourteen quarter ≡ accepted
quarter_set = passed starred.accepted

pub low_put : checked refused (record_check low) accepted ≡ accepted
low_put = passed starred.records.0

pub low_opens : verdict_answer (verdict (figures_of quarter) (tariff_of low)) ≡ cells 28
low_opens = ap verdict_answer starred.verdicts.within

pub low_cells : cells (cell_count (tariff_of low)) ≡ cells 28
unfolding cell_count ones
low_cells = refl

pub no_fields_set : set_answer all_fourteen no_fields ≡ refused 1
unfolding set_check
no_fields_set = refl

no_record : checked refused (record_check []) accepted ≡ refused 8
unfolding record_check
no_record = refl

-- CLOSE after a SET: accepted where the tariff still opens under the new sheet, and 12 where it is a draft
pub closed_if : (s : Sheet) (x : Record) (v : Verdict) → verdict (figures_of s) (tariff_of x) ≡ v
    → need refused (complies (figures_of s) (tariff_of x)) 12 accepted ≡ need refused (is_opening v) 12 accepted
closed_if s x v e = ap (λ t. need refused t 12 accepted) (complying (figures_of s) (tariff_of x) ∙ ap is_opening e)

-- and OPEN: 7 where it is open still, or its verdict
pub opened_if : (s : Sheet) (x : Record) (v : Verdict) → verdict (figures_of s) (tariff_of x) ≡ v
    → need refused (not (complies (figures_of s) (tariff_of x))) 7 (verdict_answer (verdict (figures_of s) (tariff_of x)))
    ≡ need refused (not (is_opening v)) 7 (verdict_answer v)
opened_if s x v e = ap₂ (λ t w. need refused (not t) 7 (verdict_answer w)) (complying (figures_of s) (tariff_of x) ∙ ap is_opening e) e

-- the sheet with another split
pub other_set : set_answer all_fourteen (split_at 579) ≡ accepted
other_set = passed splits.accepted.1

pub seven_put : checked refused (record_check day_dear) accepted ≡ accepted
seven_put = passed splits.records.0

pub seven_opens : verdict_answer (verdict (figures_of (split_at 579)) (tariff_of day_dear)) ≡ cells 28
seven_opens = ap verdict_answer splits.verdicts.at_579

pub low_opens_too : verdict_answer (verdict (figures_of (split_at 579)) (tariff_of low)) ≡ cells 28
low_opens_too = ap verdict_answer splits.verdicts.flat_within

-- the book after two calls, and its QUOTE
abbrev after_put : Record → Book
after_put x = changed (changed fresh (SET quarter)) (PUT 7 x)

two_calls : (x : Record) → record_check x ≡ Pass → book_of (SET quarter ∷ PUT 7 x ∷ []) ≡ after_put x
unfolding book_after step
two_calls x e = rw (starred.accepted, e)

quotes_told : (quote_of (after_put steep) all_fourteen 7 0 1 (300 ∷ 0 ∷ 0 ∷ []) ≡ quotation (record { charge = 246240000000000; maximum = 279704700000000 }))
    × (quote_of (after_put dear_in5) all_fourteen 7 4 1 (100 ∷ 200 ∷ 300 ∷ []) ≡ quotation (record { charge = 464976000000000; maximum = 480051900000000 }))
    × (quote_of (after_put dear_in5) all_fourteen 7 5 1 (100 ∷ 200 ∷ 300 ∷ []) ≡ quotation (record { charge = 468155520000000; maximum = 480051900000000 }))
unfolding quote_of cell_allowed months_allowed every offered bit cell_numbers standing_in arrangement tier_charge charge maximum charged capped sum total benchmarks_of figures figure tabulate tabulate_from benchmark wc pc oc nc paenc headroom panc value_of signed indexed round round_signed sheet_s times period_days month_begins length_at month_length leap_year
quotes_told = (refl, refl, refl)

-- a book whose one SET is taken back
back_to_fresh : book_of (SET quarter ∷ UNDO ∷ []) ≡ fresh
unfolding book_after step
back_to_fresh = ap (λ c. book_after (after (checked refused c accepted) fresh (SET quarter)) (call UNDO ∷ [])) starred.accepted ∙ undone fresh (reachable_fits fresh fresh_reachable) quarter

-- a tariff with a standing charge of its own in region 5
pub dear_put : checked refused (record_check dear_in5) accepted ≡ accepted
dear_put = passed regional.records.2

pub dear_opens : verdict_answer (verdict (figures_of quarter) (tariff_of dear_in5)) ≡ cells 28
dear_opens = ap verdict_answer regional.verdicts.within_in_5

-- THE LISTS
pub worked : Worked
worked =
    record {
      demoted =
          told
          (then quarter_set
          (then (passed close_record)
          (then low_put
          (then (ap verdict_answer starred.verdicts.just_within)
          (then low_opens
          (then (passed october_accepted) (then (closed_if october close _ october_close) (then (closed_if october low _ october_low) ended))))))));
      split_falls =
          told
          (then other_set
          (then seven_put
          (then low_put
          (then seven_opens
          (then low_opens_too
          (then quarter_set
          (then (closed_if quarter day_dear _ starred.verdicts.economy_over)
          (then (closed_if quarter low _ starred.verdicts.within) (then (opened_if quarter day_dear _ starred.verdicts.economy_over) ended)))))))));
      region_falls =
          told
          (then quarter_set
          (then dear_put
          (then low_put
          (then dear_opens
          (then low_opens
          (then (passed october_accepted)
          (then (closed_if october dear_in5 _ october_dear)
          (then (closed_if october low _ october_low) (then (opened_if october dear_in5 _ october_dear) ended)))))))));
      too_early =
          told
          (then quarter_set
          (then (passed close_record)
          (then low_put
          (then (ap verdict_answer starred.verdicts.just_within)
          (then low_opens
          (then (passed october_accepted)
          (then (closed_if october close _ october_close)
          (then refl
          (then refl
          (then refl
          (then (passed october_accepted)
          (then (closed_if october close _ october_close) (then (closed_if october low _ october_low) (then refl ended))))))))))))));
      one_step_lem =
          told
          (then (passed close_record)
          (then quarter_set
          (then (passed october_accepted) (then refl (then refl (then (ap verdict_answer starred.verdicts.just_within) ended))))));
      none_again = told (then refl (then low_put (then quarter_set (then refl (then refl (then quarter_set (then low_opens ended)))))));
      fresh_again = back_to_fresh;
      no_step = told (then no_fields_set (then refl (then quarter_set (then refl (then no_fields_set (then refl ended))))));
      step_stays = told (then quarter_set (then refl (then refl (then refl (then refl (then no_fields_set (then refl ended)))))));
      step_goes =
          told
          (then quarter_set
          (then low_put
          (then refl
          (then quarter_set (then low_opens (then refl (then low_put (then quarter_set (then refl (then refl ended))))))))));
      confirmed =
          told
          (then quarter_set
          (then low_put
          (then refl
          (then low_opens
          (then low_opens (then refl (then low_cells (then refl (then refl (then refl (then refl ended)))))))))));
      sheet_between =
          told
          (then quarter_set
          (then (passed close_record)
          (then low_put
          (then (ap verdict_answer starred.verdicts.just_within)
          (then low_opens
          (then (passed october_accepted)
          (then refl
          (then refl
          (then (ap verdict_answer october_close)
          (then (ap verdict_answer october_low) (then low_cells (then refl ended))))))))))));
      mark_back = told (then quarter_set (then low_put (then low_opens (then (passed october_accepted) (then refl (then low_cells ended))))));
      mark_stays =
          told
          (then quarter_set
          (then low_put
          (then quarter_set (then low_opens (then no_fields_set (then no_record (then refl (then low_cells (then refl ended)))))))));
      mark_goes =
          told
          (then quarter_set
          (then low_put
          (then low_put
          (then low_opens
          (then low_opens
          (then low_put
          (then refl
          (then low_opens
          (then refl
          (then refl
          (then low_put
          (then refl
          (then low_opens (then low_opens (then refl (then refl (then low_cells ended)))))))))))))))));
      asked =
          told
          (then refl
          (then refl
          (then (passed high_record)
          (then refl
          (then quarter_set
          (then (ap verdict_answer starred.verdicts.just_over) (then refl (then refl (then refl ended)))))))));
      again = told (then quarter_set (then low_put (then low_opens (then refl (then low_opens ended)))));
      refused_between = told (then quarter_set (then low_put (then low_opens (then no_fields_set (then refl ended)))));
      codes = told (then refl (then refl (then refl (then refl ended))));
      twice = told (then quarter_set (then low_put (then low_opens (then refl (then refl (then refl ended))))));
      put_over =
          told
          (then (passed high_record)
          (then refl (then refl (then quarter_set (then (ap verdict_answer starred.verdicts.just_over) (then low_put (then low_opens ended)))))));
      quoted = ap (λ b. quote_of b all_fourteen 7 0 1 (300 ∷ 0 ∷ 0 ∷ [])) (two_calls steep starred.records.1) ∙ quotes_told.0;
      quoted_in_4 = ap (λ b. quote_of b all_fourteen 7 4 1 (100 ∷ 200 ∷ 300 ∷ [])) (two_calls dear_in5 regional.records.2) ∙ quotes_told.1;
      quoted_in_5 = ap (λ b. quote_of b all_fourteen 7 5 1 (100 ∷ 200 ∷ 300 ∷ [])) (two_calls dear_in5 regional.records.2) ∙ quotes_told.2;
      tiers =
          told
          (then quarter_set
          (then (passed starred.records.1) (then (ap verdict_answer starred.verdicts.tiers_over) (then refl (then refl ended)))));
    }
