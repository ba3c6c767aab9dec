-- The worked lists of directions hold: each answer from the starred table, one call after the other.
-- Assumes nothing.
use mathlib.Core.Path.{◌≡◌, refl, ◌∙◌, ap}
use mathlib.Core.Bool.{not}
use mathlib.Core.List.{[], ◌∷◌}
use Rattle.laws.specs.Notions.{every, bit, set_of}
use Rattle.refusal.specs.Checks.{checked, need}
use Rattle.tariff.specs.Tariff.{tariff_of, record_check}
use Rattle.desks.specs.Desks.{covers}
use Rattle.verdict.specs.Cells.{Verdict, verdict}
use Rattle.book.specs.Calls.{Sheet, Record, SET, PUT, OPEN, DIRECT, Answer, accepted, cells, refused}
use Rattle.book.specs.Checks.{figures_of, complies, verdict_answer}
use Rattle.book.specs.Book.{fresh, changed}
use Rattle.reference.proofs.Table.{starred}
use Rattle.worked.specs.Worked.{quarter, october, close, steep}
use Rattle.worked.proofs.October.{october_accepted, october_close, close_record}
use Rattle.worked.proofs.Lists.{then, ended, told, is_opening, complying, passed, quarter_set, low_put, low_opens, closed_if, opened_if}
use Rattle.worked_queries.proofs.Tried.{makes, close_opens, told_by_lem, judged}
use Rattle.worked_queries.proofs.Tried as made
use Rattle.worked_directions.specs.Directions.{one_directed, Directions}

pub steep_put : checked refused (record_check steep) accepted ≡ accepted
steep_put = passed starred.records.1

close_put : checked refused (record_check close) accepted ≡ accepted
close_put = passed close_record

-- a call on a draft, after a SET: 7 where the tariff is open still
drafted_if : (s : Sheet) (x : Record) (v : Verdict) (a : Answer) → verdict (figures_of s) (tariff_of x) ≡ v
    → need refused (not (complies (figures_of s) (tariff_of x))) 7 a ≡ need refused (not (is_opening v)) 7 a
drafted_if s x v a e = ap (λ t. need refused (not t) 7 a) (complying (figures_of s) (tariff_of x) ∙ ap is_opening e)

-- the book before the trial
directed_left : one_directed ≡ changed (changed (changed (changed (changed (changed fresh (SET quarter)) (PUT 1 close)) (PUT 2 close)) (DIRECT 1)) (OPEN 1)) (OPEN 2)
directed_left =
    makes
    (made.then accepted quarter_set refl
    (made.then accepted close_put refl
    (made.then accepted close_put refl
    (made.then accepted refl refl (made.then (cells 0) refl refl (made.then (cells 28) close_opens refl made.ended))))))

-- THE LISTS
pub directions : Directions
unfolding covers every bit set_of
directions =
    record {
      opened_above =
          told
          (then quarter_set
          (then steep_put (then (ap verdict_answer starred.verdicts.tiers_over) (then refl (then refl (then refl ended))))));
      stays_open =
          told
          (then quarter_set
          (then close_put
          (then close_put
          (then refl
          (then refl
          (then close_opens
          (then (passed october_accepted)
          (then refl
          (then (closed_if october close _ october_close) (then refl (then (opened_if october close _ october_close) ended)))))))))));
      given_later =
          told
          (then quarter_set
          (then close_put
          (then close_opens
          (then (passed october_accepted)
          (then (drafted_if october close _ accepted october_close)
          (then (closed_if october close _ october_close) (then (drafted_if october close _ (cells 0) october_close) ended)))))));
      direction_ends =
          told
          (then quarter_set
          (then steep_put
          (then refl
          (then steep_put
          (then (ap verdict_answer starred.verdicts.tiers_over)
          (then refl (then refl (then steep_put (then (ap verdict_answer starred.verdicts.tiers_over) ended)))))))));
      needs_a_sheet =
          told (then low_put (then refl (then refl (then refl (then quarter_set (then refl (then refl (then refl ended))))))));
      marked_before = told (then quarter_set (then low_put (then low_opens (then refl (then refl (then refl ended))))));
      mark_goes =
          told
          (then quarter_set
          (then steep_put (then refl (then refl (then (passed october_accepted) (then refl (then refl (then refl ended))))))));
      chance_ends =
          told
          (then low_put
          (then quarter_set
          (then refl (then refl (then (passed october_accepted) (then refl (then refl (then refl ended))))))));
      undo_keeps =
          told
          (then quarter_set
          (then steep_put (then refl (then refl (then (passed october_accepted) (then refl (then refl (then refl ended))))))));
      full_alone =
          told
          (then quarter_set
          (then low_put
          (then refl
          (then refl (then refl (then refl (then refl (then refl (then refl (then refl (then refl ended)))))))))));
      not_counted =
          told_by_lem one_directed october october_accepted _ _ _ _ _ _ 2 (ap (λ b. b.places) directed_left)
          refl (judged october (tariff_of close) _ october_close) refl refl;
    }
