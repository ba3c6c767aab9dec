-- SET and then UNDO, on a reachable book: both are accepted, and the book is the one before, except that it has nothing to take back.
-- Assumes nothing.
use mathlib.Core.Path.{◌≡◌, refl, ◌∙◌, ap, ap₂, subst}
use mathlib.Core.Bool.{true}
use mathlib.Core.List.{[], ◌∷◌}
use Rattle.refusal.specs.Checks.{need}
use Rattle.tariff.specs.Tariff.{all_fourteen}
use Rattle.book.specs.declared.Book.{Book}
use Rattle.book.specs.Calls.{Sheet, SET, UNDO, call, accepted, refused}
use Rattle.book.specs.Checks.{set_answer}
use Rattle.book.specs.Book.{restored, changed, step, book_after, answers_of, Reachable}
use Rattle.book.proofs.Reached.{step_reachable}
use Rattle.book.proofs.Steps.{made, answered_by}
use Rattle.stands.proofs.Undone.{unkept, undone}
use Rattle.stands.proofs.Kept.{reachable_fits}

module _ (b : Book) (from : Reachable b) (s : Sheet) (accepts : set_answer all_fourteen s ≡ accepted) where
  set_there : (step b (call (SET s))).book ≡ changed b (SET s)
  set_there = made b (call (SET s)) accepted accepts refl

  pub set_then_undo : (book_after b (call (SET s) ∷ call UNDO ∷ []) ≡ unkept b) × (answers_of b (call (SET s) ∷ call UNDO ∷ []) ≡ accepted ∷ accepted ∷ [])
  unfolding book_after answers_of
  set_then_undo = (
    ap (λ d. (step d (call UNDO)).book) set_there ∙ made (changed b (SET s)) (call UNDO) accepted refl refl ∙ undone b (reachable_fits b from) s,
    ap₂ (λ x y. x ∷ y ∷ []) (answered_by b (call (SET s)) ∙ accepts) (ap (λ d. (step d (call UNDO)).answer) set_there ∙ answered_by (changed b (SET s)) (call UNDO)),
  )

-- so that book is reachable as well
pub unkept_reachable : (b : Book) → Reachable b → (s : Sheet) → set_answer all_fourteen s ≡ accepted → Reachable (unkept b)
unfolding book_after
unkept_reachable b r s e = subst Reachable (set_then_undo b r s e).0 (step_reachable (step_reachable r (call (SET s))) (call UNDO))

-- what is kept is worth a book that some list of calls leaves: the one that UNDO leaves
pub undo_leaves : (b : Book) → Reachable b → b.kept.any ≡ true → Reachable (restored b)
undo_leaves b r any = subst Reachable (made b (call UNDO) accepted (ap (λ t. need refused t 15 accepted) any) refl) (step_reachable r (call UNDO))
