-- `undo::take_back` meets its contract: 15, or the book restored, since what is kept of a reachable book is one that stands.
-- Assumes nothing.
use mathlib.Core.Path.{◌≡◌, refl, sym, ◌∙◌}
use mathlib.Core.Bool.{Bool, true, false}
use Rattle.refusal.specs.declared.Check.TheVariants.{Pass}
use Rattle.refusal.specs.Checks.{unless, checked, need}
use Rattle.refusal.proofs.Checks.{unless_passes}
use Rattle.book.specs.Calls.{UNDO, call, accepted, refused}
use Rattle.book.proofs.Steps.{refuses, accepts}
use Rattle.stands.proofs.Kept.{reachable_stands}
use Rattle.undo.proofs.take_back.Goals as goal

-- the table of UNDO is its one check
undo_table : (t : Bool) → need refused t 15 accepted ≡ checked refused (unless t 15 Pass) accepted
undo_table true = refl
undo_table false = refl

pub returns-in_default : goal.returns-in_default
returns-in_default c =
    let b = c.args.b in
    rw c.answered.ensures (refuses b (call UNDO) (unless b.kept.any 15 Pass) (undo_table b.kept.any) _ _ c.kept_check-check.ensures c.in_default.is)

pub returns : goal.returns
returns c =
    let b = c.args.b in
    let passes = c.in-Pass.is in
    let any = (unless_passes b.kept.any 15 Pass (sym c.kept_check-check.ensures ∙ passes)).0 in
    let fits = ((reachable_stands b c.requires).step_kept any).0 in
    rw c.answered-2.ensures
    (accepts b (call UNDO) (unless b.kept.any 15 Pass) (undo_table b.kept.any) _ c.kept_check-check.ensures passes _ (c.book_before.ensures.0 fits))
