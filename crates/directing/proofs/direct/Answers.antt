-- `directing::direct` meets its contract: the place of the code is read, settled and stored again.
-- Assumes nothing.
use mathlib.Core.Path.{refl, sym, ◌∙◌}
use Rattle.book.proofs.Steps.{kept_if, kept_else, stored_with}
use Rattle.directing.proofs.Answers.{direct_does}
use Rattle.directing.proofs.direct.Goals as goal

pub returns-then-accepted : goal.returns-then-accepted
returns-then-accepted c =
    let b = c.args.b in
    stored_with b _ _ c.direct_at-given.result _ (c.nothing_kept-next.ensures ∙ kept_if c.direct_at-given.result.reply b.kept (sym c.accepted_by-accepted.ensures ∙ c.if-accepted.true))
    (direct_does c.args.desk b _ _ _ c.index_of-at.ensures.1 refl _ c.direct_at-given.ensures.0)

pub returns-else-accepted : goal.returns-else-accepted
returns-else-accepted c =
    let b = c.args.b in
    stored_with b _ _ c.direct_at-given.result _ (kept_else c.direct_at-given.result.reply b.kept (sym c.accepted_by-accepted.ensures ∙ c.if-accepted.false))
    (direct_does c.args.desk b _ _ _ c.index_of-at.ensures.1 refl _ c.direct_at-given.ensures.0)
