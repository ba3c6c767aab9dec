-- `codes::act_on` meets its contract: the place of the code is read, settled and stored again.
-- Assumes nothing.
use mathlib.Core.Path.{refl, sym, ◌∙◌}
use Rattle.book.proofs.Steps.{kept_if, kept_else, stored_with}
use Rattle.codes.proofs.Answers.{act_does, judgeable}
use Rattle.codes.proofs.act_on.Goals as goal

-- the call, with its place stored and whatever is kept as it has to be
pub settle-settled-requires : goal.settle-settled-requires
settle-settled-requires c = judgeable c.args.act c.args.b c.index_of-at.result c.index_of-at.ensures.0 c.requires

pub returns-then-accepted_by : goal.returns-then-accepted_by
returns-then-accepted_by c =
    let b = c.args.b in
    let came = c.settle-settled.result in
    stored_with b _ _ came _ (c.nothing_kept-next.ensures ∙ kept_if came.reply b.kept (sym c.accepted_by.ensures ∙ c.if-accepted_by.true))
    (act_does c.args.desk b _ _ _ c.index_of-at.ensures.1 refl c.args.act _ c.requires c.settle-settled.ensures.0)

pub returns-else-accepted_by : goal.returns-else-accepted_by
returns-else-accepted_by c =
    let b = c.args.b in
    let came = c.settle-settled.result in
    stored_with b _ _ came _ (kept_else came.reply b.kept (sym c.accepted_by.ensures ∙ c.if-accepted_by.false))
    (act_does c.args.desk b _ _ _ c.index_of-at.ensures.1 refl c.args.act _ c.requires c.settle-settled.ensures.0)
