-- `trial::try_out` meets its contract: the places judged are those of the book that SET leaves.
-- Assumes nothing.
use mathlib.Core.Path.{sym, ◌∙◌, ap}
use Rattle.book.specs.Calls.{sheet_at}
use Rattle.stands.proofs.InForce.{holds_at}
use Rattle.queries.specs.Queries.{telling_of, falling}
use Rattle.queries.specs.Reading.{refusal_told}
use Rattle.trial.proofs.Trials.{trial_refused, trial_told}
use Rattle.trial.proofs.try_out.Goals as goal

pub judge-judged-requires : goal.judge-judged-requires
judge-judged-requires c = holds_at c.args.b c.requires

pub returns-in_default : goal.returns-in_default
returns-in_default c =
    let refuses = c.in_default.is in
    ap telling_of (c.refused.ensures ∙ ap refusal_told refuses)
    ∙ sym (trial_refused c.args.b (sheet_at c.args.fields.now c.args.period) _ (sym c.judge-judged.ensures.checks ∙ refuses))

pub returns : goal.returns
returns c =
    let passes = c.in-Pass.is in
    ap falling c.fallen.ensures
    ∙ sym (trial_told c.args.b (sheet_at c.args.fields.now c.args.period) (sym c.judge-judged.ensures.checks ∙ passes) _ (c.judge-judged.ensures.places passes))
