-- `trial::trial` meets its contract: 17, or what it does for a desk with all fourteen regions.
-- Assumes nothing.
use mathlib.Core.Path.{◌≡◌, sym, ◌∙◌, ap, subst}
use Rattle.book.specs.Calls.{sheet_at}
use Rattle.book.proofs.Desks.{is_full_lem, not_full}
use Rattle.queries.specs.Queries.{telling_of, refused}
use Rattle.queries.specs.Reading.{refusal_told}
use Rattle.trial.specs.Trial.{trial_of}
use Rattle.trial.proofs.Trials.{trial_outside}
use Rattle.trial.proofs.trial.Goals as goal

pub returns-in_default : goal.returns-in_default
returns-in_default c =
    let a = c.args in
    let refuses = c.in_default.is in
    let out = not_full a.desk _ _ c.full_check-full.ensures refuses in
    ap telling_of (c.refused.ensures ∙ ap refusal_told refuses)
    ∙ ap refused out.1
    ∙ sym (trial_outside a.b (sheet_at a.fields.now a.period) a.desk out.0)

pub returns : goal.returns
returns c =
    let a = c.args in
    subst (λ desk. telling_of c.try_out.result ≡ trial_of a.b desk (sheet_at a.fields.now a.period))
    (sym (is_full_lem a.desk _ c.full_check-full.ensures c.in-Pass.is)) c.try_out.ensures
