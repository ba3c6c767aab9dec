-- `figures::ocs_check` meets its contract: the test that it makes of the common fields is the definition's of the sheet.
-- Assumes nothing.
use mathlib.Core.Path.{◌∙◌, ap}
use Rattle.refusal.specs.declared.Check.TheVariants.{Pass}
use Rattle.refusal.specs.Checks.{unless}
use Rattle.sheet.specs.CommonFields.{common_fields}
use Rattle.sheet.proofs.CommonFields.{common_agree}
use Rattle.benchmark.proofs.Commons.{ocs_fit_same}
use Rattle.figures.proofs.ocs_check.Goals as goal

pub returns : goal.returns
returns c =
    let s = c.args.s.now in
    c.refuse_unless.ensures
    ∙ ap (λ t. unless t 14 Pass) (c.ocs_fit.ensures ∙ ocs_fit_same (common_fields s) s (common_agree s))
