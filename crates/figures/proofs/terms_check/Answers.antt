-- `figures::terms_check` meets its contract: the test that it makes of the common fields is the definition's of the sheet.
-- Assumes nothing.
use mathlib.Core.Path.{◌∙◌, ap}
use native.Mathlib.Omega.{arith}
use lib.ListN.{length-take}
use Rattle.refusal.specs.declared.Check.TheVariants.{Pass}
use Rattle.refusal.specs.Checks.{unless}
use Rattle.sheet.specs.CommonFields.{common_fields}
use Rattle.sheet.proofs.CommonFields.{terms_fit_same, common_agree, common_ranged}
use Rattle.figures.proofs.terms_check.Goals as goal

pub slice_bounds-terms_fit-end : goal.slice_bounds-terms_fit-end
slice_bounds-terms_fit-end c = rw length-take (omega (arith, c.requires.count))

pub terms_fit-requires : goal.terms_fit-requires
terms_fit-requires c = common_ranged _ c.requires

pub returns : goal.returns
returns c =
    let s = c.args.s.now in
    c.refuse_unless.ensures
    ∙ ap (λ t. unless t 4 Pass) (c.terms_fit.ensures ∙ terms_fit_same (common_fields s) s (common_agree s))
