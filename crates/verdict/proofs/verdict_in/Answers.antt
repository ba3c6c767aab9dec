-- `verdict::verdict_in` meets its contract.
-- Assumes nothing.
use mathlib.Core.Path.{◌≡◌, sym, subst, subst₂}
use mathlib.Core.Bool.{true}
use Rattle.benchmark.specs.Lawful.{Lawful}
use Rattle.tariff.specs.declared.Tariff.{Tariff}
use Rattle.tariff.specs.Tariff.{valid_tariff}
use Rattle.verdict.specs.Rulings.{Rules}
use Rattle.verdict.proofs.verdict_in.Goals as goal

pub verdict_of-requires : goal.verdict_of-requires
verdict_of-requires c =
    (subst Lawful (sym c.figures_by-b.ensures) c.requires.1, subst (λ (x : Tariff). valid_tariff x ≡ true) (sym c.tariff_of.ensures) c.requires.2)

pub returns : goal.returns
returns c =
    subst₂ (λ b x. Rules b x c.verdict_of.result) c.figures_by-b.ensures c.tariff_of.ensures c.verdict_of.ensures
