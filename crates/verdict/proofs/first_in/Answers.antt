-- `verdict::first_in` meets its contract.
-- Assumes nothing.
use mathlib.Core.Path.{◌≡◌, sym, subst, subst₂}
use mathlib.Core.Bool.{true}
use Rattle.benchmark.specs.Lawful.{Lawful}
use Rattle.tariff.specs.declared.Tariff.{Tariff}
use Rattle.tariff.specs.Tariff.{valid_tariff}
use Rattle.verdict.specs.Cells.{first_over}
use Rattle.verdict.specs.Rulings.{found_at}
use Rattle.verdict.proofs.first_in.Goals as goal

pub first_over-requires : goal.first_over-requires
first_over-requires c =
    (subst Lawful (sym c.figures_by-b.ensures) c.requires.1, subst (λ (x : Tariff). valid_tariff x ≡ true) (sym c.tariff_of.ensures) c.requires.2)

pub returns : goal.returns
returns c =
    subst₂ (λ b x. first_over b x ≡ found_at c.cell_number.result) c.figures_by-b.ensures c.tariff_of.ensures (c.cell_number.ensures _ _ c.first_over.ensures)
