-- `verdict::numbers_in` meets its contract: the numbers of a cell fit.
-- Assumes nothing.
use mathlib.Core.Path.{refl, sym, subst}
use Rattle.cap.specs.Corners.{Fits}
use Rattle.verdict.proofs.Walk.{numbers_fit}
use Rattle.verdict.proofs.numbers_in.Goals as goal

pub returns : goal.returns
returns c =
    let is = c.cell_numbers.ensures c.args.b refl refl refl refl refl in
    (is, subst Fits (sym is) (numbers_fit c.args.b c.requires.0 _ _ _ _ c.requires.3 c.requires.1 c.requires.4 c.requires.2))
