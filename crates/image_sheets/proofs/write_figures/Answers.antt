-- `image_sheets::write_figures` meets its contract.
-- Assumes nothing.
use mathlib.Core.Path.{◌≡◌}
use lib.ListN.{length}
use Rattle.image_sheets.proofs.Parts.{figures_written}
use borrow.Author.Rules.{rules}
use Rattle.image_sheets.proofs.write_figures.Goals as goal

pub returns : goal.returns
returns c =
    let charges-size : length c.args.figures.charges ≡ 112 = search rules in
    let levels-size : length c.args.figures.levels ≡ 2 = search rules in
    figures_written _ _ _ _ c.args.figures charges-size levels-size c.write.ensures c.write-2.ensures c.write-3.ensures
