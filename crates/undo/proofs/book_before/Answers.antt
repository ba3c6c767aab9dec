-- `undo::book_before` meets its contract: where the book that is kept stands, the figures worked out are those of its sheet.
-- Assumes nothing.
use Rattle.undo.proofs.Figures.{brought_back}
use Rattle.undo.proofs.book_before.Goals as goal

pub returns : goal.returns
returns c =
    let b = c.args.b in
    brought_back b _ _ _ c.work_out-worked.ensures.1 c.in_states-places.ensures c.nothing_kept.ensures
