-- `image_codes::end_undo` meets its contract.
-- Assumes nothing.
use Rattle.image_codes.proofs.Storing.{undo_cleared, undo_nothing}
use Rattle.image_codes.proofs.end_undo.Goals as goal

pub returns-then-image-ne0 : goal.returns-then-image-ne0
returns-then-image-ne0 c = undo_cleared _ _ c.clear.ensures

pub returns-else-image-ne0 : goal.returns-else-image-ne0
returns-else-image-ne0 c = undo_nothing _ c.if-image-ne0.false
