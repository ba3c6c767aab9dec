-- `image_codes::store_direction` meets its contract.
-- Assumes nothing.
use Rattle.image_codes.proofs.Storing.{direction_stored}
use Rattle.image_codes.proofs.store_direction.Goals as goal

pub returns : goal.returns
returns c =
    direction_stored c.args.image.now c.end_undo.new.image c.args.i c.requires.1 c.requires.0 c.end_undo.ensures _ c.start_of-at.ensures.0
