-- `image_codes::store_nothing` meets its contract.
-- Assumes nothing.
use Rattle.image_codes.proofs.Storing.{nothing_stored}
use Rattle.image_codes.proofs.store_nothing.Goals as goal

pub returns : goal.returns
returns c =
    nothing_stored c.args.image.now c.end_undo.new.image c.args.i c.requires.1 c.requires.0 c.end_undo.ensures _ _ c.start_of-at.ensures.0 c.clear.ensures
