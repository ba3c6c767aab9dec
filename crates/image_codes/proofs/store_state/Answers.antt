-- `image_codes::store_state` meets its contract.
-- Assumes nothing.
use Rattle.image_codes.proofs.Storing.{state_stored}
use Rattle.image_codes.proofs.store_state.Goals as goal

pub returns : goal.returns
returns c =
    state_stored c.args.image.now c.end_undo.new.image c.args.i c.requires.1 c.requires.0 c.end_undo.ensures _ _ c.start_of-at.ensures.0 c.requires.2
