-- `doing::do_undo` meets its contract.
-- Assumes nothing.
use Rattle.doing.proofs.Done.{step_done}
use Rattle.doing.proofs.do_undo.Goals as goal

pub returns : goal.returns
returns c =
    step_done _ _ _ _ _ _ _ c.undo-did.ensures c.requires.0 c.put_reply.ensures
