-- `doing::do_on` meets its contract.
-- Assumes nothing.
use Rattle.book.specs.Settling.{settled_in}
use Rattle.doing.proofs.Done.{step_done}
use Rattle.doing.proofs.do_on.Goals as goal

pub returns : goal.returns
returns c b i h =
    let done = c.settled-done in
    step_done b _ (settled_in b i done.result) _ _ _ _ (done.ensures b i h) h.reachable c.put_reply.ensures
