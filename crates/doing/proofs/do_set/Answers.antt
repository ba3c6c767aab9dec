-- `doing::do_set` meets its contract.
-- Assumes nothing.
use Rattle.lines.proofs.Parts.{rest}
use Rattle.doing.proofs.Done.{step_done}
use Rattle.doing.proofs.do_set.Goals as goal

pub returns : goal.returns
returns c =
    let period = c.period_of-period in
    step_done _ _ _ _ _ _ _ (rw (rest, period.ensures) at c.set-did.ensures) c.requires.0 c.put_reply.ensures
