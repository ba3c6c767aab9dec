-- `doing::settled` meets its contract, call by call.
-- Assumes nothing.
use Rattle.lines.proofs.Parts.{rest}
use Rattle.codes.specs.declared.CodeAct.TheVariants.{Open, Ask}
use Rattle.codes.proofs.Places.{may_judge}
use Rattle.doing.proofs.settled.Goals as goal

pub settle-requires : goal.settle-requires
settle-requires c = may_judge c.requires.0.2 Open

pub settle-requires-in-Ask : goal.settle-requires-in-Ask
settle-requires-in-Ask c = may_judge c.requires.0.2 Ask

pub returns-in-Put : goal.returns-in-Put
returns-in-Put c b i h = rw c.in-Put.is (rw rest at (c.put_at.ensures.1 b i _ _ h))

pub returns-in-Direct : goal.returns-in-Direct
returns-in-Direct c b i h = rw c.in-Direct.is (c.direct_at.ensures.1 b i _ _ h)
