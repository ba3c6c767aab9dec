-- `answers::put_reply` meets its contract, reply by reply.
-- Assumes nothing.
use Rattle.texts.specs.Texts.{spaced, line_of}
use Rattle.answers.proofs.put_reply.Goals as goal

pub returns-in-Accepted : goal.returns-in-Accepted
unfolding line_of spaced
returns-in-Accepted c = rw c.in-Accepted.is c.put_text.ensures
