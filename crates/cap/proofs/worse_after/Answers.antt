-- `cap::worse_after` meets its contract: a second look at a corner changes nothing.
-- Assumes nothing.
use Rattle.cap.proofs.worse_after.Goals as goal

pub returns : goal.returns
returns c u b h priced after = c.worse.ensures u h priced
