-- `cap::worst_corner` meets its contract: four looks are the scan of the corners.
-- Assumes nothing.
use mathlib.Core.Path.{◌≡◌}
use lib.ListN.{length}
use Rattle.cap.proofs.Shares.{four_looks}
use borrow.Author.Rules.{rules}
use Rattle.cap.proofs.worst_corner.Goals as goal

pub returns : goal.returns
returns c =
    let l : length c.args.k.at ≡ 4 = search rules in
    four_looks c.args.slope c.args.k _ _ _ _ l c.worse-first.ensures c.worse_after-second.ensures c.worse_after-third.ensures c.worse_after.ensures
