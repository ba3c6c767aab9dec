-- `cap::worst_case` meets its contract: t of the worst month, and what both sides differ by.
-- Assumes nothing.
use native.Mathlib.Omega.{arith}
use Rattle.cap.proofs.Comparing.{below, worst_carried}
use Rattle.cap.proofs.worst_case.Goals as goal

pub overflow_sub-result : goal.overflow_sub-result
overflow_sub-result c =
    omega (arith, below c.args.e c.args.x c.compared-worst.result c.compared-worst.ensures c.requires.2)

pub returns : goal.returns
returns c =
    worst_carried c.args.e c.args.x c.compared-worst.result c.compared-worst.ensures c.requires.2 _ c.equal_months.ensures
