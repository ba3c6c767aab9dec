-- The loop of `taking::take_lines`: at each turn the lines taken so far are answered as their definition says.
-- Assumes nothing.
use Rattle.std.proofs.Common.{◌-◌}
use Rattle.taking.proofs.Taking.{Sofar}
use Rattle.taking.proofs.take_lines.Given as goal

abbrev pub invariant-loop-end : goal.invariant-loop-end
invariant-loop-end l = Sofar l.initial.book l.lines l.i l.input l.initial.out l.out l.book l.from l.cut l.l l.at l.end

abbrev pub decreases-loop-end : goal.decreases-loop-end
decreases-loop-end l = l.i.to - l.from
