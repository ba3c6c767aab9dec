use Rattle.std.proofs.Common.{◌≡◌, ◌-◌, length}
use Rattle.lines.proofs.Reading.{Read}
use Rattle.lines.proofs.numbers_from.Given as goal

-- the answer of the whole line is that of what is left of it, behind the n numbers stored
abbrev pub invariant-loop-i : goal.invariant-loop-i
invariant-loop-i l = Read l.line l.from l.out l.n l.i × (length l.out ≡ length l.fn.out)

abbrev pub decreases-loop-i : goal.decreases-loop-i
decreases-loop-i l = length l.line - l.i
