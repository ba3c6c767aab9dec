use Rattle.std.proofs.Common.{length, ◌-◌, ◌≤◌}
use Rattle.desk.specs.Desk.{Steady, at_start, Turned}
use Rattle.desk.proofs.run.Given as goal

-- as many turns were made as the count has fallen by, and the desk stays steady
abbrev pub invariant-loop-turns : goal.invariant-loop-turns
invariant-loop-turns g l =
    Steady l.d (length l.fn.input) (length l.fn.numbers) (length l.fn.out) × (l.turns ≤ l.initial.turns)
    × Turned at_start l.fn.input l.fn.out (l.initial.turns - l.turns) l.d l.input l.out

abbrev pub decreases-loop-turns : goal.decreases-loop-turns
decreases-loop-turns g l = l.turns
