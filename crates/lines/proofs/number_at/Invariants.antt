use Rattle.std.proofs.Common.{◌≡◌, ◌+◌}
use Rattle.lines.proofs.Reading.{Scanned}
use Rattle.lines.proofs.number_at.Given as goal

-- the bytes read are digits of value v, and the rest of the word is at `end`
abbrev pub invariant-loop-b : goal.invariant-loop-b
invariant-loop-b l = (l.end ≡ l.from + l.b-index) × Scanned l.line l.from l.v l.end
