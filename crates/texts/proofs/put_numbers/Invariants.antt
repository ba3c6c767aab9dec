use Rattle.std.proofs.Common.{take, ◌+◌, ◌*◌, ◌≤◌}
use Rattle.texts.specs.Texts.{spaced}
use Rattle.texts.specs.Writing.{Puts}
use Rattle.texts.proofs.put_numbers.Given as goal

-- at each turn the numbers before `n` are written, in 21 bytes each at most
abbrev pub invariant-loop-n : goal.invariant-loop-n
invariant-loop-n l =
    (l.next ≤ l.at + 21 * l.n-index) × Puts l.fn.out l.at (spaced (take l.n-index l.numbers)) l.next l.out
