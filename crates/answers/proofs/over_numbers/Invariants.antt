-- `answers::over_numbers` meets its contract: at each turn the months up to `i` stand behind the first four numbers.
-- Assumes nothing.
use mathlib.Core.Path.{◌≡◌}
use lib.ListN.{take}
use lib.Seq.{sets}
use Rattle.answers.proofs.over_numbers.Given as goal

abbrev pub invariant-loop-i : goal.invariant-loop-i
invariant-loop-i l = l.numbers ≡ sets l.initial.numbers 4 (take l.i l.months)
