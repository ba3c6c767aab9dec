-- `verdict::first_over` meets its contract. The invariant of each loop: no cell before the one at hand exceeds.
-- Assumes nothing.
use mathlib.Core.Path.{◌≡◌}
use mathlib.Core.Option.{none}
use Prim.Native.Nat.{◌+◌, ◌*◌}
use Rattle.verdict.specs.Cells.{first_below}
use Rattle.verdict.proofs.first_over.Given as goal

abbrev pub invariant-loop-method : goal.invariant-loop-method
invariant-loop-method l = first_below l.b l.x (2 * l.region + l.method) ≡ none

abbrev pub invariant-loop-region : goal.invariant-loop-region
invariant-loop-region l = first_below l.b l.x (2 * l.region) ≡ none
