-- `fours::sum_of` meets its contract. The loop's invariant: the sum so far is that of the numbers passed, and at most 2 ^ 32 - 1 for each.
-- Assumes nothing.
use mathlib.Core.Path.{◌≡◌}
use Prim.Native.Nat.{◌*◌, ◌≤◌}
use lib.ListN.{take}
use Rattle.std.specs.List.{sum as list_sum}
use Rattle.fours.proofs.sum_of.Given as goal

abbrev pub invariant-loop-x : goal.invariant-loop-x
invariant-loop-x l = (l.sum ≤ 4294967295 * l.x-index) × (l.sum ≡ list_sum (take l.x-index l.x-items))
