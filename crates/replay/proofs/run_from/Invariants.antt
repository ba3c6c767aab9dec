-- `replay::run_from` meets its contract: at each turn, what is left of the list leads to the same book and the same numbers.
-- Assumes nothing.
use mathlib.Core.Path.{◌≡◌}
use mathlib.Core.List.{List, map}
use Prim.Native.Nat.{◌-◌, ◌≤◌}
use lib.ListN.{length}
use lib.Seq.{sets}
use Rattle.book.specs.Calls.{Call}
use Rattle.book.specs.Book.{book_after, answers_of, Reachable}
use Rattle.replay.specs.Encoded.{encode, number_of}
use Rattle.replay.proofs.Running.{Left}
use Rattle.replay.proofs.run_from.Given as goal

abbrev pub invariant-loop-rest : goal.invariant-loop-rest
invariant-loop-rest l =
    (length l.out ≡ length l.initial.out) × Reachable l.b × (length l.rest ≤ length l.calls)
    × ((cs : List Call) → l.calls ≡ encode cs → length cs ≤ length l.initial.out
    → Left (book_after l.initial.b cs) (sets l.initial.out 0 (map number_of (answers_of l.initial.b cs))) l.rest l.b l.out l.n)

abbrev pub decreases-loop-rest : goal.decreases-loop-rest
decreases-loop-rest l = length l.initial.out - l.n
