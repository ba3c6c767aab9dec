-- `undo::in_states` meets its contract. The invariant: the places passed are in the states that they had, and the others as they were.
-- Assumes nothing.
use mathlib.Core.Path.{◌≡◌}
use Prim.Native.Nat.{ℕ, ◌≤◌, ◌<◌}
use lib.ListN.{length, get_or}
use Rattle.book.specs.declared.State.TheVariants.{Empty}
use Rattle.book.specs.Book.{with_state, beyond, stood_as}
use Rattle.undo.proofs.in_states.Given as goal

abbrev pub invariant-loop-i : goal.invariant-loop-i
invariant-loop-i l = (l.i ≤ 32) × (length l.next ≡ 32) × ((j : ℕ) → j < l.i → get_or l.next j beyond ≡ with_state (get_or l.states j (stood_as Empty)).state (get_or l.initial.next j beyond)) × ((j : ℕ) → l.i ≤ j → get_or l.next j beyond ≡ get_or l.initial.next j beyond)
