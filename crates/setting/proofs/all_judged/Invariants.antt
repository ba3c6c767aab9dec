-- `setting::all_judged` meets its contract. The invariant: the places passed are judged, and the others as they were.
-- Assumes nothing.
use mathlib.Core.Path.{◌≡◌}
use Prim.Native.Nat.{ℕ, ◌≤◌, ◌<◌}
use lib.ListN.{length, get_or}
use Rattle.book.specs.Book.{beyond, under}
use Rattle.setting.proofs.all_judged.Given as goal

abbrev pub invariant-loop-i : goal.invariant-loop-i
invariant-loop-i l = (l.i ≤ 32) × (length l.next ≡ 32) × ((j : ℕ) → j < l.i → get_or l.next j beyond ≡ under l.figures (get_or l.initial.next j beyond)) × ((j : ℕ) → l.i ≤ j → get_or l.next j beyond ≡ get_or l.initial.next j beyond)
