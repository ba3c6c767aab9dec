-- `standing::places_stand` meets its contract. The invariant: what the places passed hold may stand there.
-- Assumes nothing.
use mathlib.Core.Path.{◌≡◌}
use mathlib.Core.Bool.{true}
use Prim.Native.Nat.{ℕ, ◌-◌, ◌≤◌, ◌<◌}
use lib.ListN.{get_or}
use Rattle.book.specs.Calls.{Sheet}
use Rattle.book.specs.Checks.{figures_of}
use Rattle.book.specs.Book.{beyond, sheet_if}
use Rattle.stands.specs.Stands.{MayStand}
use Rattle.standing.proofs.places_stand.Given as goal

abbrev pub invariant-loop-i : goal.invariant-loop-i
invariant-loop-i l =
    (l.i ≤ 32) × ((s : Sheet) → (l.loaded ≡ true → l.figures ≡ figures_of s) → (j : ℕ) → j < l.i → MayStand (sheet_if l.loaded s) (get_or l.places j beyond))

abbrev pub decreases-loop-i : goal.decreases-loop-i
decreases-loop-i l = 32 - l.i
