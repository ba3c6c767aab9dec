-- A number for each state, by which the code compares two.
-- Assumes nothing.
use Rattle.std.specs.Prelude.{ℕ}
use Rattle.book.specs.declared.State.{State}
use Rattle.book.specs.declared.State.TheVariants.{Empty, Draft, Marked, Open}

abbrev pub rank : State → ℕ
rank Empty = 0
rank Draft = 1
rank Marked = 2
rank Open = 3
