-- What it is to write a text into a buffer.
-- Assumes nothing.
use Rattle.std.specs.Prelude.{◌≡◌, List, ℕ, ◌+◌, ◌≤◌, length}
use Rattle.std.proofs.lemmas.List.Edits.{sets}

-- `text` was put into a buffer from place `at` on: `next` is the place behind it, the whole text is within the buffer, and every
-- other byte is as before
pub record Puts (before : List ℕ) (at : ℕ) (text : List ℕ) (next : ℕ) (after : List ℕ) : Type 0 where
  pub ends : next ≡ at + length text
  pub within : next ≤ length before
  pub holds : after ≡ sets before at text
