-- What the code tests of one place of an image: that its words, and that of the state that it had, are canonical.
-- Assumes nothing.
use Rattle.std.specs.Prelude.{Bool, ◌&&◌, List, ℕ, ◌+◌, leb}
use Rattle.image.specs.Layout.{kept_states_at, start_of}
use Rattle.image.specs.Image.{word}

unfoldable pub canonical_at : List ℕ → ℕ → Bool
canonical_at l i = leb (word l (start_of i)) 3 && leb (word l (start_of i + 1)) 1 && leb (word l (kept_states_at + i)) 3
