-- The fields in which no region is, 0 to 36 (document 02, M-101).
-- Assumes nothing.
use Rattle.std.specs.Prelude.{◌≡◌, List, ℕ, ◌<◌, take}
use Rattle.sheet.specs.Sheet.{field}

abbrev pub common_count : ℕ
common_count = 37

abbrev pub common_fields : List ℕ → List ℕ
common_fields s = take common_count s

-- two sheets "that agree in fields 0 to 36"
abbrev pub Agree : List ℕ → List ℕ → Type 0
Agree s t = (k : ℕ) → k < common_count → field s k ≡ field t k
