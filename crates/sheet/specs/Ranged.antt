-- What the code that works out the terms asks of a sheet, and of its common fields.
-- Assumes nothing.
use Rattle.std.specs.Prelude.{◌≡◌, true, List, ℕ, ◌<◌, length}
use Rattle.sheet.specs.Sheet.{field, field_in_range, terms_fit}
use Rattle.sheet.specs.CommonFields.{common_count}

-- n numbers, each in the range of its field: all of a sheet that refusals 1 and 2 let pass, or its common fields
pub record Ranged (n : ℕ) (s : List ℕ) : Type 0 where
  pub count : length s ≡ n
  pub ranges : (k : ℕ) → k < n → field_in_range k (field s k) ≡ true

-- the common fields of a sheet that 4 lets pass too
pub record Indexed (part : List ℕ) : Type 0 where
  pub ranged : Ranged common_count part
  pub terms : terms_fit part ≡ true
