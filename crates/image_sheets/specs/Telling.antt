-- What TRIAL on an image tells.
-- Assumes nothing.
use Rattle.std.specs.Prelude.{◌≡◌, true, false, cond, List, ◌≢◌, ℕ, eqb}
use Rattle.book.specs.Calls.{Sheet}
use Rattle.book.specs.Book.{Reachable}
use Rattle.queries.specs.Queries.{Telling, refused, falling}
use Rattle.trial.specs.Trial.{trial_of}
use Rattle.image.specs.Image.{book_in, is_image}
use Rattle.image.specs.Changing.{no_book}
use Rattle.image_sheets.specs.declared.Falling.{Falling}

-- 0 and a set of codes, or the number of a refusal
abbrev pub telling_in : Falling → Telling
telling_in r = cond (eqb r.refusal 0) (falling r.codes) (refused r.refusal)

-- What is no image is no_book. Of an image that holds a book, what the trial of that book tells. With a refusal there are no codes
pub record Tells (l : List ℕ) (desk : ℕ) (s : Sheet) (r : Falling) : Type 0 where
  pub no_book_lem : is_image l ≡ false → r.refusal ≡ no_book
  pub tells : is_image l ≡ true → Reachable (book_in l) → telling_in r ≡ trial_of (book_in l) desk s
  pub no_codes : r.refusal ≢ 0 → r.codes ≡ 0
