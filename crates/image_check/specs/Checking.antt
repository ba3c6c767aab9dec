-- Which words are a book: those of an image that are canonical and hold a book that some list of calls leaves.
-- Assumes nothing.
use Rattle.std.specs.Prelude.{◌≡◌, true, List, ℕ}
use Rattle.book.specs.Book.{Reachable}
use Rattle.image.specs.Image.{book_in, is_image, Canonical}
use Rattle.image.specs.Changing.{no_book}

pub record IsBook (l : List ℕ) : Type 0 where
  pub is_image_lem : is_image l ≡ true
  pub canonical : Canonical l
  pub reachable : Reachable (book_in l)

-- the check of an image passes exactly where it is a book
pub record Checks (l : List ℕ) (r : ℕ) : Type 0 where
  pub passes : IsBook l → r ≡ 0
  pub only_books : r ≡ 0 → IsBook l
  pub else_none : (r ≡ 0 → ⊥) → r ≡ no_book
