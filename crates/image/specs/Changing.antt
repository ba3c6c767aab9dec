-- What a call on an image promises.
-- Assumes nothing.
use Rattle.std.specs.Prelude.{◌≡◌, true, false, List, ◌≢◌, ◌⊎◌, ℕ, ◌+◌, ◌≤◌, ◌<◌, length}
use Rattle.std.proofs.Math.Option.{Option, none, some}
use Rattle.book.specs.Calls.{Call, Answer, refusal_number}
use Rattle.book.specs.Book.{step, Reachable}
use Rattle.image.specs.Image.{word, book_in, is_image, Canonical}

-- the n words from a place on are x 0 to x (n - 1), and no other word changed
pub record Written (l m : List ℕ) (at n : ℕ) (x : ℕ → ℕ) : Type 0 where
  pub size : length m ≡ length l
  pub outside : (j : ℕ) → (j < at) ⊎ (at + n ≤ j) → word m j ≡ word l j
  pub inside : (j : ℕ) → j < n → word m (at + j) ≡ x j

-- what is no book has a number of its own
abbrev pub no_book : ℕ
no_book = 100

-- the number of an answer: 0, or that of the refusal
abbrev pub number_if : Option ℕ → ℕ
number_if none = 0
number_if (some n) = n

abbrev pub number_of : Answer → ℕ
number_of a = number_if (refusal_number a)

-- A call on an image, with its number and the words after it. What is no image is no_book. Of an image that holds a book: the number and the
-- book after the call are those of the book's own step. Of any words: a call that is not accepted leaves each as it was, an image stays one,
-- and words that are canonical stay so.
pub record Changes (c : Call) (l : List ℕ) (r : ℕ) (m : List ℕ) : Type 0 where
  pub no_book_lem : is_image l ≡ false → r ≡ no_book
  pub answers : is_image l ≡ true → Reachable (book_in l) → r ≡ number_of (step (book_in l) c).answer
  pub leaves : is_image l ≡ true → Reachable (book_in l) → book_in m ≡ (step (book_in l) c).book
  pub untouched : r ≢ 0 → m ≡ l
  pub remains : is_image m ≡ is_image l
  pub stays_canonical : Canonical l → Canonical m
