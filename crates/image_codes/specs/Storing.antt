-- What a call on a code writes into an image: one place, and zeros over what is kept for UNDO.
-- Assumes nothing.
use Rattle.std.specs.Prelude.{◌≡◌, true, List, ◌⊎◌, ℕ, ◌+◌, ◌≤◌, ◌<◌, length}
use Rattle.book.specs.declared.Place.{Place}
use Rattle.book.specs.Book.{nothing_kept, fresh, Reachable}
use Rattle.image.specs.Layout.{word_count, kept_at, places_at, place_words, start_of}
use Rattle.image.specs.Image.{word, place_at, kept_in, book_in, is_image, Canonical}
use Rattle.image.specs.Changing.{no_book}

-- the chance to UNDO ended: of a book that calls leave, nothing is kept after it
pub record UndoEnded (l m : List ℕ) : Type 0 where
  pub size : length m ≡ length l
  pub outside : (j : ℕ) → (j < kept_at) ⊎ (places_at ≤ j) → word m j ≡ word l j
  pub nothing_kept_lem : Reachable (book_in l) → kept_in m ≡ nothing_kept
  pub stays_canonical : Canonical l → Canonical m

-- and place p stored at index i
pub record Stored (l m : List ℕ) (i : ℕ) (p : Place) : Type 0 where
  pub size : length m ≡ length l
  pub front : (j : ℕ) → j < kept_at → word m j ≡ word l j
  pub apart : (j : ℕ) → places_at ≤ j → (j < start_of i) ⊎ (start_of i + place_words ≤ j) → word m j ≡ word l j
  pub nothing_kept_lem : Reachable (book_in l) → kept_in m ≡ nothing_kept
  pub place : place_at m (start_of i) ≡ p
  pub stays_canonical : Canonical l → Canonical m

-- so many words: a fresh book; any other number: as they were
pub record FreshImage (l : List ℕ) (r : ℕ) (m : List ℕ) : Type 0 where
  pub size : length m ≡ length l
  pub other_length : (length l ≡ word_count → ⊥) → (r ≡ no_book) × (m ≡ l)
  pub answers : length l ≡ word_count → r ≡ 0
  pub image : length l ≡ word_count → is_image m ≡ true
  pub book : length l ≡ word_count → book_in m ≡ fresh
  pub canonical : length l ≡ word_count → Canonical m
