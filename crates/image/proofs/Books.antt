-- The book that an image holds, where part of its words stayed and part was written.
-- Assumes nothing.
use mathlib.Core.Path.{◌≡◌, refl, ◌∙◌, ap₂}
use mathlib.Core.Bool.{◌&&◌}
use mathlib.Core.List.{List}
use mathlib.Core.Logic.{◌⊎◌}
use Prim.Native.Nat.{ℕ, suc, ◌+◌, ◌≤◌, ◌<◌}
use native.Mathlib.Omega.{arith}
use lib.Dec.{eqb}
use lib.ListN.{length}
use Rattle.sheet.specs.Sheet.{field_count}
use Rattle.book.specs.Book.{nothing_kept, with_places, with_place}
use Rattle.image.specs.Layout.{word_count, mark, fields_at, charges_at, levels_at, peak_at, months_at, days_at, period_at, loaded_at, kept_at, kept_loaded_at, kept_fields_at, kept_period_at, kept_states_at, places_at, place_words, start_of}
use Rattle.image.specs.Image.{word, place_at, figures_in, places_in, states_in, kept_in, book_in, is_image}
use Rattle.image.proofs.Reading.{words_alike, words_nought}
use Rattle.image.proofs.Places.{places_written}

-- an image stays one where its length and its mark stay
pub image_alike : (l m : List ℕ) → length m ≡ length l → word m 0 ≡ word l 0 → is_image m ≡ is_image l
unfolding is_image
image_alike l m e f = ap₂ (λ n w. eqb n word_count && eqb w mark) e f

-- the words before what is kept for UNDO: the sheet and what it comes to
module _ (l m : List ℕ) (front : (j : ℕ) → j < kept_at → word m j ≡ word l j) where
  figures_alike : figures_in m ≡ figures_in l
  unfolding figures_in
  figures_alike =
      rw (words_alike charges_at 112 l m (λ j a b. front j (omega arith)), words_alike levels_at 2 l m (λ j a b. front j (omega arith)), front peak_at (omega arith), front months_at (omega arith), front days_at (omega arith))

  pub sheet_alike : book_in m ≡ with_places (book_in l) (places_in m) (kept_in m)
  unfolding book_in
  sheet_alike =
      rw (front loaded_at (omega arith), words_alike fields_at field_count l m (λ j a b. front j (omega arith)), front period_at (omega arith), front (period_at + 1) (omega arith), front (period_at + 2) (omega arith), figures_alike)

-- what is kept, where its words stayed
pub kept_alike : (l m : List ℕ) → ((j : ℕ) → kept_at ≤ j → j < places_at → word m j ≡ word l j) → kept_in m ≡ kept_in l
unfolding kept_in states_in
kept_alike l m h =
    rw (h kept_at (omega arith) (omega arith), h kept_loaded_at (omega arith) (omega arith), words_alike kept_fields_at field_count l m (λ j a b. h j (omega arith) (omega arith)), h kept_period_at (omega arith) (omega arith), h (kept_period_at + 1) (omega arith) (omega arith), h (kept_period_at + 2) (omega arith) (omega arith), words_alike kept_states_at 32 l m (λ j a b. h j (omega arith) (omega arith)))

-- and where they are 0: nothing to take back
pub kept_nought : (m : List ℕ) → ((j : ℕ) → kept_at ≤ j → j < places_at → word m j ≡ 0) → kept_in m ≡ nothing_kept
unfolding kept_in states_in
kept_nought m h =
    rw (h kept_at (omega arith) (omega arith), h kept_loaded_at (omega arith) (omega arith), words_nought kept_fields_at field_count m (λ j a b. h j (omega arith) (omega arith)), h kept_period_at (omega arith) (omega arith), h (kept_period_at + 1) (omega arith) (omega arith), h (kept_period_at + 2) (omega arith) (omega arith), words_nought kept_states_at 32 m (λ j a b. h j (omega arith) (omega arith)))
    refl

-- one place written, and nothing kept
pub place_stored : (l m : List ℕ) (i : ℕ) → i < 32 → ((j : ℕ) → j < kept_at → word m j ≡ word l j)
    → ((j : ℕ) → places_at ≤ j → (j < start_of i) ⊎ (start_of i + place_words ≤ j) → word m j ≡ word l j) → kept_in m ≡ nothing_kept
    → book_in m ≡ with_place (book_in l) (suc i) (place_at m (start_of i))
unfolding book_in
place_stored l m i h front apart kept = sheet_alike l m front ∙ ap₂ (with_places (book_in l)) (places_written l m i h apart) kept
