-- A place of an image, as it is read after words of it were written.
-- Assumes nothing.
use mathlib.Core.Path.{◌≡◌, refl, ◌∙◌}
use mathlib.Core.Bool.{false}
use mathlib.Core.List.{List}
use mathlib.Core.Logic.{◌⊎◌, inl, inr}
use Prim.Native.Nat.{ℕ, ◌+◌, ◌≤◌, ◌<◌}
use native.Mathlib.Omega.{arith}
use lib.ListN.{length}
use Rattle.tariff.specs.Tariff.{record_length, tariff_of}
use Rattle.book.specs.declared.State.TheVariants.{Draft}
use Rattle.book.specs.Book.{place_with, with_state, with_direction, empty}
use Rattle.image.specs.Layout.{place_words, record_at}
use Rattle.image.specs.Image.{word, state_of, place_at}
use Rattle.image.specs.Changing.{Written}
use Rattle.image.proofs.Reading.{words_alike, are_words, words_nought}

-- the words of one place, whatever was written there
pub at_place : (l m : List ℕ) (at b n : ℕ) (x : ℕ → ℕ) → Written l m b n x → at ≤ b → b + n ≤ at + place_words → Written l m at place_words (λ j. word m (at + j))
at_place l m at b n x w h g = record { size = w.size; outside = λ j o. apart j o; inside = λ j k. refl }
  where
    apart : (j : ℕ) → (j < at) ⊎ (at + place_words ≤ j) → word m j ≡ word l j
    apart j (inl o) = w.outside j (inl (omega arith))
    apart j (inr o) = w.outside j (inr (omega arith))

pub then_at_place : (l k m : List ℕ) (at n : ℕ) (x : ℕ → ℕ) → Written l k at n x → Written k m at n (λ j. word m (at + j)) → Written l m at n (λ j. word m (at + j))
then_at_place l k m at n x v w =
    record { size = w.size ∙ v.size; outside = λ j o. w.outside j o ∙ v.outside j o; inside = λ j k. refl }

module _ (l m : List ℕ) (at : ℕ) where
  -- its state
  pub restated : (s : ℕ) → word m at ≡ s → ((j : ℕ) → at + 1 ≤ j → j < at + place_words → word m j ≡ word l j)
      → place_at m at ≡ with_state (state_of s) (place_at l at)
  unfolding place_at
  restated s e h =
      rw (e, h (at + 1) (omega arith) (omega arith), words_alike (at + record_at) record_length l m (λ j a b. h j (omega arith) (omega arith)))

  -- a direction
  pub directed_there : word m at ≡ word l at → word m (at + 1) ≡ 1 → ((j : ℕ) → at + record_at ≤ j → j < at + place_words → word m j ≡ word l j)
      → place_at m at ≡ with_direction (place_at l at)
  unfolding place_at
  directed_there e f h = rw (e, f, words_alike (at + record_at) record_length l m (λ j a b. h j (omega arith) (omega arith)))

module _ (m : List ℕ) (at : ℕ) where
  -- zeros
  pub emptied : ((j : ℕ) → at ≤ j → j < at + place_words → word m j ≡ 0) → place_at m at ≡ empty
  unfolding place_at
  emptied h =
      rw (h at (omega arith) (omega arith), h (at + 1) (omega arith) (omega arith), words_nought (at + record_at) record_length m (λ j a b. h j (omega arith) (omega arith)))

  -- a draft, with the record of a tariff
  pub drafted : (x : List ℕ) → length x ≡ record_length → word m at ≡ 1 → word m (at + 1) ≡ 0
      → ((j : ℕ) → j < record_length → word m (at + record_at + j) ≡ word x j) → place_at m at ≡ place_with Draft false (tariff_of x)
  unfolding place_at
  drafted x size e f h = rw (e, f, are_words (at + record_at) record_length m x size h)
