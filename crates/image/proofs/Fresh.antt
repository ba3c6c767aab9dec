-- An image of zeros behind its mark holds a fresh book.
-- Assumes nothing.
use mathlib.Core.Path.{◌≡◌, sym, ◌∙◌}
use mathlib.Core.Bool.{true}
use mathlib.Core.List.{List}
use Prim.Native.Nat.{ℕ, ◌+◌, ◌≤◌, ◌<◌}
use native.Mathlib.Omega.{arith}
use lib.ListN.{length, replicate, length-replicate, get_or-replicate}
use lib.Seq.{ext_get_or}
use borrow.Author.Tests.{eq-eqb}
use Rattle.sheet.specs.Sheet.{field_count}
use Rattle.book.specs.Book.{empty, beyond, fresh}
use Rattle.image.specs.Layout.{word_count, mark, loaded_at, fields_at, period_at, charges_at, levels_at, peak_at, months_at, days_at, kept_at, kept_loaded_at, kept_states_at, start_of}
use Rattle.image.specs.Image.{word, figures_in, places_in, book_in, is_image, Canonical}
use Rattle.image.proofs.Reading.{words_nought}
use Rattle.image.proofs.Places.{length_places, place_there}
use Rattle.image.proofs.Books.{kept_nought}
use Rattle.image.proofs.Placing.{emptied}

module _ (m : List ℕ) (nought : (j : ℕ) → 1 ≤ j → j < word_count → word m j ≡ 0) where
  places_empty : places_in m ≡ replicate 32 empty
  places_empty =
      ext_get_or beyond (places_in m) (replicate 32 empty) (length_places m ∙ sym (length-replicate 32 empty))
      (λ i h. place_there m i (omega (arith, length_places m)) ∙ emptied m (start_of i) (λ j a b. nought j (omega arith) (omega (arith, h, length_places m))) ∙ sym (get_or-replicate 32 i empty beyond (omega (arith, length_places m))))

  pub fresh_book : book_in m ≡ fresh
  unfolding book_in figures_in
  fresh_book =
      rw (nought loaded_at (omega arith) (omega arith), words_nought fields_at field_count m (λ j a b. nought j (omega arith) (omega arith)), nought period_at (omega arith) (omega arith), nought (period_at + 1) (omega arith) (omega arith), nought (period_at + 2) (omega arith) (omega arith), words_nought charges_at 112 m (λ j a b. nought j (omega arith) (omega arith)), words_nought levels_at 2 m (λ j a b. nought j (omega arith) (omega arith)), nought peak_at (omega arith) (omega arith), nought months_at (omega arith) (omega arith), nought days_at (omega arith) (omega arith), places_empty, kept_nought m (λ j a b. nought j (omega arith) (omega arith)))

  pub fresh_canonical : Canonical m
  fresh_canonical =
      record {
        loaded = omega (arith, nought loaded_at (omega arith) (omega arith));
        kept = omega (arith, nought kept_at (omega arith) (omega arith));
        kept_loaded = omega (arith, nought kept_loaded_at (omega arith) (omega arith));
        kept_states = λ i h. omega (arith, nought (kept_states_at + i) (omega arith) (omega arith));
        states = λ i h. omega (arith, nought (start_of i) (omega arith) (omega arith));
        directions = λ i h. omega (arith, nought (start_of i + 1) (omega arith) (omega arith));
      }

pub is_an_image : (m : List ℕ) → length m ≡ word_count → word m 0 ≡ mark → is_image m ≡ true
unfolding is_image
is_an_image m e f = rw (eq-eqb _ _ e, eq-eqb _ _ f)
