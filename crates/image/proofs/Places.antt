-- The places of an image, and the book that it holds after one of them was written and nothing is kept for UNDO.
-- Assumes nothing.
use mathlib.Core.Path.{◌≡◌, refl, sym, ◌∙◌, ap}
use mathlib.Core.List.{List, [], ◌∷◌, map}
use mathlib.Core.Logic.{◌⊎◌, inl, inr}
use Prim.Native.Nat.{ℕ, zero, suc, ◌+◌, ◌≤◌, ◌<◌}
use native.Mathlib.Decide.{dec_le}
use native.Mathlib.Omega.{arith}
use lib.ListN.{length, get_or, set, length-map, length-set}
use lib.Seq.{get_or-set_same, get_or-set_other, ext_get_or}
use Rattle.laws.specs.Notions.{tabulate}
use Rattle.laws.proofs.Lists.{length_tabulate, get_d_tabulate}
use Rattle.book.specs.Book.{beyond}
use Rattle.image.specs.Layout.{places_at, place_words, start_of}
use Rattle.image.specs.Image.{word, place_at, places_in}
use Rattle.image.proofs.Reading.{words_alike}

-- an entry of a mapped table
mapped_at : {A B : Type 0} (f : A → B) (d : A) (e : B) (xs : List A) (i : ℕ) → i < length xs → get_or (map f xs) i e ≡ f (get_or xs i d)
mapped_at f d e [] i h = absurd (omega arith)
mapped_at f d e (x ∷ xs) zero h = refl
mapped_at f d e (x ∷ xs) (suc i) h = mapped_at f d e xs i (omega arith)

pub length_places : (l : List ℕ) → length (places_in l) ≡ 32
unfolding places_in
length_places l = length-map (tabulate 32 start_of) (place_at l) ∙ length_tabulate 32 start_of

pub place_there : (l : List ℕ) (i : ℕ) → i < 32 → get_or (places_in l) i beyond ≡ place_at l (start_of i)
unfolding places_in
place_there l i h =
    mapped_at (place_at l) 0 beyond (tabulate 32 start_of) i (omega (arith, length_tabulate 32 start_of)) ∙ ap (place_at l) (get_d_tabulate 32 start_of i h)

-- a place whose words stayed is read as before
pub place_alike : (l m : List ℕ) (at : ℕ) → ((j : ℕ) → at ≤ j → j < at + place_words → word m j ≡ word l j) → place_at m at ≡ place_at l at
unfolding place_at
place_alike l m at h =
    rw (h at (omega arith) (omega arith), h (at + 1) (omega arith) (omega arith), words_alike (at + 2) 27 l m (λ j a b. h j (omega arith) (omega arith)))

-- where the words of one place alone were written, of all the places
module _ (l m : List ℕ) (i : ℕ) (h : i < 32) (apart : (j : ℕ) → places_at ≤ j → (j < start_of i) ⊎ (start_of i + place_words ≤ j) → word m j ≡ word l j) where
  other_place : (j : ℕ) → (j < i) ⊎ (i < j) → place_at m (start_of j) ≡ place_at l (start_of j)
  other_place j (inl k) = place_alike l m (start_of j) (λ w a b. apart w (omega arith) (inl (omega arith)))
  other_place j (inr k) = place_alike l m (start_of j) (λ w a b. apart w (omega arith) (inr (omega arith)))

  pub places_written : places_in m ≡ set (places_in l) i (place_at m (start_of i))
  places_written =
      ext_get_or beyond (places_in m) (set (places_in l) i (place_at m (start_of i))) (length_places m ∙ sym (length-set (places_in l) i (place_at m (start_of i)) ∙ length_places l))
      (λ j k. at j (omega (arith, length_places m)))
    where
      other : (j : ℕ) → j < 32 → (j < i) ⊎ (i < j) → get_or (places_in m) j beyond ≡ get_or (set (places_in l) i (place_at m (start_of i))) j beyond
      other j k (inl o) =
          place_there m j k ∙ other_place j (inl o) ∙ sym (get_or-set_other (places_in l) i j (place_at m (start_of i)) beyond (λ e. omega arith) ∙ place_there l j k)
      other j k (inr o) =
          place_there m j k ∙ other_place j (inr o) ∙ sym (get_or-set_other (places_in l) i j (place_at m (start_of i)) beyond (λ e. omega arith) ∙ place_there l j k)

      at : (j : ℕ) → j < 32 → get_or (places_in m) j beyond ≡ get_or (set (places_in l) i (place_at m (start_of i))) j beyond
      at j k =
          elim (dec_le i j) [
            | yes g ↦ elim (dec_le j i) [
              | yes q ↦ (let e : j ≡ i = omega arith in rw e (place_there m i h ∙ sym (get_or-set_same (places_in l) i (place_at m (start_of i)) beyond (omega (arith, length_places l)))))
              | no q ↦ other j k (inr (omega arith))
            ]
            | no g ↦ other j k (inl (omega arith))
          ]
