-- Laws of a list that is filled from one other or from two, by its index.
-- Assumes nothing.
use mathlib.Core.Path.{◌≡◌, refl, sym, ◌∙◌, ap}
use mathlib.Core.List.{List, [], ◌∷◌, map, zip_with}
use Prim.Native.Nat.{ℕ, zero, suc, ◌<◌}
use native.Mathlib.Omega.{arith}
use lib.ListN.{length, get_or, length-map, get_or-map}
use lib.Seq.{ext_get_or}

-- a list that has f of each entry of another is that list mapped
pub map_filled : {A B : Type 0} (f : A → B) (d : A) (xs : List A) (qs : List B) → length qs ≡ length xs
    → ((j : ℕ) → j < length xs → get_or qs j (f d) ≡ f (get_or xs j d)) → qs ≡ map f xs
map_filled f d xs qs l h =
    ext_get_or (f d) qs (map f xs) (l ∙ sym (length-map xs f)) (λ j k. h j (omega arith) ∙ sym (get_or-map f xs j d))

-- and one that has f of the entries of two, as long as one another
module _ {A B C : Type 0} (f : A → B → C) (d : A) (e : B) where
  length_zip : (xs : List A) (ys : List B) → length xs ≡ length ys → length (zip_with f xs ys) ≡ length ys
  unfolding zip_with
  length_zip [] [] l = refl
  length_zip [] (y ∷ ys) l = absurd (omega arith)
  length_zip (x ∷ xs) [] l = absurd (omega arith)
  length_zip (x ∷ xs) (y ∷ ys) l = ap suc (length_zip xs ys (omega arith))

  get_d_zip : (xs : List A) (ys : List B) → length xs ≡ length ys → (j : ℕ) → get_or (zip_with f xs ys) j (f d e) ≡ f (get_or xs j d) (get_or ys j e)
  unfolding zip_with
  get_d_zip [] [] l j = refl
  get_d_zip [] (y ∷ ys) l j = absurd (omega arith)
  get_d_zip (x ∷ xs) [] l j = absurd (omega arith)
  get_d_zip (x ∷ xs) (y ∷ ys) l zero = refl
  get_d_zip (x ∷ xs) (y ∷ ys) l (suc j) = get_d_zip xs ys (omega arith) j

  pub zip_filled : (xs : List A) (ys : List B) (qs : List C) → length xs ≡ length ys → length qs ≡ length ys
      → ((j : ℕ) → j < length ys → get_or qs j (f d e) ≡ f (get_or xs j d) (get_or ys j e)) → qs ≡ zip_with f xs ys
  zip_filled xs ys qs l m h =
      ext_get_or (f d e) qs (zip_with f xs ys) (m ∙ sym (length_zip xs ys l)) (λ j k. h j (omega arith) ∙ sym (get_d_zip xs ys l j))
