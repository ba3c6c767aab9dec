-- Laws of the words of a line, and of its end.
-- Assumes nothing.
use mathlib.Core.Path.{◌≡◌, refl, sym, ◌∙◌, ap}
use mathlib.Core.Bool.{Bool, true, false, cond}
use mathlib.Core.List.{List, [], ◌∷◌}
use Prim.Native.Nat.{ℕ, suc, ◌+◌, ◌-◌, ◌<◌, ◌≤◌}
use native.Mathlib.Numerals.{add-one, one-add}
use native.Mathlib.Omega.{arith}
use lib.Dec.{eqb}
use lib.ListN.{length, get_or, take, drop, drop_of_length-le, length-take, length-drop}
use lib.Seq.{drop-cons, take-take, get_or-take, get_or-drop}
use borrow.Author.Tests.{eq-eqb, ne_eqb}
use Rattle.std.specs.Prelude.{Option, Some, None}
use Rattle.std.specs.List.{prefix_len, position_or_len}
use Rattle.std.specs.Option.{unwrap_or}
use Rattle.std.proofs.lemmas.Bool.{false_from_ne_true}
use Rattle.std.proofs.lemmas.List.Recursion.{is_position_or_len}
use Rattle.std.proofs.lemmas.List.Sums.{position_or_len_is}
use Rattle.memchr.specs.Find.{IsFirstByte, is_byte}
use Rattle.lines.specs.Words.{index_of, index_after, onto, parts, not_empty, words, spaces, word_in, without_return}

-- the first place at which a byte stands, as it is found, or the end
pub found : (b : ℕ) (xs : List ℕ) (r : Option ℕ) → IsFirstByte (is_byte b) xs r → unwrap_or r (length xs) ≡ index_of b xs
unfolding index_of
found b xs r e = sym (is_position_or_len (index_of b) (is_byte b) refl (λ x xs. step x xs (eqb x b)) xs ∙ go r e)
  where
    step : (x : ℕ) (xs : List ℕ) (t : Bool) → index_after t (index_of b xs) ≡ cond t 0 (1 + index_of b xs)
    step x xs true = refl
    step x xs false = omega arith

    go : (r : Option ℕ) → IsFirstByte (is_byte b) xs r → position_or_len (is_byte b) xs ≡ unwrap_or r (length xs)
    go (Some k) e = position_or_len_is (is_byte b) xs k 0 (omega (arith, e.0.high)) (λ j h. false_from_ne_true _ (e.0.before j (omega arith) h)) (λ h. e.1)
    go None e = position_or_len_is (is_byte b) xs (length xs) 0 (omega arith) (λ j h. false_from_ne_true _ (e j (omega arith) h)) (λ h. absurd (omega arith))

pub index_within : (b : ℕ) (xs : List ℕ) → index_of b xs ≤ length xs
unfolding index_of
index_within b [] = omega arith
index_within b (x ∷ xs) = go (eqb x b) (index_within b xs)
  where
    go : (t : Bool) → index_of b xs ≤ length xs → index_after t (index_of b xs) ≤ suc (length xs)
    go true h = omega arith
    go false h = omega arith

-- the spaces that a line begins with
pub spaces_are : (xs : List ℕ) → spaces xs ≡ prefix_len (λ x. eqb x 32) xs
unfolding spaces
spaces_are [] = refl
spaces_are (b ∷ bs) = simp (one-add, spaces_are bs)

module _ (line : List ℕ) (i : ℕ) where
  -- a line from one of its places on
  pub from_place : i < length line → drop i line ≡ get_or line i 0 ∷ drop (i + 1) line
  from_place h = rw (add-one, drop-cons line i 0 h)

-- what stands before the first space
index_space : (b : ℕ) (bs : List ℕ) → b ≡ 32 → index_of 32 (b ∷ bs) ≡ 0
unfolding index_of
index_space b bs e = rw (eq-eqb b 32 e)

index_other : (b : ℕ) (bs : List ℕ) → (b ≡ 32 → ⊥) → index_of 32 (b ∷ bs) ≡ suc (index_of 32 bs)
unfolding index_of
index_other b bs e = rw (ne_eqb b 32 e)

pub word_length : (xs : List ℕ) → length (word_in xs) ≡ index_of 32 xs
word_length xs = omega (arith, length-take (index_of 32 xs) xs, index_within 32 xs)

module _ (line : List ℕ) (i : ℕ) where
  pub word_more : i < length line → (get_or line i 0 ≡ 32 → ⊥) → word_in (drop i line) ≡ get_or line i 0 ∷ word_in (drop (i + 1) line)
  word_more h e = rw (from_place line i h, index_other (get_or line i 0) (drop (i + 1) line) e)

  pub word_stop : i < length line → get_or line i 0 ≡ 32 → word_in (drop i line) ≡ []
  word_stop h e = rw (from_place line i h, index_space (get_or line i 0) (drop (i + 1) line) e)

  pub word_none : length line ≤ i → word_in (drop i line) ≡ []
  unfolding index_of
  word_none h = rw (drop_of_length-le line {i = i} h) refl

-- the parts behind the first one, of what stands there
abbrev pub others : ℕ → List ℕ → List (List ℕ)
others at [] = []
others at (b ∷ bs) = parts at bs

pub first_part : (at : ℕ) (xs : List ℕ) → parts at xs ≡ take (index_of at xs) xs ∷ others at (drop (index_of at xs) xs)
unfolding parts index_of
first_part at [] = refl
first_part at (b ∷ bs) = go (eqb b at) (first_part at bs)
  where
    go : (t : Bool) → parts at bs ≡ take (index_of at bs) bs ∷ others at (drop (index_of at bs) bs)
        → cond t ([] ∷ parts at bs) (onto b (parts at bs)) ≡ take (index_after t (index_of at bs)) (b ∷ bs) ∷ others at (drop (index_after t (index_of at bs)) (b ∷ bs))
    go true e = refl
    go false e = ap (onto b) e

-- where a first part ends, there is a space or nothing, and no word begins before it
behind_part : (xs : List ℕ) → not_empty (others 32 (drop (index_of 32 xs) xs)) ≡ words (drop (index_of 32 xs) xs)
unfolding words parts not_empty index_of
behind_part [] = refl
behind_part (b ∷ bs) = go (eqb b 32) refl (behind_part bs)
  where
    go : (t : Bool) → eqb b 32 ≡ t → not_empty (others 32 (drop (index_of 32 bs) bs)) ≡ words (drop (index_of 32 bs) bs)
        → not_empty (others 32 (drop (index_after t (index_of 32 bs)) (b ∷ bs))) ≡ words (drop (index_after t (index_of 32 bs)) (b ∷ bs))
    go true q e = rw q refl
    go false q e = e

-- a line that begins with no space begins with its first word
pub first_word : (xs : List ℕ) → 0 < length xs → spaces xs ≡ 0 → words xs ≡ word_in xs ∷ words (drop (index_of 32 xs) xs)
unfolding words not_empty index_of spaces
first_word [] h e = absurd (omega arith)
first_word (b ∷ bs) h e = ap not_empty (first_part 32 (b ∷ bs)) ∙ go (eqb b 32) refl
  where
    go : (t : Bool) → eqb b 32 ≡ t
        → not_empty (take (index_of 32 (b ∷ bs)) (b ∷ bs) ∷ others 32 (drop (index_of 32 (b ∷ bs)) (b ∷ bs))) ≡ word_in (b ∷ bs) ∷ words (drop (index_of 32 (b ∷ bs)) (b ∷ bs))
    go true q = absurd (let z : ◌≡◌ {A = ℕ} (suc (spaces bs)) 0 = rw q at e in omega arith)
    go false q = rw q (ap (λ ws. (b ∷ take (index_of 32 bs) bs) ∷ ws) (behind_part bs))

-- and its first byte is the word's
pub first_byte : (xs : List ℕ) → 0 < length xs → spaces xs ≡ 0 → get_or (word_in xs) 0 0 ≡ get_or xs 0 0
unfolding index_of spaces
first_byte [] h e = absurd (omega arith)
first_byte (b ∷ bs) h e = go (eqb b 32) refl
  where
    go : (t : Bool) → eqb b 32 ≡ t → get_or (take (index_after t (index_of 32 bs)) (b ∷ bs)) 0 0 ≡ b
    go true q = absurd (let z : ◌≡◌ {A = ℕ} (suc (spaces bs)) 0 = rw q at e in omega arith)
    go false q = refl

-- the spaces before it count for nothing
pub words_spaces : (xs : List ℕ) → words (drop (spaces xs) xs) ≡ words xs
unfolding words parts not_empty spaces
words_spaces [] = refl
words_spaces (b ∷ bs) = go (eqb b 32) refl (words_spaces bs)
  where
    go : (t : Bool) → eqb b 32 ≡ t → words (drop (spaces bs) bs) ≡ words bs → words (drop (cond t (suc (spaces bs)) 0) (b ∷ bs)) ≡ words (b ∷ bs)
    go true q e = rw q e
    go false q e = refl

-- and behind them stands none
pub spaces_none : (xs : List ℕ) → spaces (drop (spaces xs) xs) ≡ 0
unfolding spaces
spaces_none [] = refl
spaces_none (b ∷ bs) = go (eqb b 32) refl (spaces_none bs)
  where
    go : (t : Bool) → eqb b 32 ≡ t → spaces (drop (spaces bs) bs) ≡ 0 → spaces (drop (cond t (suc (spaces bs)) 0) (b ∷ bs)) ≡ 0
    go true q e = e
    go false q e = rw q

-- a carriage return at the end
last_byte : (xs : List ℕ) (n : ℕ) → length xs ≡ suc n → without_return xs ≡ cond (eqb (get_or xs n 0) 13) (take n xs) xs
unfolding without_return
last_byte [] n h = absurd (omega arith)
last_byte (b ∷ bs) n h = let q : length bs ≡ n = omega arith in rw q refl

module _ (s : List ℕ) (f t : ℕ) (h : f < t) (k : t ≤ length s) where
  ends : without_return (take (t - f) (drop f s)) ≡ cond (eqb (get_or s (t - 1) 0) 13) (take (t - 1 - f) (drop f s)) (take (t - f) (drop f s))
  ends =
      let n : ℕ = t - 1 - f in
      let long : length (take (t - f) (drop f s)) ≡ suc n = omega (arith, length-take (t - f) (drop f s), length-drop f s) in
      let place : f + n ≡ t - 1 = omega arith in
      let byte : get_or (take (t - f) (drop f s)) n 0 ≡ get_or s (t - 1) 0 = get_or-take (t - f) (drop f s) n 0 (omega arith) ∙ get_or-drop f s n 0 ∙ ap (λ (m : ℕ). get_or s m 0) place in
      last_byte (take (t - f) (drop f s)) n long ∙ rw (byte, take-take n (t - f) (drop f s) (omega arith)) refl

  pub return_off : get_or s (t - 1) 0 ≡ 13 → take (t - 1 - f) (drop f s) ≡ without_return (take (t - f) (drop f s))
  return_off e = rw (ends, eq-eqb (get_or s (t - 1) 0) 13 e)

  pub no_return : (get_or s (t - 1) 0 ≡ 13 → ⊥) → take (t - f) (drop f s) ≡ without_return (take (t - f) (drop f s))
  no_return e = rw (ends, ne_eqb (get_or s (t - 1) 0) 13 e)

pub no_line : (s : List ℕ) (f t : ℕ) → t ≤ f → take (t - f) (drop f s) ≡ without_return (take (t - f) (drop f s))
unfolding without_return
no_line s f t h = let q : t - f ≡ 0 = omega arith in rw q refl
