-- Laws of the numbers of a line, as they are read.
-- Assumes nothing.
use mathlib.Core.Path.{◌≡◌, refl, sym, ◌∙◌, ap, subst⁻¹}
use mathlib.Core.Bool.{Bool, true, false, cond, ◌&&◌}
use mathlib.Core.List.{List, [], ◌∷◌, ◌++◌, map, append-nil}
use Prim.Native.Nat.{ℕ, ◌+◌, ◌-◌, ◌*◌, ◌<◌, ◌≤◌}
use native.Mathlib.Nat.{add-zero, le_trans}
use native.Mathlib.Numerals.{add-one}
use native.Mathlib.Omega.{arith}
use lib.Dec.{leb}
use lib.ListN.{length, get_or, take, drop, set, length-drop, drop_of_length-le}
use lib.Seq.{drop-drop, take-suc-set, append_snoc}
use borrow.Author.Tests.{le-leb, lt-leb}
use Rattle.std.specs.Prelude.{Option, Some, None, Result, Ok, Err}
use Rattle.lines.specs.declared.NotANumber.{NotANumber}
use Rattle.lines.specs.Words.{index_of, parts, not_empty, words, word_in, spaces}
use Rattle.lines.specs.Numerals.{digit, digits, value_after, value, numeral, number_at, behind, numbers_in}
use Rattle.lines.proofs.Splitting.{index_within, word_more, word_length, first_word, words_spaces, spaces_none}

-- a value only grows
grows : (v : ℕ) (ds : List ℕ) → v ≤ value_after v ds
unfolding value_after
grows v [] = omega arith
grows v (d ∷ ds) = le_trans (omega arith) (grows (10 * v + (d - 48)) ds)

-- a list is a numeral, or not
is_numeral : (w : List ℕ) → 0 < length w → digits w ≡ true → value w ≤ 4294967295 → numeral w ≡ true
is_numeral [] h d l = absurd (omega arith)
is_numeral (b ∷ bs) h d l = rw (d, le-leb (value (b ∷ bs)) 4294967295 l)

no_digits : (w : List ℕ) → length w ≡ 0 → numeral w ≡ false
no_digits [] h = refl
no_digits (b ∷ bs) h = absurd (omega arith)

not_digits : (w : List ℕ) → digits w ≡ false → numeral w ≡ false
not_digits [] d = refl
not_digits (b ∷ bs) d = rw d

too_large : (w : List ℕ) → 4294967295 < value w → numeral w ≡ false
too_large [] h = refl
too_large (b ∷ bs) h = go (digits (b ∷ bs))
  where
    go : (t : Bool) → (t && leb (value (b ∷ bs)) 4294967295) ≡ false
    go true = lt-leb (value (b ∷ bs)) 4294967295 h
    go false = refl

-- what is known of the word at `from` when the bytes from there to i are read: they are digits, of value v, and the rest of the word is at i
pub record Scanned (line : List ℕ) (from v i : ℕ) : Type 0 where
  pub reached : from ≤ i
  pub within : i ≤ length line
  pub small : v ≤ 4294967295
  pub all : digits (word_in (drop from line)) ≡ digits (word_in (drop i line))
  pub worth : value (word_in (drop from line)) ≡ value_after v (word_in (drop i line))
  pub long : from + length (word_in (drop from line)) ≡ i + length (word_in (drop i line))

pub scan_starts : (line : List ℕ) (from : ℕ) → from ≤ length line → Scanned line from 0 from
unfolding value
scan_starts line from h = record { reached = omega arith; within = h; small = omega arith; all = refl; worth = refl; long = refl }

-- the number at a place, by its word
number_is : (line : List ℕ) (from v e : ℕ) → numeral (word_in (drop from line)) ≡ true → v ≡ value (word_in (drop from line))
    → e ≡ from + length (word_in (drop from line)) → Some (v, e) ≡ number_at line from
unfolding number_at
number_is line from v e h p q = rw (h, p, q)

number_not : (line : List ℕ) (from : ℕ) → numeral (word_in (drop from line)) ≡ false → None ≡ number_at line from
unfolding number_at
number_not line from h = rw h

-- the byte at i, which is no space
module _ (line : List ℕ) (from v i : ℕ) (s : Scanned line from v i) (h : i < length line) (b : ℕ) (q : b ≡ get_or line i 0) (e : b ≡ 32 → ⊥) where
  more : word_in (drop i line) ≡ b ∷ word_in (drop (i + 1) line)
  more = word_more line i h (λ k. e (q ∙ k)) ∙ ap (λ x. x ∷ word_in (drop (i + 1) line)) (sym q)

  -- a word that is left, where it is no digit or the value is too large
  pub left_at : digit b ≡ false → None ≡ number_at line from
  unfolding digits
  left_at d = number_not line from (not_digits (word_in (drop from line)) (s.all ∙ ap digits more ∙ rw d))

  worth_next : value (word_in (drop from line)) ≡ value_after (10 * v + (b - 48)) (word_in (drop (i + 1) line))
  unfolding value_after
  worth_next = s.worth ∙ ap (value_after v) more

  pub left_large : 4294967295 < 10 * v + (b - 48) → None ≡ number_at line from
  left_large k =
      number_not line from (too_large (word_in (drop from line)) (omega (arith, worth_next, grows (10 * v + (b - 48)) (word_in (drop (i + 1) line)))))

  -- a digit more
  pub scan_goes : digit b ≡ true → 10 * v + (b - 48) ≤ 4294967295 → Scanned line from (10 * v + (b - 48)) (i + 1)
  unfolding digits
  scan_goes d l =
      record {
        reached = omega (arith, s.reached);
        within = omega arith;
        small = l;
        all = s.all ∙ ap digits more ∙ rw d;
        worth = worth_next;
        long = omega (arith, s.long, ap length more);
      }

-- the word ends
module _ (line : List ℕ) (from v i : ℕ) (s : Scanned line from v i) (w : word_in (drop i line) ≡ []) where
  pub no_word : i ≡ from → None ≡ number_at line from
  no_word q = number_not line from (no_digits (word_in (drop from line)) (omega (arith, s.long, ap length w)))

  pub word_read : (i ≡ from → ⊥) → Some (v, i) ≡ number_at line from
  unfolding digits value_after
  word_read q =
      let worth : value (word_in (drop from line)) ≡ v = s.worth ∙ ap (value_after v) w in
      let long : from + length (word_in (drop from line)) ≡ i = omega (arith, s.long, ap length w) in
      number_is line from v i
      (is_numeral (word_in (drop from line)) (omega (arith, s.reached, q)) (s.all ∙ ap digits w) (omega (arith, s.small)))
      (sym worth)
      (sym long)

-- a numeral has a digit
pub some_numeral : (w : List ℕ) → numeral w ≡ true → 0 < length w
some_numeral [] h = absurd (let z : ◌≡◌ {A = ℕ} 0 1 = cc in omega arith)
some_numeral (b ∷ bs) h = omega arith

-- what the number at a place says of its word
abbrev pub told : Option (ℕ × ℕ) → List ℕ → ℕ → Type 0
told (Some (v, e)) w from = (numeral w ≡ true) × (v ≡ value w) × (e ≡ from + length w)
told None w from = numeral w ≡ false

pub number_told : (line : List ℕ) (from : ℕ) → told (number_at line from) (word_in (drop from line)) from
unfolding number_at
number_told line from = go (numeral (word_in (drop from line))) refl
  where
    go : (t : Bool) → numeral (word_in (drop from line)) ≡ t
        → told (cond t (Some (value (word_in (drop from line)), from + length (word_in (drop from line)))) None) (word_in (drop from line)) from
    go true e = (e, refl, refl)
    go false e = e

pub value_told : (line : List ℕ) (i v e : ℕ) → Some (v, e) ≡ number_at line i → told (Some (v, e)) (word_in (drop i line)) i
value_told line i v e a = subst⁻¹ (λ x. told x (word_in (drop i line)) i) a (number_told line i)

pub number_within : (line : List ℕ) (i v e : ℕ) → Some (v, e) ≡ number_at line i → i ≤ length line → e ≤ length line
number_within line i v e a h =
    omega (arith, (value_told line i v e a).2, word_length (drop i line), index_within 32 (drop i line), length-drop i line)

-- the answer for n words more in front
abbrev pub plus : ℕ → Result ℕ NotANumber → Result ℕ NotANumber
plus n (Ok m) = Ok (n + m)
plus n (Err e) = Err (record { word = n + e.word })

plus_none : (x : Result ℕ NotANumber) → x ≡ plus 0 x
plus_none (Ok m) = ap Ok (omega arith)
plus_none (Err e) = ap (λ k. Err (record { word = k })) (omega arith)

plus_one : (n : ℕ) (x : Result ℕ NotANumber) → plus n (behind x) ≡ plus (n + 1) x
plus_one n (Ok m) = ap Ok (omega arith)
plus_one n (Err e) = ap (λ k. Err (record { word = k })) (omega arith)

-- what is known when n words from `from` on are read and the next begins at i: what is left to answer, and what is stored
pub record Read (line : List ℕ) (from : ℕ) (out : List ℕ) (n i : ℕ) : Type 0 where
  pub place : n + from ≤ i
  pub within : i ≤ length line
  pub start : spaces (drop i line) ≡ 0
  pub rest : numbers_in (words (drop from line)) ≡ plus n (numbers_in (words (drop i line)))
  pub stored : map value (words (drop from line)) ≡ take n out ++ map value (words (drop i line))

-- spaces are passed over
module _ (line : List ℕ) (e i : ℕ) (q : i ≡ e + spaces (drop e line)) where
  passed : drop i line ≡ drop (spaces (drop e line)) (drop e line)
  passed = rw q (sym (drop-drop (spaces (drop e line)) e line))

  pub words_passed : words (drop e line) ≡ words (drop i line)
  words_passed = sym (ap words passed ∙ words_spaces (drop e line))

  pub none_left : spaces (drop i line) ≡ 0
  none_left = ap spaces passed ∙ spaces_none (drop e line)

pub read_starts : (line : List ℕ) (from : ℕ) (out : List ℕ) (i : ℕ) → i ≡ from + spaces (drop from line) → i ≤ length line → Read line from out 0 i
read_starts line from out i q h =
    record {
      place = omega arith;
      within = h;
      start = none_left line from i q;
      rest = ap numbers_in (words_passed line from i q) ∙ plus_none (numbers_in (words (drop i line)));
      stored = ap (map value) (words_passed line from i q);
    }

module _ (line : List ℕ) (from : ℕ) (out : List ℕ) (n i : ℕ) (r : Read line from out n i) (h : i < length line) where
  first : words (drop i line) ≡ word_in (drop i line) ∷ words (drop (i + length (word_in (drop i line))) line)
  first =
      first_word (drop i line) (omega (arith, length-drop i line)) r.start
      ∙ ap (λ xs. word_in (drop i line) ∷ words xs) (drop-drop (index_of 32 (drop i line)) i line)
      ∙ ap (λ k. word_in (drop i line) ∷ words (drop (i + k) line)) (sym (word_length (drop i line)))

  -- the next word is no number
  pub read_bad : None ≡ number_at line i → Err (record { word = n }) ≡ numbers_in (words (drop from line))
  unfolding numbers_in
  read_bad e =
      let w : numeral (word_in (drop i line)) ≡ false = subst⁻¹ (λ x. told x (word_in (drop i line)) i) e (number_told line i) in
      sym (r.rest ∙ ap (λ ws. plus n (numbers_in ws)) first ∙ rw (w, add-zero))

  -- it is one, and is stored
  module _ (v e j : ℕ) (m : n < length out) (a : Some (v, e) ≡ number_at line i) (q : j ≡ e + spaces (drop e line)) (k : j ≤ length line) where
    is : told (Some (v, e)) (word_in (drop i line)) i
    is = value_told line i v e a

    pub read_further : i < j
    read_further = omega (arith, some_numeral (word_in (drop i line)) is.0, is.2)

    next : words (drop i line) ≡ word_in (drop i line) ∷ words (drop j line)
    next = first ∙ ap (λ ws. word_in (drop i line) ∷ ws) (rw is.2 at (words_passed line e j q))

    pub read_goes : Read line from (set out n v) (n + 1) j
    unfolding numbers_in
    read_goes =
        record {
          place = omega (arith, r.place, read_further);
          within = k;
          start = none_left line e j q;
          rest = r.rest ∙ ap (λ ws. plus n (numbers_in ws)) next ∙ rw is.0 (plus_one n (numbers_in (words (drop j line))));
          stored =
              r.stored ∙ ap (λ ws. take n out ++ map value ws) next
              ∙ rw (add-one, take-suc-set out n v m, is.1) (sym (append_snoc (take n out) (value (word_in (drop i line))) (map value (words (drop j line)))));
        }

-- no word is left
module _ (line : List ℕ) (from : ℕ) (out : List ℕ) (n i : ℕ) (r : Read line from out n i) (h : length line ≤ i) where
  pub read_all : Ok n ≡ numbers_in (words (drop from line))
  unfolding numbers_in words parts not_empty
  read_all = sym (r.rest ∙ rw (drop_of_length-le line {i = i} h, add-zero))

  pub stored_all : take n out ≡ map value (words (drop from line))
  unfolding words parts not_empty
  stored_all = sym (r.stored ∙ rw (drop_of_length-le line {i = i} h, append-nil))
