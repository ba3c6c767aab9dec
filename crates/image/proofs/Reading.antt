-- The parts of an image, as they are read.
-- Assumes nothing.
use mathlib.Core.Path.{◌≡◌, sym, ◌∙◌, ap}
use mathlib.Core.Bool.{true}
use mathlib.Core.List.{List}
use Prim.Native.Nat.{ℕ, ◌+◌, ◌-◌, ◌≤◌, ◌<◌}
use native.Mathlib.Omega.{arith}
use lib.Dec.{eqb}
use lib.ListN.{length, take, drop, replicate, length-drop, length-replicate}
use lib.Seq.{get_or-take, get_or-drop, length-take-le}
use borrow.Author.Tests.{eqb-true}
use Rattle.laws.proofs.Every.{and_left}
use Rattle.laws.proofs.Lists.{noughts, length_tabulate, get_d_tabulate, tabulate_alike, is_table}
use Rattle.tariff.specs.Tariff.{record_length}
use Rattle.image.specs.Layout.{word_count, mark, place_words, record_at}
use Rattle.image.specs.Image.{word, words, is_image}

-- an image has its words
pub image_size : (l : List ℕ) → is_image l ≡ true → length l ≡ word_count
unfolding is_image
image_size l e = eqb-true (length l) word_count (and_left (eqb (length l) word_count) (eqb (word l 0) mark) e)

-- the words of a part, by their index
pub length_words : (at n : ℕ) (l : List ℕ) → length (words at n l) ≡ n
unfolding words
length_words at n l = length_tabulate n (λ j. word l (at + j))

pub word_at : (at n : ℕ) (l : List ℕ) (j : ℕ) → j < n → word (words at n l) j ≡ word l (at + j)
unfolding words
word_at at n l j h = get_d_tabulate n (λ k. word l (at + k)) j h

-- a list that has these words is the part
pub are_words : (at n : ℕ) (l x : List ℕ) → length x ≡ n → ((j : ℕ) → j < n → word l (at + j) ≡ word x j) → words at n l ≡ x
unfolding words
are_words at n l x e h = sym (is_table n (λ j. word l (at + j)) x e (λ j k. sym (h j k)))

-- a part of zeros
pub words_nought : (at n : ℕ) (l : List ℕ) → ((j : ℕ) → at ≤ j → j < at + n → word l j ≡ 0) → words at n l ≡ replicate n 0
words_nought at n l h = are_words at n l (replicate n 0) (length-replicate n 0) (λ j k. h (at + j) (omega arith) (omega arith) ∙ sym (noughts n j))

-- two images with the same words in a part
pub words_alike : (at n : ℕ) (l m : List ℕ) → ((j : ℕ) → at ≤ j → j < at + n → word m j ≡ word l j) → words at n m ≡ words at n l
unfolding words
words_alike at n l m h = tabulate_alike n (λ j. word m (at + j)) (λ j. word l (at + j)) (λ j k. h (at + j) (omega arith) (omega arith))

-- and as a part of the list that is lent
pub part_is_words : (from to n : ℕ) (l : List ℕ) → to ≡ from + n → to ≤ length l → take (to - from) (drop from l) ≡ words from n l
part_is_words from to n l e h =
    let is : to - from ≡ n = omega arith in
    ap (λ k. take k (drop from l)) is
    ∙ sym (are_words from n l (take n (drop from l)) (length-take-le n (drop from l) (omega (arith, length-drop from l))) (λ j k. sym (get_or-take n (drop from l) j 0 k ∙ get_or-drop from l j 0)))

pub record_part : (l : List ℕ) (at : ℕ) → at + place_words ≤ length l
    → take (at + place_words - (at + record_at)) (drop (at + record_at) l) ≡ words (at + record_at) record_length l
record_part l at h = part_is_words (at + record_at) (at + place_words) record_length l (omega arith) h
