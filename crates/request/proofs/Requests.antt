-- Laws of what a line asks for, as it is read.
-- Assumes nothing.
use mathlib.Core.Path.{◌≡◌, refl, sym, ◌∙◌, ap, subst⁻¹}
use mathlib.Core.Bool.{Bool, true, false, cond}
use mathlib.Core.List.{List, [], ◌∷◌, map}
use Prim.Native.Nat.{ℕ, ◌+◌, ◌-◌, ◌<◌, ◌≤◌}
use native.Mathlib.Decide.{dec_le}
use native.Mathlib.Omega.{arith}
use lib.Dec.{eqb}
use lib.ListN.{length, get_or, take, drop, drop_of_length-le, length-drop}
use lib.Seq.{drop-drop, get_or-drop}
use borrow.Author.Tests.{eq-eqb, ne_eqb}
use Rattle.std.specs.Prelude.{Some, None, Ok, Err}
use Rattle.std.specs.Cmp.Lexicographic.{pointwise}
use Rattle.tariff.specs.Tariff.{all_fourteen}
use Rattle.texts.specs.Texts.{bytes_of}
use Rattle.lines.specs.declared.NotANumber.{NotANumber as BadWord}
use Rattle.lines.specs.Words.{index_of, parts, not_empty, words, word_in, spaces}
use Rattle.lines.specs.Numerals.{value, numeral, number_at, numbers_in}
use Rattle.lines.proofs.Splitting.{index_within, word_length, first_word, first_byte}
use Rattle.lines.proofs.Reading.{some_numeral, told, number_told, value_told, words_passed, none_left}
use Rattle.naming.specs.declared.Word.{Word}
use Rattle.naming.specs.Naming.{calls, arity, right_count, same, named}
use Rattle.naming.proofs.Names.{same_test}
use Rattle.naming.proofs.Counts.{counted}
use Rattle.request.specs.declared.Request.{Request}
use Rattle.request.specs.declared.Request.TheVariants.{Nothing, Asks, NoCall, Unknown, NotANumber, WrongCount}
use Rattle.request.specs.Requests.{asked_by, call_in, desk_line, names_desk, asked_in, request_of, numbers_of, Ready}

-- no word stands from `from` on
pub no_words : (line : List ℕ) (from start : ℕ) → start ≡ from + spaces (drop from line) → start ≡ length line → words (drop from line) ≡ []
unfolding words parts not_empty
no_words line from start q h = words_passed line from start q ∙ rw (drop_of_length-le line {i = start} (omega arith))

-- the first word from `from` on stands from `start` to `end`
pub record WordAt (line : List ℕ) (from start end : ℕ) : Type 0 where
  pub begins : start ≡ from + spaces (drop from line)
  pub within : start < length line
  pub ends : end ≡ start + index_of 32 (drop start line)

pub word_at : {line : List ℕ} {from start end : ℕ} → start ≡ from + spaces (drop from line) → start ≤ length line → (start ≡ length line → ⊥)
    → end ≡ start + index_of 32 (drop start line) → WordAt line from start end
word_at b w n e = record { begins = b; within = omega arith; ends = e }

module _ {line : List ℕ} {from start end : ℕ} (f : WordAt line from start end) where
  some_left : 0 < length (drop start line)
  some_left = omega (arith, f.within, length-drop start line)

  none_before : spaces (drop start line) ≡ 0
  none_before = none_left line from start f.begins

  split : words (drop from line) ≡ word_in (drop start line) ∷ words (drop end line)
  split =
      words_passed line from start f.begins ∙ first_word (drop start line) some_left none_before
      ∙ rw f.ends (ap (λ xs. word_in (drop start line) ∷ words xs) (drop-drop (index_of 32 (drop start line)) start line))

  word : word_in (drop start line) ≡ take (end - start) (drop start line)
  word = let k : index_of 32 (drop start line) ≡ end - start = omega (arith, f.ends) in ap (λ n. take n (drop start line)) k

  byte : get_or (word_in (drop start line)) 0 0 ≡ get_or line start 0
  byte =
      let k : start + 0 ≡ start = omega arith in
      first_byte (drop start line) some_left none_before ∙ get_or-drop start line 0 0 ∙ ap (λ i. get_or line i 0) k

  -- the words behind it stand in `out` as numbers
  pub ready : (w : Word) (n : ℕ) (out : List ℕ) → right_count (arity w) n ≡ true → n ≤ length out → take n out ≡ map value (words (drop end line))
      → (whole : List ℕ) → numbers_of whole ≡ map value (drop 1 (words (drop from line))) → Ready w n whole out
  ready w n out t m s whole e =
      record { right = counted (arity w) n t; within = m; stand = s ∙ sym (e ∙ ap (λ ws. map value (drop 1 ws)) split) }

-- the word is a call's own
module _ {line : List ℕ} {from start end : ℕ} (f : WordAt line from start end) (desk skipped : ℕ) where
  called : call_in desk skipped (words (drop from line)) ≡ asked_by desk skipped (named calls (take (end - start) (drop start line))) (numbers_in (words (drop end line)))
  called = rw (split f, word f)

  pub call_unknown : None ≡ named calls (take (end - start) (drop start line)) → Unknown ≡ call_in desk skipped (words (drop from line))
  call_unknown a = sym (called ∙ rw (sym a))

  module _ {w : Word} (a : Some w ≡ named calls (take (end - start) (drop start line))) where
    pub call_bad : {e : BadWord} → Err e ≡ numbers_in (words (drop end line)) → NotANumber (skipped + e.word + 2) ≡ call_in desk skipped (words (drop from line))
    call_bad {e} b = let k : skipped + e.word + 2 ≡ skipped + (e.word + 2) = omega arith in ap NotANumber k ∙ sym (called ∙ rw (sym a, sym b))

    module _ {n : ℕ} (b : Ok n ≡ numbers_in (words (drop end line))) where
      pub call_asks : right_count (arity w) n ≡ true → Asks desk w n ≡ call_in desk skipped (words (drop from line))
      call_asks t = sym (called ∙ rw (sym a, sym b, t))

      pub call_wrong : right_count (arity w) n ≡ false → WrongCount w ≡ call_in desk skipped (words (drop from line))
      call_wrong t = sym (called ∙ rw (sym a, sym b, t))

-- the word behind `desk`, which is no number, or the desk's
module _ (line : List ℕ) (from start : ℕ) (q : start ≡ from + spaces (drop from line)) where
  pub no_number : start ≤ length line → None ≡ number_at line start → NoCall ≡ desk_line (words (drop from line))
  no_number m a =
      let w : numeral (word_in (drop start line)) ≡ false = subst⁻¹ (λ x. told x (word_in (drop start line)) start) a (number_told line start) in
      elim (dec_le (length line) start) [
        | yes h ↦ ap desk_line (sym (no_words line from start q (omega arith)))
        | no h ↦ (let f : WordAt line from start (start + index_of 32 (drop start line)) = record { begins = q; within = omega arith; ends = refl } in sym (ap desk_line (split f) ∙ rw w refl))
      ]

  module _ {v e : ℕ} (a : Some (v, e) ≡ number_at line start) where
    is : told (Some (v, e)) (word_in (drop start line)) start
    is = value_told line start v e a

    number : WordAt line from start e
    number =
        record {
          begins = q;
          within = omega (arith, some_numeral (word_in (drop start line)) is.0, word_length (drop start line), index_within 32 (drop start line), length-drop start line);
          ends = omega (arith, is.2, word_length (drop start line));
        }

    pub desk_asks : {r : Request} → r ≡ call_in v 2 (words (drop e line)) → r ≡ desk_line (words (drop from line))
    desk_asks c = c ∙ sym (ap desk_line (split number) ∙ rw (is.0, sym is.1))

    pub desk_numbers : drop 2 (words (drop from line)) ≡ drop 1 (words (drop e line))
    desk_numbers = ap (drop 2) (split number)

-- the line's first word
pub asks_nothing : (line : List ℕ) (start : ℕ) → start ≡ 0 + spaces (drop 0 line) → start ≡ length line → Nothing ≡ request_of line
unfolding request_of
asks_nothing line start q h = ap asked_in (sym (no_words line 0 start q h))

module _ {line : List ℕ} {start end : ℕ} (f : WordAt line 0 start end) where
  pub asks_comment : get_or line start 0 ≡ 35 → Nothing ≡ request_of line
  unfolding request_of
  asks_comment e = sym (ap asked_in (split f) ∙ rw (byte f, eq-eqb (get_or line start 0) 35 e))

  -- it is `desk`, or a call's own
  module _ (t : Bool) (text : List ℕ) (s : text ≡ bytes_of "desk") (e : t ≡ pointwise eqb (take (end - start) (drop start line)) text) where
    d : t ≡ names_desk (take (end - start) (drop start line))
    d = e ∙ same_test (take (end - start) (drop start line)) text ∙ ap (same (take (end - start) (drop start line))) s

    pub asks : (get_or line start 0 ≡ 35 → ⊥) → {r : Request} → r ≡ cond t (desk_line (words (drop end line))) (call_in all_fourteen 0 (words (drop start line))) → r ≡ request_of line
    unfolding request_of
    asks plain c = c ∙ sym (ap asked_in (split f) ∙ rw (byte f, ne_eqb (get_or line start 0) 35 plain, word f, ← d, ← words_passed line 0 start f.begins, split f, word f))

    pub asks_numbers : numbers_of line ≡ map value (cond t (drop 2 (words (drop end line))) (drop 1 (words (drop start line))))
    unfolding numbers_of
    asks_numbers = rw (← words_passed line 0 start f.begins, split f, word f, ← d)
