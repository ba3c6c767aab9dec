-- Laws of lines taken from a list of bytes.
-- Assumes nothing.
use mathlib.Core.Path.{◌≡◌, refl, sym, ◌∙◌, ap, subst}
use mathlib.Core.Bool.{Bool, true, false, ◌||◌}
use mathlib.Core.List.{List, [], ◌∷◌, ◌++◌}
use Prim.Native.Nat.{ℕ, zero, suc, ◌+◌, ◌-◌, ◌^◌, ◌<◌, ◌≤◌}
use native.Mathlib.Nat.{le_of_suc-le-suc}
use native.Mathlib.Omega.{arith}
use lib.Dec.{eqb, ltb, leb, leb-suc-suc}
use lib.ListN.{length, get_or, take, drop}
use lib.Seq.{get_or-take, get_or-drop, take-take}
use borrow.Author.Tests.{eqb-true, leb-true, ltb-true, ltb-false, lt-ltb, le-ltb}
use Rattle.laws.proofs.Every.{and_left, and_right}
use Rattle.laws.proofs.Never.{never}
use Rattle.book.specs.declared.Reply.{Reply}
use Rattle.book.specs.declared.Place.{Place}
use Rattle.book.specs.declared.Kept.{Kept}
use Rattle.book.specs.declared.Book.{Book}
use Rattle.book.specs.Checks.{inside}
use Rattle.book.specs.Book.{beyond, set_place, with_places, Reachable}
use Rattle.texts.specs.Writing.{Puts}
use Rattle.answers.specs.Answers.{answer_room}
use Rattle.texts.proofs.Writing.{puts_behind, puts_none}
use Rattle.lines.specs.Words.{index_of, index_after, between}
use Rattle.naming.specs.declared.CodeStep.{CodeStep}
use Rattle.naming.specs.declared.CodeStep.TheVariants.{Put, Open, Close, Drop, Ask, Confirm, Direct}
use Rattle.naming.specs.declared.Word.TheVariants.{On}
use Rattle.naming.specs.Naming.{arity, RightCount}
use Rattle.protocol.specs.Lines.{Response, line_at}
use Rattle.protocol.specs.Promises.{Answered}
use Rattle.book.specs.Settling.{kept_after, stored_in, HasPlace}
use Rattle.book.proofs.Places.{has_there}
use Rattle.lines.proofs.Parts.{length_between}
use Rattle.input.specs.declared.Input.{Input}
use Rattle.input.proofs.Between.{between_split, between_one, between_none}
use Rattle.taking.specs.Taking.{has_feed, Takes, none_taken, line_taken, has_room}

-- the first byte b of a list, and those before it
index_at : (b : ℕ) (xs : List ℕ) → index_of b xs < length xs → get_or xs (index_of b xs) 0 ≡ b
unfolding index_of
index_at b [] h = absurd (omega arith)
index_at b (x ∷ xs) h = go (eqb x b) refl (index_at b xs) h
  where
    go : (t : Bool) → eqb x b ≡ t → (index_of b xs < length xs → get_or xs (index_of b xs) 0 ≡ b)
        → index_after t (index_of b xs) < suc (length xs) → get_or (x ∷ xs) (index_after t (index_of b xs)) 0 ≡ b
    go true e later k = eqb-true x b e
    go false e later k = later (le_of_suc-le-suc k)

-- a line feed is among bytes where the place of the first is inside them, and none stands before it
has_feed_lem : (xs : List ℕ) → has_feed xs ≡ ltb (index_of 10 xs) (length xs)
unfolding has_feed index_of
has_feed_lem [] = refl
has_feed_lem (x ∷ xs) = go (eqb x 10) (has_feed_lem xs)
  where
    go : (t : Bool) → has_feed xs ≡ ltb (index_of 10 xs) (length xs) → (t || has_feed xs) ≡ ltb (index_after t (index_of 10 xs)) (suc (length xs))
    go true later = sym (lt-ltb zero (suc (length xs)) (omega arith))
    go false later = later ∙ sym (leb-suc-suc (suc (index_of 10 xs)) (length xs))

before_feed : (xs : List ℕ) → has_feed (take (index_of 10 xs) xs) ≡ false
unfolding has_feed index_of
before_feed [] = refl
before_feed (x ∷ xs) = go (eqb x 10) refl (before_feed xs)
  where
    go : (t : Bool) → eqb x 10 ≡ t → has_feed (take (index_of 10 xs) xs) ≡ false → has_feed (take (index_after t (index_of 10 xs)) (x ∷ xs)) ≡ false
    go true e later = refl
    go false e later = ap (λ t. t || has_feed (take (index_of 10 xs) xs)) e ∙ later

-- a line's end that was found: no line feed before it, and one there unless the bytes end
no_feed : (xs : List ℕ) (from to end : ℕ) → end ≤ to → end ≡ from + index_of 10 (between xs from to) → has_feed (between xs from end) ≡ false
no_feed xs from to end k e =
    let i = index_of 10 (between xs from to) in
    let n : end - from ≡ i = omega arith in
    ap (λ j. has_feed (take j (drop from xs))) n
    ∙ ap has_feed (sym (take-take i (to - from) (drop from xs) (omega arith)))
    ∙ before_feed (between xs from to)

pub feed_left : (xs : List ℕ) (from to end : ℕ) → to ≤ length xs → from ≤ end → end ≡ from + index_of 10 (between xs from to)
    → has_feed (between xs from to) ≡ ltb end to
feed_left xs from to end h k e = has_feed_lem (between xs from to) ∙ go (ltb end to) refl
  where
    i : ℕ
    i = index_of 10 (between xs from to)

    go : (t : Bool) → ltb end to ≡ t → ltb i (length (between xs from to)) ≡ ltb end to
    go true q = lt-ltb i (length (between xs from to)) (omega (arith, ltb-true end to q, length_between xs from to h)) ∙ sym q
    go false q = le-ltb i (length (between xs from to)) (omega (arith, ltb-false end to q, length_between xs from to h)) ∙ sym q

feed_at : (xs : List ℕ) (from to end : ℕ) → to ≤ length xs → end < to → end ≡ from + index_of 10 (between xs from to) → get_or xs end 0 ≡ 10
feed_at xs from to end h k e =
    let i = index_of 10 (between xs from to) in
    let n : i < to - from = omega arith in
    ap (λ j. get_or xs j 0) e
    ∙ sym (get_or-drop from xs i 0)
    ∙ sym (get_or-take (to - from) (drop from xs) i 0 n)
    ∙ index_at 10 (between xs from to) (omega (arith, length_between xs from to h))

-- the bytes of one line more
pub line_more : (xs : List ℕ) (start from to end : ℕ) → to ≤ length xs → start ≤ from → end < to → end ≡ from + index_of 10 (between xs from to)
    → between xs start (end + 1) ≡ between xs start from ++ between xs from end ++ (10 ∷ [])
line_more xs start from to end h k l e =
    between_split xs start end (end + 1) (omega arith) (omega arith)
    ∙ ap (λ ys. ys ++ between xs end (end + 1)) (between_split xs start from end k (omega arith))
    ∙ ap (λ ys. between xs start from ++ between xs from end ++ ys) (between_one xs end (omega arith) ∙ ap (λ b. b ∷ []) (feed_at xs from to end h l e))

-- room for an answer and a number for its line
pub room_yes : (at size l : ℕ) → has_room at size l ≡ true → (at + answer_room ≤ size) × (l + 1 < 2 ^ 64)
room_yes at size l e =
    (leb-true (at + answer_room) size (and_left _ (ltb (l + 1) (2 ^ 64)) e), ltb-true (l + 1) (2 ^ 64) (and_right (leb (at + answer_room) size) _ e))

-- a call on a code has a number at least, the code, and is made on the place at its index
pub some_number : (s : CodeStep) (n : ℕ) → RightCount (arity (On s)) n → 1 ≤ n
some_number Put n h = h
some_number Open n h = omega arith
some_number Close n h = omega arith
some_number Drop n h = omega arith
some_number Ask n h = omega arith
some_number Confirm n h = omega arith
some_number Direct n h = omega arith

pub has_place : (b : Book) (numbers : List ℕ) (n i : ℕ) → Reachable b → 1 ≤ n
    → (i < 32) × (inside (get_or numbers 0 0) ≡ true → suc i ≡ get_or numbers 0 0)
    → HasPlace b (get_or (take n numbers) 0 0) i (get_or b.places i beyond) b.loaded b.benchmarks
has_place b numbers n i r m h =
    let same = get_or-take n numbers 0 0 (omega arith) in
    has_there r (get_or (take n numbers) 0 0) i (h.0, subst (λ k. inside k ≡ true → suc i ≡ k) (sym same) h.1)

-- a call on a code is answered with what is kept for UNDO stored by itself
pub stored_answered : (b : Book) (i : ℕ) (p : Place) (q : Reply) {line : Response} {k : Kept} {before : List ℕ} {at next : ℕ} {after : List ℕ}
    → k ≡ kept_after q b.kept → Answered line (stored_in b i p q) before at next after
    → Answered line (with_places b (set_place b.places (suc i) p) k) before at next after
stored_answered b i p q {line} {k} {before} {at} {next} {after} e a =
    subst (λ s. Answered line (with_places b (set_place b.places (suc i) p) s) before at next after) (sym e) a

-- what the loop of `take_lines` has done so far
pub record Sofar (b : Book) (lines : ℕ) (i : Input) (input before after : List ℕ) (book : Book) (from : ℕ) (cut : Bool) (l at end : ℕ) : Type 0 where
  pub text : List ℕ
  pub takes : Takes b lines i.cut (between input i.from from) book l cut text
  pub puts : Puts before 0 text at after
  pub reachable : Reachable book
  pub passed : i.from ≤ from
  pub order : from ≤ end
  pub inside : end ≤ i.to
  pub found : end ≡ from + index_of 10 (between input from i.to)

module _ (b : Book) (lines : ℕ) (i : Input) (input before : List ℕ) (fits : i.to ≤ length input) where
  -- nothing yet
  pub sofar_none : (end : ℕ) → Reachable b → i.from ≤ end → end ≤ i.to → end ≡ i.from + index_of 10 (between input i.from i.to)
      → Sofar b lines i input before before b i.from i.cut lines 0 end
  sofar_none end r o k f =
      record {
        text = [];
        takes = subst (λ bytes. Takes b lines i.cut bytes b lines i.cut []) (sym (between_none input i.from)) none_taken;
        puts = puts_none before 0 (omega arith);
        reachable = r;
        passed = omega arith;
        order = o;
        inside = k;
        found = f;
      }

  -- one line more
  pub sofar_more : (after after' : List ℕ) (book book' : Book) (from : ℕ) (cut : Bool) (l at at' end end' : ℕ)
      → Sofar b lines i input before after book from cut l at end → end < i.to
      → book' ≡ (line_at book (l + 1) cut (between input from end)).book → Reachable book'
      → Puts after at (line_at book (l + 1) cut (between input from end)).text at' after'
      → end + 1 ≤ end' → end' ≤ i.to → end' ≡ end + 1 + index_of 10 (between input (end + 1) i.to)
      → Sofar b lines i input before after' book' (end + 1) false (l + 1) at' end'
  sofar_more after after' book book' from cut l at at' end end' s k e r w o m f =
      let line = between input from end in
      record {
        text = s.text ++ (line_at book (l + 1) cut line).text;
        takes = rw (line_more input i.from from i.to end fits s.passed k s.found, e)
            (line_taken line s.takes (no_feed input from i.to end s.inside s.found));
        puts = puts_behind s.puts w;
        reachable = r;
        passed = omega (arith, s.passed, s.order);
        order = o;
        inside = m;
        found = f;
      }

-- line feeds of two lists together
pub feed_append : (xs ys : List ℕ) → has_feed xs ≡ false → has_feed ys ≡ false → has_feed (xs ++ ys) ≡ false
unfolding has_feed
feed_append [] ys a b = b
feed_append (x ∷ xs) ys a b = go (eqb x 10) (λ e. feed_append xs ys e b) a
  where
    go : (t : Bool) → (has_feed xs ≡ false → has_feed (xs ++ ys) ≡ false) → (t || has_feed xs) ≡ false → (t || has_feed (xs ++ ys)) ≡ false
    go true later e = e
    go false later e = later e

pub feed_split : (xs ys : List ℕ) → has_feed (xs ++ ys) ≡ false → (has_feed xs ≡ false) × (has_feed ys ≡ false)
unfolding has_feed
feed_split [] ys e = (refl, e)
feed_split (x ∷ xs) ys e = go (eqb x 10) (feed_split xs ys) e
  where
    go : (t : Bool) → (has_feed (xs ++ ys) ≡ false → (has_feed xs ≡ false) × (has_feed ys ≡ false)) → (t || has_feed (xs ++ ys)) ≡ false
        → ((t || has_feed xs) ≡ false) × (has_feed ys ≡ false)
    go true later e = never (cc)
    go false later e = later e

pub feed_last : (xs : List ℕ) → has_feed (xs ++ (10 ∷ [])) ≡ true
unfolding has_feed
feed_last [] = refl
feed_last (x ∷ xs) = go (eqb x 10) (feed_last xs)
  where
    go : (t : Bool) → has_feed (xs ++ (10 ∷ [])) ≡ true → (t || has_feed (xs ++ (10 ∷ []))) ≡ true
    go true later = refl
    go false later = later

-- where no line feed is among the bytes taken there is no line, and no answer
pub takes_none : {b b' : Book} {l l' : ℕ} {cut cut' : Bool} {bytes text : List ℕ} → Takes b l cut bytes b' l' cut' text → has_feed bytes ≡ false
    → (l' ≡ l) × (length text ≡ 0)
takes_none none_taken h = (refl, refl)
takes_none (line_taken {bytes = bytes} line t k) h = never (cc (sym h ∙ feed_last (bytes ++ line)))
