-- A run of an encoded list that is under way: what is left to do leads to the same book and the same answers.
-- Assumes nothing.
use mathlib.Core.Path.{◌≡◌, ◌∙◌, ap}
use mathlib.Core.List.{List, [], ◌∷◌, map}
use Prim.Native.Nat.{ℕ, ◌+◌, ◌≤◌, ◌<◌}
use native.Mathlib.Omega.{arith}
use native.Mathlib.Numerals.{add-one}
use lib.ListN.{length, drop, set, length-set}
use lib.Seq.{sets}
use Rattle.book.specs.declared.Book.{Book}
use Rattle.book.specs.Calls.{Call}
use Rattle.book.specs.Book.{book_after, answers_of}
use Rattle.replay.specs.declared.Ran.{Ran}
use Rattle.replay.specs.Encoded.{encode, number_of}
use Rattle.replay.specs.Running.{RanAt}

-- what is left to do, to end with the book B and the numbers O
pub record Left (B : Book) (O rest : List ℕ) (b : Book) (out : List ℕ) (n : ℕ) : Type 0 where
  pub todo : List Call
  pub stands : rest ≡ encode todo
  pub room : n + length todo ≤ length out
  pub book : book_after b todo ≡ B
  pub numbers : sets out n (map number_of (answers_of b todo)) ≡ O

module _ (B : Book) (O rest : List ℕ) (b : Book) (out : List ℕ) (n : ℕ) where
  -- one call is run
  step_on : (cs : List Call) → rest ≡ encode cs → n + length cs ≤ length out → book_after b cs ≡ B
      → sets out n (map number_of (answers_of b cs)) ≡ O → 0 < length rest → (r : Ran) → RanAt b rest r
      → (next : List ℕ) → next ≡ drop r.end rest → Left B O next r.book (set out n r.number) (n + 1)
  unfolding book_after answers_of
  step_on [] e m p q h r a next f = absurd (omega (arith, ap length e))
  step_on (c ∷ cs) e m p q h r a next f =
      let w = a.runs c (encode cs) e in
      record {
        todo = cs;
        stands = f ∙ w.2;
        room = omega (arith, length-set out n r.number);
        book = ap (λ x. book_after x cs) w.1 ∙ p;
        numbers = rw (w.0, w.1, add-one) q;
      }

  pub left_step : Left B O rest b out n → 0 < length rest → (r : Ran) → RanAt b rest r
      → (next : List ℕ) → next ≡ drop r.end rest → Left B O next r.book (set out n r.number) (n + 1)
  left_step l = step_on l.todo l.stands l.room l.book l.numbers

  -- the list is at its end, or there is no more room
  end_with : (cs : List Call) → rest ≡ encode cs → n + length cs ≤ length out → book_after b cs ≡ B
      → sets out n (map number_of (answers_of b cs)) ≡ O → (0 < length rest → n < length out → ⊥) → (b ≡ B) × (out ≡ O)
  unfolding book_after answers_of
  end_with [] e m p q h = (p, q)
  end_with (c ∷ cs) e m p q h = absurd (h (omega (arith, ap length e)) (omega arith))

  pub left_end : Left B O rest b out n → (0 < length rest → n < length out → ⊥) → (b ≡ B) × (out ≡ O)
  left_end l = end_with l.todo l.stands l.room l.book l.numbers
