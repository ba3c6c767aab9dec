-- Demand 3 for C callers: a list of calls made through the library, and what is claimed of it.
-- Assumes nothing.
use Rattle.std.specs.Prelude.{◌≡◌, Bool, true, false, cond, List, [], ◌∷◌, ◌++◌, ℕ, eqb}
use Rattle.book.specs.Calls.{Act, SET, PUT, OPEN, CLOSE, DROP, UNDO, ASK, CONFIRM, DIRECT, Call, Answer, accepted, refused}
use Rattle.book.specs.Book.{fresh, step, Reachable}
use Rattle.claim.specs.Claim.{Demand3}
use Rattle.image.specs.Image.{book_in, is_image, Canonical}
use Rattle.image.specs.Changing.{Changes}

-- the calls that answer by a number alone, and the answer that a number stands for
abbrev pub is_plain : Act → Bool
is_plain (SET s) = true
is_plain (PUT k x) = true
is_plain (OPEN k) = false
is_plain (CLOSE k) = true
is_plain (DROP k) = true
is_plain UNDO = true
is_plain (ASK k) = false
is_plain (CONFIRM k) = false
is_plain (DIRECT k) = true

abbrev pub said_by : ℕ → Answer
said_by n = cond (eqb n 0) accepted (refused n)

-- A list of calls made through the library: each on the words that the one before it left, from a fresh image, with any answers and words that the
-- calls' own contracts allow. SET, PUT, CLOSE, DROP, UNDO and DIRECT answer a number; OPEN, ASK and CONFIRM a struct, which is read as the answer
-- that it stands for.
pub data Linked : List Call → List Answer → List ℕ → Type 0 where
  start : {l : List ℕ} → is_image l ≡ true → Canonical l → book_in l ≡ fresh → Linked [] [] l
  numbered : {calls : List Call} {answers : List Answer} {l : List ℕ} → Linked calls answers l → (c : Call) → is_plain c.act ≡ true
      → (r : ℕ) (m : List ℕ) → Changes c l r m → Linked (calls ++ (c ∷ [])) (answers ++ (said_by r ∷ [])) m
  told : {calls : List Call} {answers : List Answer} {l : List ℕ} → Linked calls answers l → (c : Call) (r : ℕ) (a : Answer) (m : List ℕ)
      → Changes c l r m → (is_image l ≡ true → Reachable (book_in l) → a ≡ (step (book_in l) c).answer)
      → Linked (calls ++ (c ∷ [])) (answers ++ (a ∷ [])) m

-- demand 3 of the calls, their answers and the book that the image holds, which is an image still, and the only one of its book
pub record LinkedClaim (calls : List Call) (answers : List Answer) (l : List ℕ) : Type 0 where
  pub is_image_lem : is_image l ≡ true
  pub is_canonical : Canonical l
  pub is_reachable : Reachable (book_in l)
  pub demand : Demand3 calls answers (book_in l)
