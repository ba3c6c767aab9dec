-- "OPEN stays and equals ASK and, where that is accepted, CONFIRM", M-106 of document 02: what both roads come to.
-- Assumes nothing.
use Rattle.std.specs.Prelude.{◌≡◌, cond, ℕ}
use Rattle.book.specs.declared.Book.{Book}
use Rattle.book.specs.Calls.{OPEN, ASK, CONFIRM, by, is_accepted}
use Rattle.book.specs.Book.{Effect, step}

-- ASK and, where it is accepted, CONFIRM, of one desk
abbrev pub asked_then_confirmed : ℕ → Book → ℕ → Effect
asked_then_confirmed desk b k =
    let asked = step b (by desk (ASK k)) in cond (is_accepted asked.answer) (step asked.book (by desk (CONFIRM k))) asked

-- the answer and the whole book after it are those of OPEN, and so is what ASK answered (proofs/TwoRoads.antt, `two_roads`)
pub record TwoRoads (desk : ℕ) (b : Book) (k : ℕ) : Type 0 where
  pub asked : (step b (by desk (ASK k))).answer ≡ (step b (by desk (OPEN k))).answer
  pub same : asked_then_confirmed desk b k ≡ step b (by desk (OPEN k))
