-- OPEN's, ASK's and CONFIRM's answer as it is handed to C, and what each promises of it.
-- Assumes nothing.
use Rattle.std.specs.Prelude.{◌≡◌, true, false, cond, List, ◌≢◌, ℕ, ◌≤◌, eqb, pos, get_or, take, replicate}
use Rattle.verdict.specs.Cells.{cell}
use Rattle.book.specs.declared.Reply.{Reply}
use Rattle.book.specs.declared.Reply.TheVariants as reply
use Rattle.book.specs.declared.Settled.{Settled}
use Rattle.book.specs.Calls.{Call, Answer, cells, refused, over}
use Rattle.book.specs.Book.{with_state, step, Reachable}
use Rattle.book.specs.Settling.{accepted_by}
use Rattle.codes.specs.declared.CodeAct.{CodeAct}
use Rattle.codes.specs.declared.CodeAct.TheVariants.{Open, Close, Drop, Ask, Confirm}
use Rattle.image.specs.Layout.{start_of}
use Rattle.image.specs.Image.{state_of, place_at, book_in, is_image}
use Rattle.image.specs.Changing.{Changes}
use Rattle.image_codes.specs.declared.Opened.{Opened}
use Rattle.image_codes.specs.Storing.{Stored}

-- a refusal's number, or the number of cells; and an answer by what was replied, with the months beside it
abbrev pub plain : ℕ → ℕ → Opened
plain refusal number =
    record { refusal = refusal; cells = number; region = 0; method = 0; excess = 0; t = 0; months = replicate 12 0 }

abbrev pub opened_of : Reply → List ℕ → Opened
opened_of reply.Accepted months = plain 0 0
opened_of (reply.Cells n) months = plain 0 n
opened_of (reply.Refused n) months = plain n 0
opened_of (reply.Over region method t excess) months =
    record { refusal = 11; cells = 0; region = region; method = method; excess = excess; t = t; months = months }

-- the answer that it says: 0: accepted, with the number of cells; 11: the cell, the first t months and the excess; else the refusal
abbrev pub answer_in : Opened → Answer
answer_in r =
    cond (eqb r.refusal 0) (cells r.cells)
    (cond (eqb r.refusal 11) (over (cell r.region r.method) (take r.t r.months) (pos r.excess)) (refused r.refusal))

-- what it does not say is 0
pub record OthersNought (r : Opened) : Type 0 where
  pub cells : r.refusal ≢ 0 → r.cells ≡ 0
  pub figures : r.refusal ≢ 11 → (r.region ≡ 0) × (r.method ≡ 0) × (r.excess ≡ 0) × (r.t ≡ 0)
  pub months : (j : ℕ) → r.t ≤ j → get_or r.months j 0 ≡ 0

-- OPEN, ASK or CONFIRM on an image, with its answer and the words after it
pub record Opens (c : Call) (l : List ℕ) (r : Opened) (m : List ℕ) : Type 0 where
  pub changes : Changes c l r.refusal m
  pub says : is_image l ≡ true → Reachable (book_in l) → answer_in r ≡ (step (book_in l) c).answer
  pub others_nought : OthersNought r

-- the calls whose answer carries the number of cells, and the state that each leaves, as a word
abbrev pub CarriesCells : CodeAct → Type 0
CarriesCells Open = Unit {0}
CarriesCells Close = ⊥
CarriesCells Drop = ⊥
CarriesCells Ask = Unit {0}
CarriesCells Confirm = Unit {0}

abbrev pub state_after : CodeAct → ℕ
state_after Open = 3
state_after Close = 1
state_after Drop = 0
state_after Ask = 2
state_after Confirm = 3

-- what was settled, handed on: its answer, and its place in a state where it is accepted
pub record HandedOn (l : List ℕ) (i state : ℕ) (s : Settled) (r : Opened) (m : List ℕ) : Type 0 where
  pub answers : r ≡ opened_of s.reply s.months
  pub refused : accepted_by s.reply ≡ false → m ≡ l
  pub accepted : accepted_by s.reply ≡ true → Stored l m i (with_state (state_of state) (place_at l (start_of i)))
