-- What the code's answers say in document 01's words, and what each of the nine calls that may change the book promises.
-- Assumes nothing.
use Rattle.std.specs.Prelude.{◌≡◌, List, ℕ, ◌≤◌, pos, get_or, take}
use Rattle.verdict.specs.Cells.{cell}
use Rattle.book.specs.declared.Reply.{Reply}
use Rattle.book.specs.declared.Reply.TheVariants as reply
use Rattle.book.specs.declared.Done.{Done}
use Rattle.book.specs.declared.Book.{Book}
use Rattle.book.specs.Calls.{Call, Answer, accepted, cells, refused, over}
use Rattle.book.specs.Book.{step}

-- the answer of a reply, with the months that stand beside it: over the cap, the first t of them are those of the answer
abbrev pub answer_of : Reply → List ℕ → Answer
answer_of reply.Accepted months = accepted
answer_of (reply.Cells n) months = cells n
answer_of (reply.Refused number) months = refused number
answer_of (reply.Over region method t excess) months = over (cell region method) (take t months) (pos excess)

-- how many months an answer carries; the places past them are 0
abbrev pub months_in : Reply → ℕ
months_in reply.Accepted = 0
months_in (reply.Cells n) = 0
months_in (reply.Refused n) = 0
months_in (reply.Over r m t e) = t

abbrev pub NoughtPast : Reply → List ℕ → Type 0
NoughtPast q months = (i : ℕ) → months_in q ≤ i → get_or months i 0 ≡ 0

-- a call on a book, as the code did it: its answer and the whole book after it
pub record Does (b : Book) (c : Call) (r : Done) : Type 0 where
  pub answers : answer_of r.reply r.months ≡ (step b c).answer
  pub leaves : r.book ≡ (step b c).book
  pub rest_nought : NoughtPast r.reply r.months
