-- All that a desk may ask of the book, the nine calls, the four that tell and the rebate run, and what a list of it is answered.
-- Assumes nothing.
use Rattle.std.specs.Prelude.{List, [], ◌∷◌, ℕ}
use Rattle.book.specs.declared.Book.{Book}
use Rattle.book.specs.Calls.{Sheet, Act, by, Answer}
use Rattle.book.specs.Book.{step}
use Rattle.queries.specs.Queries.{Telling, benchmark_of, maximum_of}
use Rattle.quoting.specs.Quote.{quote_of}
use Rattle.trial.specs.Trial.{trial_of}
use Rattle.rebates.specs.declared.Account.{Account}
use Rattle.rebates.specs.Rebates.{RunAnswer, run_of, after_run}

pub data Asking : Type 0 where
  act : Act → Asking
  BENCHMARK : (region arrangement method level : ℕ) → Asking
  MAXIMUM : (region arrangement method total : ℕ) → Asking
  QUOTE : (code region method : ℕ) → List ℕ → Asking
  TRIAL : Sheet → Asking
  REBATE : List Account → Asking

-- an answer in full, with the cell, the months and the excess of 11; what is told; or a run's answer, and the list as it leaves it
pub data Reply : Type 0 where
  answered : Answer → Reply
  told : Telling → Reply
  ran : RunAnswer → List Account → Reply

abbrev pub reply_to : (desk : ℕ) → Book → Asking → Reply
reply_to desk b (act a) = answered (step b (by desk a)).answer
reply_to desk b (BENCHMARK r a p l) = told (benchmark_of b desk r a p l)
reply_to desk b (MAXIMUM r a p n) = told (maximum_of b desk r a p n)
reply_to desk b (QUOTE k r p months) = told (quote_of b desk k r p months)
reply_to desk b (TRIAL s) = told (trial_of b desk s)
reply_to desk b (REBATE l) = ran (run_of b desk l) (after_run b desk l)

-- the book after it: what tells, and a run, leave it as it is
abbrev pub left_by : (desk : ℕ) → Book → Asking → Book
left_by desk b (act a) = (step b (by desk a)).book
left_by desk b (BENCHMARK r a p l) = b
left_by desk b (MAXIMUM r a p n) = b
left_by desk b (QUOTE k r p months) = b
left_by desk b (TRIAL s) = b
left_by desk b (REBATE l) = b

-- a list of one desk's calls, each on the book that the one before it left
unfoldable pub replies : (desk : ℕ) → Book → List Asking → List Reply
replies desk b [] = []
replies desk b (a ∷ rest) = reply_to desk b a ∷ replies desk (left_by desk b a) rest
