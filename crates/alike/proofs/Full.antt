-- A desk with all fourteen regions is answered as if there were no desks: behind each 17 stands what is answered then.
-- Assumes nothing.
use mathlib.Core.Path.{refl}
use Rattle.book.specs.Calls.{SET, PUT, OPEN, CLOSE, DROP, UNDO, ASK, CONFIRM, DIRECT}
use Rattle.book.specs.Book.{step}
use Rattle.queries.specs.Queries.{benchmark_of, maximum_of}
use Rattle.quoting.specs.Quote.{quote_of}
use Rattle.trial.specs.Trial.{trial_of}
use Rattle.alike.specs.Replies.{act, BENCHMARK, MAXIMUM, QUOTE, TRIAL, REBATE}
use Rattle.alike.specs.Full.{FullDesk}

pub full_desk : FullDesk
unfolding step benchmark_of maximum_of quote_of trial_of
full_desk b (act (SET s)) = refl
full_desk b (act (PUT k x)) = refl
full_desk b (act (OPEN k)) = refl
full_desk b (act (CLOSE k)) = refl
full_desk b (act (DROP k)) = refl
full_desk b (act UNDO) = refl
full_desk b (act (ASK k)) = refl
full_desk b (act (CONFIRM k)) = refl
full_desk b (act (DIRECT k)) = refl
full_desk b (BENCHMARK r a p l) = refl
full_desk b (MAXIMUM r a p n) = refl
full_desk b (QUOTE k r p months) = refl
full_desk b (TRIAL s) = refl
full_desk b (REBATE l) = refl
