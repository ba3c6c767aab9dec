-- The rebate run of M-108, on an image and a list of accounts that a C program owns.
-- Assumes nothing.
use Rattle.std.specs.Prelude.{◌≡◌, cond, List, ℕ, eqb}
use Rattle.calendar.specs.declared.Period.{Period}
use Rattle.rebates.specs.declared.Account.{Account}
use Rattle.rebates.specs.declared.Run.{Run}
use Rattle.rebates.specs.declared.Run.TheVariants as run
use Rattle.rebates.specs.Rebates.{RunAnswer, accepted, refused_at, run_of, after_run}
use Rattle.image.specs.Image.{book_in}
use Rattle.image.specs.Changing.{no_book}
use Rattle.image_check.specs.Checking.{IsBook}
use Rattle.slatewhim.specs.declared.Ran.{Ran}

-- a period, as C hands it over
abbrev pub period_of : (year month months : ℕ) → Period
period_of year month months = record { year = year; month = month; months = months }

-- the answer as it is handed to C, and the one that it stands for
abbrev pub ran_of : Run → Ran
ran_of (run.Accepted total) = record { refusal = 0; place = 0; total = total }
ran_of (run.Refused number place) = record { refusal = number; place = place; total = 0 }

abbrev pub run_in : Ran → RunAnswer
run_in r = cond (eqb r.refusal 0) (accepted r.total) (refused_at r.refusal r.place)

-- a run over a list of accounts: what is no book is no_book, and the list stays; else the answer and the whole list are those of the run
pub record RunsOver (l : List ℕ) (desk : ℕ) (before : List Account) (r : Ran) (after : List Account) : Type 0 where
  pub no_book_lem : (IsBook l → ⊥) → (r.refusal ≡ no_book) × (after ≡ before)
  pub runs : IsBook l → (run_in r ≡ run_of (book_in l) desk before) × (after ≡ after_run (book_in l) desk before)
