-- What the desk does with one line, as the protocol says: the book after it, and its answer.
-- Assumes nothing.
use Rattle.std.specs.Prelude.{Bool, cond, ◌||◌, List, ℕ, ltb, length, get_or, drop}
use Rattle.calendar.specs.declared.Period.{Period}
use Rattle.book.specs.declared.Book.{Book}
use Rattle.book.specs.Calls.{Sheet, sheet_at, Act, SET, PUT, OPEN, CLOSE, DROP, UNDO, ASK, CONFIRM, DIRECT, Call, by}
use Rattle.book.specs.Book.{step}
use Rattle.queries.specs.Queries.{Telling, benchmark_of, maximum_of}
use Rattle.quoting.specs.Quote.{quote_of}
use Rattle.trial.specs.Trial.{trial_of}
use Rattle.lines.specs.Words.{longest_line, without_return}
use Rattle.naming.specs.declared.CodeStep.{CodeStep}
use Rattle.naming.specs.declared.CodeStep.TheVariants.{Put, Open, Close, Drop, Ask, Confirm, Direct}
use Rattle.naming.specs.declared.Query.{Query}
use Rattle.naming.specs.declared.Query.TheVariants.{Benchmark, Maximum, Quote, Trial}
use Rattle.naming.specs.declared.Word.{Word}
use Rattle.naming.specs.declared.Word.TheVariants.{Set, Undo, On, Tells, Rebate}
use Rattle.request.specs.declared.Request.{Request}
use Rattle.request.specs.declared.Request.TheVariants.{Nothing, Asks, NoCall, Unknown, NotANumber, WrongCount}
use Rattle.request.specs.Requests.{request_of, numbers_of}
use Rattle.errors.specs.Errors.{too_long, problem_text}
use Rattle.answers.specs.Answers.{answer_text, told_text}
use Rattle.rebating.specs.Rebating.{rebate_text}

-- set and trial YEAR MONTH T F0 F1 ..
abbrev pub period_of : List ℕ → Period
period_of ns = record { year = get_or ns 0 0; month = get_or ns 1 0; months = get_or ns 2 0 }

abbrev pub given_sheet : List ℕ → Sheet
given_sheet ns = sheet_at (drop 3 ns) (period_of ns)

-- what a call on a code asks for with these numbers
abbrev pub on_of : CodeStep → List ℕ → Act
on_of Put ns = PUT (get_or ns 0 0) (drop 1 ns)
on_of Open ns = OPEN (get_or ns 0 0)
on_of Close ns = CLOSE (get_or ns 0 0)
on_of Drop ns = DROP (get_or ns 0 0)
on_of Ask ns = ASK (get_or ns 0 0)
on_of Confirm ns = CONFIRM (get_or ns 0 0)
on_of Direct ns = DIRECT (get_or ns 0 0)

-- what the book tells a desk to these numbers
abbrev pub told_of : Book → (desk : ℕ) → Query → List ℕ → Telling
told_of b desk Benchmark ns = benchmark_of b desk (get_or ns 0 0) (get_or ns 1 0) (get_or ns 2 0) (get_or ns 3 0)
told_of b desk Maximum ns = maximum_of b desk (get_or ns 0 0) (get_or ns 1 0) (get_or ns 2 0) (get_or ns 3 0)
told_of b desk Quote ns = quote_of b desk (get_or ns 0 0) (get_or ns 1 0) (get_or ns 2 0) (drop 3 ns)
told_of b desk Trial ns = trial_of b desk (given_sheet ns)

-- what a line leads to: the book after it, and the text of its answer
pub record Response : Type 0 where
  pub book : Book
  pub text : List ℕ

abbrev pub step_line : Book → Call → Response
step_line b c = record { book = (step b c).book; text = answer_text (step b c).answer }

abbrev pub told_line : Book → Telling → Response
told_line b t = record { book = b; text = told_text t }

abbrev pub call_line : Book → (desk : ℕ) → Word → List ℕ → Response
call_line b desk Set ns = step_line b (by desk (SET (given_sheet ns)))
call_line b desk Undo ns = step_line b (by desk UNDO)
call_line b desk (On s) ns = step_line b (by desk (on_of s ns))
call_line b desk (Tells q) ns = told_line b (told_of b desk q ns)
call_line b desk Rebate ns = record { book = b; text = rebate_text b desk ns }

-- a line that is no call: "the book is untouched"
abbrev pub problem_line : Book → ℕ → Request → Response
problem_line b l q = record { book = b; text = problem_text l q }

abbrev pub request_line : Book → ℕ → Request → List ℕ → Response
request_line b l Nothing ns = problem_line b l Nothing
request_line b l (Asks desk w n) ns = call_line b desk w ns
request_line b l NoCall ns = problem_line b l NoCall
request_line b l Unknown ns = problem_line b l Unknown
request_line b l (NotANumber k) ns = problem_line b l (NotANumber k)
request_line b l (WrongCount w) ns = problem_line b l (WrongCount w)

-- line l without its line feed; `cut`: its start was dropped, since it is too long
abbrev pub long_line : Book → ℕ → Response
long_line b l = record { book = b; text = too_long l }

unfoldable pub line_at : Book → ℕ → (cut : Bool) → List ℕ → Response
line_at b l cut bytes =
    cond (cut || ltb longest_line (length bytes)) (long_line b l)
    (request_line b l (request_of (without_return bytes)) (numbers_of (without_return bytes)))
