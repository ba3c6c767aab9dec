-- How the code goes about the run: one search for the first account that 19 or 18 refuses, and the answers that it makes. Only the code's own
-- functions are promised in these words; specs/Rebates.antt does without them.
-- Assumes nothing.
use Rattle.std.specs.Prelude.{Bool, cond, [], ℕ, eqb}
use Rattle.std.proofs.Math.Option.{Option, none, some}
use Rattle.book.specs.declared.Book.{Book}
use Rattle.rebates.specs.declared.Account.{Account}
use Rattle.rebates.specs.declared.Run.{Run}
use Rattle.rebates.specs.declared.Run.TheVariants as run
use Rattle.rebates.specs.Rebates.{fails19, fails18, RunAnswer, accepted, refused_at}

-- whether the account at a place is refused with this number
abbrev pub fails_by : (number : ℕ) → Book → (desk place : ℕ) → Account → Bool
fails_by number b desk place a = cond (eqb number 19) (fails19 b desk place a) (fails18 b place a)

-- the place found, or else the length of the list
abbrev pub place_or : ℕ → Option ℕ → ℕ
place_or n none = n
place_or n (some place) = place

-- what is read past the end of a list; no promise looks there
abbrev pub no_account : Account
no_account = record { code = 0; region = 0; method = 0; count = 0; months = []; rebate = 0 }

-- the code's answer in the paper's words
abbrev pub answer_of : Run → RunAnswer
answer_of (run.Accepted total) = accepted total
answer_of (run.Refused number place) = refused_at number place
