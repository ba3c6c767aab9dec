-- Worked runs of rebates (document 02, M-108), on the reference sheet.
-- Assumes nothing.
use Rattle.std.specs.Prelude.{◌≡◌, List, [], ◌∷◌, ◌++◌, ℕ, replicate}
use Rattle.tariff.specs.Tariff.{all_fourteen}
use Rattle.book.specs.declared.Book.{Book}
use Rattle.book.specs.Calls.{SET, PUT, OPEN, DIRECT}
use Rattle.book.specs.Book.{fresh}
use Rattle.rebates.specs.declared.Account.{Account}
use Rattle.rebates.specs.Rebates.{with_rebate, accepted, refused_at, run_of, after_run}
use Rattle.worked.specs.Worked.{quarter, low, steep, book_of}

-- the sheet of the quarter: the tiered tariff open under a direction in place 7, another open without one in place 8, and the tiered one as a
-- draft under a direction in place 9
abbrev pub at_quarter_end : Book
at_quarter_end = book_of (SET quarter ∷ PUT 7 steep ∷ DIRECT 7 ∷ OPEN 7 ∷ PUT 8 low ∷ OPEN 8 ∷ PUT 9 steep ∷ DIRECT 9 ∷ [])

-- an account of a code, in region 0 by method 1, with a number of months; the nine places past three hold what no month may
abbrev pub account_of : (code count : ℕ) → List ℕ → Account
account_of code count three = record { code = code; region = 0; method = 1; count = count; months = three ++ replicate 9 10001; rebate = 0 }

-- 100 kWh in each of three months; and the same 300 kWh in one month
abbrev pub even : Account
even = account_of 7 3 (100 ∷ 100 ∷ 100 ∷ [])

abbrev pub lumped : Account
lumped = account_of 7 3 (300 ∷ 0 ∷ 0 ∷ [])

-- of other codes, and of another number of months than three
abbrev pub of_code : ℕ → Account
of_code code = account_of code 3 (100 ∷ 100 ∷ 100 ∷ [])

abbrev pub of_count : ℕ → Account
of_count count = account_of 7 count (100 ∷ 100 ∷ 100 ∷ [])

-- of a book `b`: proved of the one above (proofs/Rebates.antt, `rebates`)
pub record Rebates (b : Book) : Type 0 where
  -- 100, 100 and 100 kWh are owed 70,425 mills; 300 in one month nothing
  pub owed : run_of b all_fourteen (even ∷ []) ≡ accepted 70425
  pub written : after_run b all_fourteen (even ∷ []) ≡ with_rebate 70425 even ∷ []
  pub owed_nothing : run_of b all_fourteen (lumped ∷ []) ≡ accepted 0
  -- an account that stands twice is owed twice, and no other part of any changes
  pub added_up : run_of b all_fourteen (even ∷ lumped ∷ even ∷ []) ≡ accepted 140850
  pub all_written : after_run b all_fourteen (even ∷ lumped ∷ even ∷ []) ≡ with_rebate 70425 even ∷ lumped ∷ with_rebate 70425 even ∷ []
  -- 18: open without a direction; and a draft under one
  pub not_directed : run_of b all_fourteen (even ∷ of_code 8 ∷ of_code 9 ∷ []) ≡ refused_at 18 1
  pub not_open : run_of b all_fourteen (even ∷ even ∷ of_code 9 ∷ []) ≡ refused_at 18 2
  -- 19 over the whole list before 18, and nothing is written
  pub quote_first : run_of b all_fourteen (of_code 8 ∷ even ∷ of_code 10 ∷ of_code 33 ∷ []) ≡ refused_at 19 2
  pub none_written : after_run b all_fourteen (even ∷ of_code 10 ∷ []) ≡ even ∷ of_code 10 ∷ []
  -- 19: a number of months that is not t; of thirteen there are only twelve places
  pub two_months : run_of b all_fourteen (of_count 2 ∷ []) ≡ refused_at 19 0
  pub four_months : run_of b all_fourteen (even ∷ of_count 4 ∷ []) ≡ refused_at 19 1
  pub thirteen_months : run_of b all_fourteen (even ∷ of_count 13 ∷ []) ≡ refused_at 19 1
  -- 19 is QUOTE's 17 too: the desk of region 0 may not use a tariff of all regions. An empty list is accepted of whatever desk
  pub outside : run_of b 1 (even ∷ []) ≡ refused_at 19 0
  pub no_account_lem : run_of b 0 [] ≡ accepted 0
  -- 19 is QUOTE's 9 in a fresh book
  pub no_tariff : run_of fresh all_fourteen (even ∷ []) ≡ refused_at 19 0
