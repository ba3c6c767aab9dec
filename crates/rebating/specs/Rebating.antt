-- The line `rebate`: the accounts that its numbers are, and the text of its answer.
-- Assumes nothing.
use Rattle.std.specs.Prelude.{List, [], ◌∷◌, map, ℕ, zero, suc, ◌/◌, length, get_or, take, drop}
use Rattle.std.proofs.Math.Option.{none, some}
use Rattle.book.specs.declared.Book.{Book}
use Rattle.charge.specs.Most.{months_most}
use Rattle.rebates.specs.declared.Account.{Account}
use Rattle.rebates.specs.Rebates.{RunAnswer, accepted, refused_at, run_of, after_run}
use Rattle.naming.specs.Naming.{account_numbers}
use Rattle.answers.specs.Answers.{ok_or_refused}

-- CODE REGION METHOD COUNT M1 .. M12: the account that the first numbers are, with no rebate yet
abbrev pub account_of : List ℕ → Account
account_of ns =
    record {
      code = get_or ns 0 0;
      region = get_or ns 1 0;
      method = get_or ns 2 0;
      count = get_or ns 3 0;
      months = take months_most (drop 4 ns);
      rebate = 0;
    }

-- the first n accounts, and all of them
unfoldable pub first_accounts : ℕ → List ℕ → List Account
first_accounts zero ns = []
first_accounts (suc n) ns = account_of ns ∷ first_accounts n (drop account_numbers ns)

unfoldable pub accounts_of : List ℕ → List Account
accounts_of ns = first_accounts (length ns / account_numbers) ns

-- ok TOTAL R1 .. Rn | refused NUMBER PLACE
abbrev pub ran_text : RunAnswer → List Account → List ℕ
ran_text (accepted total) l = ok_or_refused none (total ∷ map (λ a. a.rebate) l)
ran_text (refused_at number place) l = ok_or_refused (some number) (place ∷ [])

-- the answer to a desk's line with these numbers
unfoldable pub rebate_text : Book → (desk : ℕ) → List ℕ → List ℕ
rebate_text b desk ns = ran_text (run_of b desk (accounts_of ns)) (after_run b desk (accounts_of ns))
