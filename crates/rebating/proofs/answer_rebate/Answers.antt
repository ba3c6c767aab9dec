-- `rebating::answer_rebate` meets its contract: the first accounts of the array are those of the line, before the run and after it.
-- Assumes nothing.
use mathlib.Core.Path.{◌≡◌}
use native.Mathlib.Omega.{arith}
use Prim.Native.Nat.{◌/◌}
use lib.ListN.{length, take, drop, length-drop}
use borrow.Author.Rules.{rules}
use Rattle.rebates.specs.Rebates.{after_run}
use Rattle.naming.specs.Naming.{account_numbers}
use Rattle.answers.specs.Answers.{accounts_most}
use Rattle.rebating.specs.Rebating.{accounts_of, rebate_text}
use Rattle.rebating.proofs.Filling.{front_is}
use Rattle.rebating.proofs.answer_rebate.Goals as goal

pub returns : goal.returns
unfolding rebate_text accounts_of
returns c =
    let accounts = c.first_accounts.result in
    let n = length c.args.numbers.now / account_numbers in
    let long : length accounts ≡ accounts_most = search rules in
    let after = c.put_ran.ensures.accounts_len in
    let first = front_is (after_run c.args.b c.args.desk (take n accounts)) (drop n accounts) n c.run_first-ran.ensures.1 (omega (arith, length-drop n accounts, c.requires.1)) in
    rw (← c.first_accounts.ensures, ← c.run_first-ran.ensures.0, ← first) c.put_ran.ensures.puts
