-- `rebating::first_accounts` meets its contract. The invariant: the accounts passed are stored.
-- Assumes nothing.
use Rattle.std.proofs.Common.{◌≡◌, length, take}
use Rattle.answers.specs.Answers.{accounts_most}
use Rattle.rebating.specs.Rebating.{first_accounts}
use Rattle.rebating.proofs.first_accounts.Given as goal

abbrev pub invariant-loop-i : goal.invariant-loop-i
invariant-loop-i l = (length l.accounts ≡ accounts_most) × (take l.i l.accounts ≡ first_accounts l.i l.numbers)
