-- The loop of `accounts::write_rebates`: the first i accounts have their rebates, the others are as they were, and the total is the sum of those.
-- Assumes nothing.
use Rattle.std.proofs.Common.{◌≡◌, ◌*◌, ◌≤◌, ◌-◌, length}
use Rattle.rebates.specs.Repaid.{rebate_most}
use Rattle.rebates.proofs.Written.{repaid_to, sum_to}
use Rattle.accounts.proofs.write_rebates.Given as goal

abbrev pub invariant-loop-i : goal.invariant-loop-i
invariant-loop-i l = record {
  in_range : l.i ≤ length l.fn.accounts;
  stored : l.accounts ≡ repaid_to l.b l.desk l.i l.fn.accounts;
  summed : l.total ≡ sum_to l.b l.desk l.i l.fn.accounts;
  small : l.total ≤ l.i * rebate_most;
}

abbrev pub decreases-loop-i : goal.decreases-loop-i
decreases-loop-i l = length l.fn.accounts - l.i
