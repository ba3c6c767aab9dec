-- The loop of `accounts::first_failing`: no account before the place fails, so the first from there on is the first of all.
-- Assumes nothing.
use Rattle.std.proofs.Common.{◌≡◌, ◌≤◌, ◌-◌, length, drop}
use Rattle.rebates.specs.Rebates.{first_from, first_place}
use Rattle.rebates.specs.Reading.{fails_by}
use Rattle.accounts.proofs.first_failing.Given as goal

abbrev pub invariant-loop-i : goal.invariant-loop-i
invariant-loop-i l = record {
  in_range : l.i ≤ length l.accounts;
  none_before : first_from (fails_by l.number l.b l.desk) l.i (drop l.i l.accounts) ≡ first_place (fails_by l.number l.b l.desk) l.accounts;
}

abbrev pub decreases-loop-i : goal.decreases-loop-i
decreases-loop-i l = length l.accounts - l.i
