-- `calendar::days` meets its contract: both entries are in the table, and their difference is the period's days.
-- Assumes nothing.
use Prim.Native.Nat.{◌+◌}
use native.Mathlib.Omega.{arith}
use Rattle.calendar.specs.Calendar.{first_month}
use Rattle.calendar.proofs.Table.{later}
use Rattle.calendar.proofs.Periods.{within}
use Rattle.calendar.proofs.Lengths.{entries_rise, entries_apart, entries_at_most}
use Rattle.calendar.proofs.days.Goals as goal

pub overflow_sub-result : goal.overflow_sub-result
unfolding later
overflow_sub-result c =
    let p = c.args.p in
    let h = within p c.requires in
    entries_rise (first_month p) (first_month p + p.months) (omega arith) (omega arith)

pub returns : goal.returns
unfolding later
returns c = (entries_apart c.args.p c.requires, entries_at_most c.args.p c.requires)
