-- `cap::total_of` meets its contract: each month is at most 10,000 kWh, which bounds the sum.
-- Assumes nothing.
use mathlib.Core.Path.{◌≡◌, ◌∙◌}
use Rattle.std.proofs.Common.{rules, arith}
use Rattle.std.specs.List.{sum as list_sum}
use Rattle.std.proofs.iter.runs.Made.{chains}
use Rattle.laws.specs.Notions.{sum}
use Rattle.laws.proofs.Chains.{is_sum}
use Rattle.laws.proofs.Sums.{sum_most}
use Rattle.charge.specs.Charge.{month_most}
use Rattle.cap.proofs.total_of.Goals as goal

pub returns : goal.returns
returns c =
    let listed : c.sum.result ≡ list_sum c.args.months.now = search (rules, chains) in
    let e : c.sum.result ≡ sum c.args.months.now = listed ∙ is_sum _ in
    (e, omega (arith, e, sum_most month_most c.args.months.now c.requires.0.1, c.requires.1))
