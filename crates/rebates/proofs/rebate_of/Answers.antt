-- `rebates::rebate_of` meets its contract: the division, rounded up, is the least number of mills that is enough.
-- Assumes nothing.
use mathlib.Core.Path.{sym}
use native.Mathlib.Omega.{arith}
use Rattle.queries.specs.Queries.{Quotation}
use Rattle.rebates.specs.Repaid.{rebate_most}
use Rattle.rebates.proofs.Rounded.{rebate_none, rebate_divided, rebate_at_most}
use Rattle.rebates.proofs.rebate_of.Goals as goal

pub returns-then-charge-maximum : goal.returns-then-charge-maximum
returns-then-charge-maximum c = (sym (rebate_none _ _ c.requires.0 c.if-charge-maximum.true), omega arith)

pub returns : goal.returns
returns c =
    let a = c.args in
    let q : Quotation = record { charge = a.charge; maximum = a.maximum } in
    (sym (rebate_divided a.scale q c.requires.0), omega (arith, rebate_divided a.scale q c.requires.0, rebate_at_most a.scale q c.requires.0 rebate_most c.requires.2))
