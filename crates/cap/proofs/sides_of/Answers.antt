-- `cap::sides_of` meets its contract.
-- Assumes nothing.
use mathlib.Core.Path.{ap, ◌∙◌}
use Prim.Native.Nat.{ℕ, ◌*◌}
use Rattle.shares.specs.Shares.{whole_share}
use Rattle.cap.specs.Cap.{charged, capped, maximum}
use Rattle.cap.proofs.sides_of.Goals as goal

pub returns : goal.returns
unfolding charged capped
returns c =
    let e = c.args.e in (
      ap (λ (y : ℕ). 12 * e.m * y) c.charge_of-charge.ensures.0,
      ap (λ (y : ℕ). whole_share * y) (c.maximum_of-maximum.ensures.0 ∙ ap (maximum e) c.total_of.ensures.0),
    )
