-- `cap::maximum_of` meets its contract.
-- Assumes nothing.
use Rattle.cap.proofs.Sizes.{nil_part, used_part}
use mathlib.Core.Path.{ap}
use Prim.Native.Nat.{ℕ, ◌+◌, ◌*◌, ◌≤◌}
use native.Mathlib.Omega.{arith}
use Rattle.cap.specs.Cap.{maximum}
use Rattle.cap.specs.Corners.{benchmark_most, total_most}
use Rattle.cap.proofs.maximum_of.Goals as goal

pub returns : goal.returns
unfolding maximum
returns c =
    let above : c.allowed_for-above.result.0 ≤ 12 * benchmark_most * total_most = rw c.allowed_for-above.ensures (used_part c.args.e c.requires.0 c.args.total.0 c.requires.1) in
    (ap (λ (y : ℕ). c.args.e.lower * c.args.e.months * c.args.e.m + y) c.allowed_for-above.ensures, omega (arith, nil_part c.args.e c.requires.0, above))
