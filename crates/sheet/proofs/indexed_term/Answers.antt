-- `sheet::indexed_term` meets its contract. The fields' ranges bound the product and the divisor.
-- Assumes nothing.
use native.Mathlib.Nat.{mul-le-mul}
use native.Mathlib.Omega.{arith}
use Prim.Native.Nat.{◌≤◌}
use Rattle.sheet.specs.Sheet.{indexed}
use Rattle.sheet.proofs.Bounds.{base_most, current_most, initial_some, initial_most}
use Rattle.sheet.proofs.indexed_term.Goals as goal

-- baseline and current, as they were read, and their product
pub rounded-requires : goal.rounded-requires
rounded-requires c =
    let s = c.args.part.now in
    let a : c.from.result ≤ 100000000 = rw c.from.ensures (base_most s c.requires.0 _ (omega arith) c.requires.1) in
    let b : c.from-2.result ≤ 1000000000 = rw c.from-2.ensures (current_most s c.requires.0 _ (omega arith) c.requires.2 c.requires.3) in (
      omega (arith, mul-le-mul {n₂ = 100000000} {m₂ = 1000000000} a b),
      rw c.from-3.ensures (initial_some s c.requires.0 _ (omega arith) c.requires.4 c.requires.5),
      rw c.from-3.ensures (initial_most s c.requires.0 _ (omega arith) c.requires.4 c.requires.5),
    )

pub returns : goal.returns
unfolding indexed
returns c = cc
