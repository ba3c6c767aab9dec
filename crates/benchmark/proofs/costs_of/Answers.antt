-- `benchmark::costs_of` meets its contract.
-- Assumes nothing.
use lib.IntN.{nat_abs}
use Rattle.std.proofs.Common.{arith}
use Rattle.laws.proofs.Chains.{is_from_fn}
use Rattle.benchmark.specs.Common.{costs_at}
use Rattle.benchmark.proofs.costs_of.Goals as goal

pub returns : goal.returns
returns c =
    is_from_fn _ _ _ (λ f. nat_abs (costs_at c.args.part.now f)) 4 (λ k y q l w. grind arith) c.from_fn.ensures.items
