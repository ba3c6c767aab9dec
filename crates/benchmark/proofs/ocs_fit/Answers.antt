-- `benchmark::ocs_fit` meets its contract.
-- Assumes nothing.
use mathlib.Core.Path.{◌≡◌}
use mathlib.Core.Bool.{true}
use Prim.Native.Nat.{ℕ, ◌<◌}
use lib.IntN.{pos}
use lib.Signed.{le_z}
use Rattle.std.proofs.Common.{rules}
use Rattle.std.specs.Bool.{Decides}
use Rattle.std.proofs.iter.runs.Sources.{ranges}
use Rattle.laws.proofs.Chains.{is_every}
use Rattle.benchmark.specs.Benchmark.{oc, ocs_fit}
use Rattle.benchmark.proofs.ocs_fit.Goals as goal

pub returns : goal.returns
unfolding ocs_fit
returns c =
    let d : Decides c.all.result ((f : ℕ) → f < 4 → le_z (pos 0) (oc c.args.part.now f) ≡ true) = search (rules, ranges) in
    is_every _ _ _ _ (λ f h. (λ e. e, λ e. e)) d
