-- `benchmark::commons_of` meets its contract.
-- Assumes nothing.
use mathlib.Core.Path.{◌≡◌, ◌∙◌, ap}
use mathlib.Core.List.{List}
use Prim.Native.Nat.{ℕ, ◌+◌, ◌*◌, ◌/◌, ◌%◌, ◌≤◌, ◌<◌}
use lib.IntN.{pos, nat_abs}
use lib.ListN.{get_or}
use Rattle.std.proofs.Common.{arith}
use Rattle.std.proofs.iter.Serving.{serving}
use Rattle.laws.specs.Notions.{tabulate}
use Rattle.laws.proofs.Lists.{get_d_tabulate}
use Rattle.laws.proofs.Signed.{up_to_whole, up_to_most}
use Rattle.laws.proofs.Chains.{is_from_fn}
use Rattle.benchmark.specs.Common.{costs_at, sum_from, common, common_at, commons}
use Rattle.benchmark.specs.Signs.{Costed}
use Rattle.benchmark.proofs.Sizes.{costs_up_to}
use Rattle.benchmark.proofs.commons_of.Goals as goal

-- the costs that are read are those of their place, and so are the sums that are made of them
module _ (s costs : List ℕ) (h : Costed s) (e : costs ≡ tabulate 4 (λ k. nat_abs (costs_at s k))) where
  module _ (f : ℕ) (l : f < 4) where
    costs-are : get_or costs f 0 ≡ nat_abs (costs_at s f)
    costs-are = rw e (get_d_tabulate 4 (λ k. nat_abs (costs_at s k)) f l)

    costs-read : pos (get_or costs f 0) ≡ costs_at s f
    costs-read = rw costs-are (up_to_whole _ _ (costs_up_to _ h f l))

    costs-small : get_or costs f 0 ≤ 500000000
    costs-small = rw costs-are (up_to_most _ _ (costs_up_to _ h f l))

  sum-told : (j y : ℕ) → j < 8 → pos y ≡ sum_from s (j / 4) (j / 2 % 2) (pos (get_or costs (2 * (j / 4) + j % 2) 0)) → y ≡ common_at s j
  unfolding common_at common
  sum-told j y l told = ap nat_abs (told ∙ ap (sum_from s (j / 4) (j / 2 % 2)) (costs-read _ (omega arith)))

pub from_fn-requires : goal.from_fn-requires
from_fn-requires c =
    let small : (f : ℕ) → f < 4 → get_or c.costs_of-costs.result f 0 ≤ 500000000 = costs-small _ _ c.requires c.costs_of-costs.ensures in
    grind serving

pub returns : goal.returns
unfolding commons
returns c =
    is_from_fn _ _ _ (common_at c.args.part.now) 8
    (λ k y q l w. (grind arith, sum-told _ _ c.requires c.costs_of-costs.ensures k y l (grind arith)))
    c.from_fn.ensures.items
