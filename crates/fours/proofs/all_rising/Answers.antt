-- `fours::all_rising` meets its contract: `all` looks at each two neighbours of the first k numbers.
-- Assumes nothing.
use mathlib.Core.Path.{◌≡◌}
use mathlib.Core.Bool.{Bool}
use mathlib.Core.List.{List}
use Prim.Native.Nat.{ℕ, ◌<◌, ◌+◌, ◌-◌, ◌≤◌}
use lib.Dec.{ltb}
use lib.ListN.{get_or, take, length}
use Rattle.std.proofs.Common.{rules, arith}
use Rattle.std.specs.Bool.{Decides}
use Rattle.std.specs.List.{AllAdjacentBelow}
use Rattle.std.proofs.iter.runs.Made.{chains}
use Rattle.std.proofs.lemmas.Bool.Decides.{Decides-ltb, Decides-like}
use Rattle.std.proofs.lemmas.Grind.{common_steps}
use Rattle.laws.proofs.Chains.{is_every}
use Rattle.fours.specs.Fours.{rising}
use Rattle.fours.proofs.all_rising.Goals as goal

is_rising :
    (a : List ℕ) (k : ℕ) (r : Bool) →
    k ≤ length a → Decides r (AllAdjacentBelow (λ x y. x < y) (take k a) (length (take k a))) → r ≡ rising a k
unfolding rising
is_rising a k r l d =
    is_every (λ i. ltb (get_or a i 0) (get_or a (i + 1) 0)) (λ i. get_or a i 0 < get_or a (i + 1) 0) (k - 1) r
    (λ i h. Decides-ltb (get_or a i 0) (get_or a (i + 1) 0))
    (Decides-like r (λ g i h. grind (arith, common_steps, g i 0)) (λ g i x h. grind (arith, common_steps, g i)) d)

pub returns : goal.returns
returns c = is_rising _ _ _ (omega arith) (search (rules, chains))
