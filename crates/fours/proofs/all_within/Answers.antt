-- `fours::all_within` meets its contract: `all` looks at the first k numbers, and the range says of each what the test does.
-- Assumes nothing.
use mathlib.Core.Path.{◌≡◌}
use mathlib.Core.Bool.{Bool, ◌&&◌}
use mathlib.Core.List.{List}
use Prim.Native.Nat.{ℕ, ◌≤◌}
use lib.Dec.{leb}
use lib.ListN.{get_or, take, length}
use Rattle.std.proofs.Common.{rules, arith}
use Rattle.std.specs.Bool.{Decides}
use Rattle.std.specs.List.{All}
use Rattle.std.proofs.lemmas.Bool.Decides.{nat_tests, Decides-like}
use Rattle.std.proofs.lemmas.Grind.{common_steps}
use Rattle.std.proofs.iter.runs.Made.{chains}
use Rattle.laws.proofs.Chains.{is_every}
use Rattle.fours.specs.Fours.{within}
use Rattle.fours.proofs.all_within.Goals as goal

between : (low high x : ℕ) → Decides (leb low x && leb x high) ((low ≤ x) × (x ≤ high))
between low high x = grind (arith, nat_tests)

is_within :
    (a : List ℕ) (k low high : ℕ) (r : Bool) →
    k ≤ length a → Decides r (All (λ x. (low ≤ x) × (x ≤ high)) (take k a)) → r ≡ within a k low high
unfolding within
is_within a k low high r l d =
    is_every (λ i. leb low (get_or a i 0) && leb (get_or a i 0) high) (λ i. (low ≤ get_or a i 0) × (get_or a i 0 ≤ high)) k r
    (λ i h. between low high (get_or a i 0))
    (Decides-like r (λ g i h. grind (arith, common_steps, g i 0)) (λ g i x h. grind (arith, common_steps, g i)) d)

pub returns : goal.returns
returns c = is_within _ _ _ _ _ (omega arith) (search (rules, chains))
