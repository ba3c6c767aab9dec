-- `fours::zero_from` meets its contract: `all` looks at the places from k on, and those before k are not asked.
-- Assumes nothing.
use mathlib.Core.Path.{◌≡◌}
use mathlib.Core.Bool.{Bool, ◌||◌}
use mathlib.Core.List.{List}
use Prim.Native.Nat.{ℕ, ◌≤◌, ◌-◌, ◌+◌}
use lib.Dec.{ltb, eqb}
use lib.ListN.{get_or, take, drop, length}
use Rattle.std.proofs.Common.{rules, arith}
use Rattle.std.specs.Bool.{Decides}
use Rattle.std.specs.List.{All}
use Rattle.std.proofs.iter.runs.Made.{chains}
use Rattle.std.proofs.lemmas.Bool.Decides.{nat_tests, Decides-like}
use Rattle.std.proofs.lemmas.Grind.{common_steps}
use Rattle.laws.proofs.Chains.{is_every}
use Rattle.fours.specs.Fours.{zero_from}
use Rattle.fours.proofs.zero_from.Goals as goal

unused : (k i x : ℕ) → Decides (ltb i k || eqb x 0) (k ≤ i → x ≡ 0)
unused k i x = grind (arith, nat_tests)

is_zero_from : (a : List ℕ) (k : ℕ) (r : Bool) → length a ≡ 4 → Decides r (All (λ x. x ≡ 0) (take (4 - k) (drop k a))) → r ≡ zero_from a k
unfolding zero_from
is_zero_from a k r l d =
    is_every (λ i. ltb i k || eqb (get_or a i 0) 0) (λ i. k ≤ i → get_or a i 0 ≡ 0) 4 r
    (λ i h. unused k i (get_or a i 0))
    (Decides-like r
    (λ g i h m. grind (arith, common_steps, g (i - k) 0))
    (λ g i x h. grind (arith, common_steps, g (k + i)))
    d)

pub returns : goal.returns
returns c = is_zero_from _ _ _ (omega arith) (search (rules, chains))
