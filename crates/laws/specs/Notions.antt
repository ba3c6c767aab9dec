-- What the definitions of the other crates are written in.
-- Assumes nothing.
use Rattle.std.specs.Prelude.{Bool, true, cond, ◌&&◌, List, [], ◌∷◌, ℕ, zero, suc, ◌+◌, ◌/◌, ◌%◌, ◌^◌, eqb}

-- f holds at each of 0 to n - 1
unfoldable pub every : ℕ → (ℕ → Bool) → Bool
every zero f = true
every (suc n) f = every n f && f n

-- the sum of the numbers of a list
unfoldable pub sum : List ℕ → ℕ
sum [] = 0
sum (x ∷ xs) = x + sum xs

-- the sum of f over a list
unfoldable pub total : (ℕ → ℕ) → List ℕ → ℕ
total f [] = 0
total f (x ∷ xs) = f x + total f xs

-- f i, f (i + 1) and so on, n numbers in all
unfoldable pub tabulate_from : ℕ → ℕ → (ℕ → ℕ) → List ℕ
tabulate_from i zero f = []
tabulate_from i (suc n) f = f i ∷ tabulate_from (suc i) n f

-- f 0 to f (n - 1)
unfoldable pub tabulate : ℕ → (ℕ → ℕ) → List ℕ
tabulate n f = tabulate_from 0 n f

-- how many of 0 to n - 1 a test holds at
unfoldable pub count : ℕ → (ℕ → Bool) → ℕ
count n f = sum (tabulate n (λ i. cond (f i) 1 0))

-- bit i of a set
unfoldable pub bit : ℕ → ℕ → Bool
bit set i = eqb (set / 2 ^ i % 2) 1

-- the set of those of 0 to n - 1 at which a test holds, bit i for i (proofs/Sets.antt, `bit_of_set`, `bit_past_set`)
unfoldable pub set_of : ℕ → (ℕ → Bool) → ℕ
set_of zero f = 0
set_of (suc n) f = set_of n f + cond (f n) (2 ^ n) 0
