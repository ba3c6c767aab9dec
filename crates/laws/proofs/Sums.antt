-- Laws of sums.
-- Assumes nothing.
use mathlib.Core.Path.{◌≡◌}
use mathlib.Core.List.{List, [], ◌∷◌}
use Prim.Native.Nat.{ℕ, zero, suc, ◌*◌, ◌≤◌}
use native.Mathlib.Nat.{zero-mul}
use native.Mathlib.Omega.{arith}
use lib.ListN.{length, get_or, replicate}
use Rattle.laws.specs.Notions.{sum, total}

-- the same number t times over
pub total_same : (f : ℕ → ℕ) (t w : ℕ) → total f (replicate t w) ≡ t * f w
unfolding total
total_same f zero w = simp zero-mul
total_same f (suc t) w = omega (arith, total_same f t w)

-- a factor comes out of a sum
pub total_scaled : (k : ℕ) (f : ℕ → ℕ) (xs : List ℕ) → total (λ x. k * f x) xs ≡ k * total f xs
unfolding total
total_scaled k f [] = omega arith
total_scaled k f (x ∷ xs) = omega (arith, total_scaled k f xs)

pub total_line : (k : ℕ) (xs : List ℕ) → total (λ x. k * x) xs ≡ k * sum xs
unfolding total sum
total_line k [] = omega arith
total_line k (x ∷ xs) = omega (arith, total_line k xs)

-- a sum is at most its length times the greatest of its numbers
pub sum_most : (m : ℕ) (xs : List ℕ) → ((i : ℕ) → get_or xs i 0 ≤ m) → sum xs ≤ length xs * m
unfolding sum
sum_most m [] h = omega arith
sum_most m (x ∷ xs) h = omega (arith, h 0, sum_most m xs (λ i. h (suc i)))
