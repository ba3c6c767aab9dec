-- Laws of bounds on the numbers of a list.
-- Assumes nothing.
use mathlib.Core.List.{List, [], ◌∷◌}
use Prim.Native.Nat.{ℕ, zero, suc, ◌*◌, ◌<◌, ◌≤◌}
use native.Mathlib.Omega.{arith}
use lib.ListN.{length, get_or, take}
use Rattle.laws.specs.Notions.{total}

-- what bounds the first n numbers bounds all of the list of them
pub take_most : (m n : ℕ) (xs : List ℕ) → ((i : ℕ) → i < n → get_or xs i 0 ≤ m) → (i : ℕ) → get_or (take n xs) i 0 ≤ m
take_most m zero xs h zero = omega arith
take_most m zero xs h (suc i) = omega arith
take_most m (suc n) [] h zero = omega arith
take_most m (suc n) [] h (suc i) = omega arith
take_most m (suc n) (x ∷ xs) h zero = h 0 (omega arith)
take_most m (suc n) (x ∷ xs) h (suc i) = take_most m n xs (λ j k. h (suc j) (omega arith)) i

-- what bounds each of four bounds the list of them
pub four_most : (m a b c d : ℕ) → a ≤ m → b ≤ m → c ≤ m → d ≤ m → (i : ℕ) → get_or (a ∷ b ∷ c ∷ d ∷ []) i 0 ≤ m
four_most m a b c d p q r s zero = p
four_most m a b c d p q r s (suc zero) = q
four_most m a b c d p q r s (suc (suc zero)) = r
four_most m a b c d p q r s (suc (suc (suc zero))) = s
four_most m a b c d p q r s (suc (suc (suc (suc i)))) = omega arith

-- a sum of charges is at most its length times the greatest
pub total_most_lem : (f : ℕ → ℕ) (m : ℕ) (xs : List ℕ) → ((i : ℕ) → f (get_or xs i 0) ≤ m) → total f xs ≤ length xs * m
unfolding total
total_most_lem f m [] h = omega arith
total_most_lem f m (x ∷ xs) h = omega (arith, h 0, total_most_lem f m xs (λ i. h (suc i)))
