-- The answer of a loop or of a chain of tests is that of the whole test.
-- Assumes nothing.
use mathlib.Core.Path.{◌≡◌, sym, ◌∙◌}
use mathlib.Core.Bool.{Bool, true, false, ◌&&◌}
use Prim.Native.Nat.{ℕ, ◌<◌, ◌≤◌}
use native.Mathlib.Omega.{arith}
use Rattle.laws.specs.Notions.{every}
use Rattle.laws.proofs.Every.{every_not}

-- a loop that tests each number below n stops at one where the test fails
pub stops : (f : ℕ → Bool) (n i : ℕ) → i < n → f i ≡ false → false ≡ every n f
stops f n i h k = sym (every_not f n i h k)

-- or ends behind the last one
pub ends : (f : ℕ → Bool) (n i : ℕ) → i ≤ n → n ≤ i → every i f ≡ true → true ≡ every n f
ends f n i h k e = let q : i ≡ n = omega arith in rw q at (sym e)

-- a chain `p && q` whose answer up to p is t goes on to q
pub goes : (p q t r : Bool) → t ≡ p → t ≡ true → r ≡ q → r ≡ (p && q)
goes p q t r a b e = rw (sym a ∙ b) e

-- or stays with t
pub stays : (p q t : Bool) → t ≡ p → t ≡ false → t ≡ (p && q)
stays p q t a b = rw (sym a ∙ b) b
