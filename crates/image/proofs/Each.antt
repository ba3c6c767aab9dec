-- A test made at each number from 0 up, as the library's `all` of a range tells it.
-- Assumes nothing.
use mathlib.Core.Path.{◌≡◌, refl, sym, ◌∙◌, ap, ap₂}
use mathlib.Core.Bool.{Bool, true, false, ◌&&◌}
use Prim.Native.Nat.{ℕ, zero, suc, ◌+◌}
use native.Mathlib.Omega.{arith}
use Rattle.std.specs.List.{list_all, range_with_len}
use Rattle.laws.specs.Notions.{every}
use Rattle.laws.proofs.Every.{every_alike}

and_true : (a : Bool) → a ≡ (a && true)
and_true true = refl
and_true false = refl

and_assoc : (a b c : Bool) → ((a && b) && c) ≡ (a && (b && c))
and_assoc true b c = refl
and_assoc false b c = refl

-- the first number apart
pub every_first : (f : ℕ → Bool) (n : ℕ) → every (suc n) f ≡ (f 0 && every n (λ i. f (suc i)))
unfolding every
every_first f zero = and_true (f 0)
every_first f (suc n) = ap (λ b. b && f (suc n)) (every_first f n) ∙ and_assoc (f 0) (every n (λ i. f (suc i))) (f (suc n))

listed_from : (f : ℕ → Bool) (a n : ℕ) → list_all f (range_with_len a n) ≡ every n (λ i. f (a + i))
unfolding every
listed_from f a zero = refl
listed_from f a (suc n) =
    ap₂ (λ b c. b && c) (ap f (let q : a ≡ a + 0 = omega arith in q)) (listed_from f (a + 1) n ∙ every_alike _ _ n (λ i h. ap f (let q : a + 1 + i ≡ a + suc i = omega arith in q)))
    ∙ sym (every_first (λ i. f (a + i)) n)

pub every_listed : (f : ℕ → Bool) (n : ℕ) → list_all f (range_with_len 0 n) ≡ every n f
every_listed f n = listed_from f 0 n ∙ every_alike _ _ n (λ i h. ap f (let q : 0 + i ≡ i = omega arith in q))
