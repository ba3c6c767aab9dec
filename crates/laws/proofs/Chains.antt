-- What a chain of an iterator's methods gives, in the words of the definitions.
-- Assumes nothing.
use mathlib.Core.Path.{◌≡◌, refl, ◌∙◌, ap}
use mathlib.Core.Bool.{Bool}
use mathlib.Core.List.{List, [], ◌∷◌}
use Prim.Native.Nat.{ℕ, zero, suc, ◌+◌, ◌<◌, ◌≤◌}
use native.Mathlib.Decide.{dec_le}
use native.Mathlib.Omega.{arith}
use lib.ListN.{get_or}
use denote.Param.Members.{Mut, Called}
use Rattle.std.specs.Bool.{Decides}
use Rattle.std.specs.List.{sum_by, sum as list_sum}
use Rattle.std.specs.Array.{IsFromFnResult, IsFromFnResultFrom}
use Rattle.std.proofs.lemmas.Bool.Decides.{same_from_decides}
use Rattle.std.proofs.lemmas.List.Sums.{sum_by-cons}
use Rattle.laws.specs.Notions.{every, sum, total, tabulate}
use Rattle.laws.proofs.Every.{every_at, every_all}
use Rattle.laws.proofs.Lists.{is_table}

-- `all`: r tells whether a fact holds at each number below n, and a test decides the fact there
pub is_every :
    (f : ℕ → Bool) (P : ℕ → Type 0) (n : ℕ) (r : Bool) →
    ((i : ℕ) → i < n → Decides (f i) (P i)) → Decides r ((i : ℕ) → i < n → P i) → r ≡ every n f
is_every f P n r d h =
    same_from_decides r (every n f) h
    (λ e i k. (d i k).0 (every_at f n e i k), λ k. every_all f n (λ i l. (d i l).1 (k i l)))

-- `sum`, which the library has as a fold
pub is_sum : (xs : List ℕ) → list_sum xs ≡ sum xs
unfolding sum
is_sum [] = refl
is_sum (x ∷ xs) = sum_by-cons (λ y. y) x xs ∙ ap (λ n. x + n) (is_sum xs)

-- the same after `map`
pub is_total : (f : ℕ → ℕ) (xs : List ℕ) → sum_by f xs ≡ total f xs
unfolding total
is_total f [] = refl
is_total f (x ∷ xs) = sum_by-cons f x xs ∙ ap (λ n. f x + n) (is_total f xs)

-- `array::from_fn`, of a closure that changes nothing
module _ {F : Type 0} (g : Mut F (ℕ × Unit {0}) ℕ) (f : F) (ys : List ℕ) (h : ℕ → ℕ) where
  made_from :
      (n i : ℕ) (p : F) → p ≡ f →
      ((k y : ℕ) (q : F) → k < i + n → Called g f (k, tt) y q → (q ≡ f) × (y ≡ h k)) →
      IsFromFnResultFrom g p ys i n → (k : ℕ) → i ≤ k → k < i + n → get_or ys k 0 ≡ h k
  made_from zero i p e c m k a b = absurd (omega arith)
  made_from (suc n) i p e c (q, y, at, called, more) k a b =
      let now : (q ≡ f) × (y ≡ h i) = c i y q (omega arith) (rw e at called) in
      elim (dec_le k i) [
        | yes l ↦ let j : k ≡ i = omega arith in rw j (at.1 0 ∙ now.1)
        | no l ↦ made_from n (i + 1) q now.0 (λ k y r l. c k y r (omega arith)) more k (omega arith) (omega arith)
      ]

  pub is_from_fn :
      (n : ℕ) → ((k y : ℕ) (q : F) → k < n → Called g f (k, tt) y q → (q ≡ f) × (y ≡ h k)) → IsFromFnResult g f ys n → ys ≡ tabulate n h
  is_from_fn n c m =
      is_table n h ys m.long (λ k l. made_from n 0 f refl (λ k y q l. c k y q (omega arith)) m.each k (omega arith) (omega arith))
