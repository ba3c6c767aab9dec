-- The least number at which a test holds: what is found by trying 0, 1 and so on is that number, and there is no other.
-- Assumes nothing.
use mathlib.Core.Path.{◌≡◌, refl, sym, subst}
use mathlib.Core.Bool.{Bool, true, false, cond}
use mathlib.Core.Logic.{◌⊎◌, inl, inr}
use Prim.Native.Nat.{ℕ, zero, suc, ◌+◌, ◌<◌, ◌≤◌}
use native.Mathlib.Decide.{dec_lt}
use native.Mathlib.Nat.{add-zero, zero-add, eq-or-lt_of_le}
use native.Mathlib.Omega.{arith}
use Rattle.laws.specs.Least.{Least, least_from, least}
use Rattle.laws.proofs.Never.{never}

module _ (holds : ℕ → Bool) where
  -- where the test holds at i + n it is found, and holds at nothing from i up to there
  abbrev Found : ℕ → ℕ → Type 0
  Found i r = (i ≤ r) × (holds r ≡ true) × ((x : ℕ) → i ≤ x → x < r → holds x ≡ false)

  from_is : (i n : ℕ) → holds (i + n) ≡ true → Found i (least_from i n holds)
  unfolding least_from
  from_is i zero h = (omega arith, subst (λ k. holds k ≡ true) (add-zero i) h, λ x l m. absurd (omega arith))
  from_is i (suc n) h = go (from_is (suc i) n (subst (λ k. holds k ≡ true) (omega arith) h)) (holds i) refl
    where
      at_or_past : (rest : Found (suc i) (least_from (suc i) n holds)) → holds i ≡ false → (x : ℕ) → i ≤ x → x < least_from (suc i) n holds
          → (i ≡ x) ⊎ (i < x) → holds x ≡ false
      at_or_past rest e x l m (inl same) = subst (λ k. holds k ≡ false) same e
      at_or_past rest e x l m (inr past) = rest.2 x past m

      go : Found (suc i) (least_from (suc i) n holds) → (t : Bool) → holds i ≡ t → Found i (cond t i (least_from (suc i) n holds))
      go rest true e = (omega arith, e, λ x l m. absurd (omega arith))
      go rest false e =
          (omega (arith, rest.0), rest.1, λ x l m. at_or_past rest e x l m (eq-or-lt_of_le l))

  -- below a number at which the test holds, the least is found
  pub least_is : (n : ℕ) → holds n ≡ true → Least holds (least n holds)
  unfolding least
  least_is n h =
      let found = from_is 0 n (subst (λ k. holds k ≡ true) (sym (zero-add n)) h) in
      record { there = found.1; below = λ x l. found.2 x (omega arith) l }

  -- there is one least number
  pub least_one : (r s : ℕ) → Least holds r → Least holds s → r ≡ s
  least_one r s p q = go (dec_lt r s) (dec_lt s r)
    where
      clash : {A : Type 0} (x : ℕ) → holds x ≡ true → holds x ≡ false → A
      clash x y n = never (cc)

      go : Dec (r < s) → Dec (s < r) → r ≡ s
      go (yes l) m = clash r p.there (q.below r l)
      go (no l) (yes m) = clash s q.there (p.below s m)
      go (no l) (no m) = omega arith
