-- The smallest number at which a difference u x - v x is greatest, with each side of a comparison moved across, so that
-- only naturals are left; and how it is found by looking at the ends of straight pieces alone.
-- Assumes nothing.
use mathlib.Core.Path.{◌≡◌, refl, ap}
use mathlib.Core.Bool.{Bool, true, false, cond}
use mathlib.Core.List.{List, [], ◌∷◌}
use mathlib.Core.Logic.{◌⊎◌, inl, inr}
use Prim.Native.Nat.{ℕ, zero, suc, ◌+◌, ◌*◌, ◌-◌, ◌<◌, ◌≤◌}
use native.Mathlib.Nat.{mul-le-mul_right, mul-lt-mul_of_pos_right, mul-add, le_refl, suc_inj, zero-mul}
use native.Mathlib.Decide.{dec_le}
use native.Mathlib.Omega.{arith}
use lib.Dec.{ltb}
use lib.IntN.{ℤ, pos, ◌-ℤ◌}
use lib.ListN.{length, get_or}
use borrow.Author.Tests.{ltb-true, ltb-false}
use Rattle.laws.specs.Notions.{total}
use Rattle.laws.specs.Greatest.{Greatest, later, first_greatest}
use Rattle.laws.proofs.Differences.{crossed, difference_less, difference_at_most}

-- the difference, and whether it is greater at x than at b
abbrev pub difference : (ℕ → ℕ) → (ℕ → ℕ) → ℕ → ℤ
difference u v x = pos (u x) -ℤ pos (v x)

abbrev pub beats : (ℕ → ℕ) → (ℕ → ℕ) → ℕ → ℕ → Bool
beats u v x b = ltb (u b + v x) (u x + v b)

abbrev pub better : (ℕ → ℕ) → (ℕ → ℕ) → ℕ → ℕ → ℕ
better u v x b = cond (beats u v x b) x b

-- x looked at twice
pub better_again : (u v : ℕ → ℕ) (x b : ℕ) → better u v x (better u v x b) ≡ better u v x b
better_again u v x b = go (beats u v x b) refl
  where
    either : (t : Bool) → cond t x x ≡ x
    either true = refl
    either false = refl

    go : (t : Bool) → beats u v x b ≡ t → better u v x (cond t x b) ≡ cond t x b
    go true e = either (beats u v x x)
    go false e = ap (λ t. cond t x b) e

-- b is the smallest of 0 to n with the greatest difference, in naturals
pub record Best (u v : ℕ → ℕ) (n b : ℕ) : Type 0 where
  pub within : b ≤ n
  pub most : (x : ℕ) → x ≤ n → u x + v b ≤ u b + v x
  pub least : (x : ℕ) → x < b → u x + v b < u b + v x

pub best_greatest : (u v : ℕ → ℕ) {n b : ℕ} → Best u v n b → Greatest (difference u v) n b
best_greatest u v {n} {b} h =
    record {
      within = h.within;
      most = λ x k. difference_at_most (u x) (v x) (u b) (v b) (h.most x k);
      least = λ x k. difference_less (u x) (v x) (u b) (v b) (h.least x k);
    }

module _ (u v : ℕ → ℕ) where
  -- there is one such number
  pub best_one : {n b d : ℕ} → Best u v n b → Best u v n d → b ≡ d
  best_one {n} {b} {d} p q = go (dec_le b d) (dec_le d b)
    where
      go : Dec (b ≤ d) → Dec (d ≤ b) → b ≡ d
      go (yes h) (yes k) = omega arith
      go (yes h) (no k) = absurd (omega (arith, q.least b (omega arith), p.most d q.within))
      go (no h) k = absurd (omega (arith, p.least d (omega arith), q.most b p.within))

  -- from p to q the difference is nowhere above that at p, or everywhere below that at q
  abbrev pub Falls : ℕ → ℕ → Type 0
  Falls p q = (x : ℕ) → p ≤ x → x ≤ q → u x + v p ≤ u p + v x

  abbrev pub Climbs : ℕ → ℕ → Type 0
  Climbs p q = (x : ℕ) → p ≤ x → x < q → u x + v q < u q + v x

  -- q is taken where it beats b
  taken : {p q b : ℕ} → p < q → Best u v p b → Falls p q ⊎ Climbs p q → u b + v q < u q + v b → Best u v q q
  taken {p} {q} {b} pq h (inl f) w = absurd (omega (arith, f q (omega arith) (omega arith), h.most p (omega arith)))
  taken {p} {q} {b} pq h (inr f) w = record { within = le_refl q; most = λ x k. most x k (dec_le x p) (dec_le q x); least = λ x k. below x k (dec_le x p) }
    where
      below : (x : ℕ) → x < q → Dec (x ≤ p) → u x + v q < u q + v x
      below x k (yes l) = omega (arith, h.most x l)
      below x k (no l) = f x (omega arith) k

      most : (x : ℕ) → x ≤ q → Dec (x ≤ p) → Dec (q ≤ x) → u x + v q ≤ u q + v x
      most x k d (no g) = omega (arith, below x (omega arith) d)
      most x k d (yes g) = let e : x ≡ q = omega arith in rw e (le_refl _)

  -- and else b is kept
  kept : {p q b : ℕ} → p < q → Best u v p b → Falls p q ⊎ Climbs p q → u q + v b ≤ u b + v q → Best u v q b
  kept {p} {q} {b} pq h s w = record { within = omega (arith, h.within); most = λ x k. most x k s (dec_le x p) (dec_le q x); least = h.least }
    where
      most : (x : ℕ) → x ≤ q → Falls p q ⊎ Climbs p q → Dec (x ≤ p) → Dec (q ≤ x) → u x + v b ≤ u b + v x
      most x k z (yes l) g = h.most x l
      most x k (inl f) (no l) g = omega (arith, f x (omega arith) k, h.most p (le_refl p))
      most x k (inr f) (no l) (no g) = omega (arith, f x (omega arith) (omega arith))
      most x k (inr f) (no l) (yes g) = let e : x ≡ q = omega arith in rw e w

  -- so a look at q is enough for all from p to q
  pub grow : {p q b : ℕ} → p < q → Best u v p b → Falls p q ⊎ Climbs p q → Best u v q (better u v q b)
  grow {p} {q} {b} pq h s = go (beats u v q b) refl
    where
      go : (t : Bool) → beats u v q b ≡ t → Best u v q (cond t q b)
      go true e = taken pq h s (ltb-true (u b + v q) (u q + v b) e)
      go false e = kept pq h s (ltb-false (u b + v q) (u q + v b) e)

  pub best_zero : Best u v 0 0
  best_zero = record { within = le_refl 0; most = λ x h. rw (zero_only x h) (le_refl _); least = λ x h. absurd (omega arith) }
    where
      zero_only : (x : ℕ) → x ≤ 0 → x ≡ 0
      zero_only x h = omega arith

  -- from a number to the next, the difference falls or climbs
  unit : (n : ℕ) → Dec (u (suc n) + v n ≤ u n + v (suc n)) → Falls n (suc n) ⊎ Climbs n (suc n)
  unit n (yes d) = inl (λ x h k. two x h k (dec_le x n))
    where
      two : (x : ℕ) → n ≤ x → x ≤ suc n → Dec (x ≤ n) → u x + v n ≤ u n + v x
      two x h k (yes l) = let e : x ≡ n = omega arith in rw e (le_refl _)
      two x h k (no l) = let e : x ≡ suc n = omega arith in rw e d
  unit n (no d) = inr (λ x h k. let e : x ≡ n = omega arith in rw e (omega arith))

  later_better : (x b : ℕ) → better u v x b ≡ later (difference u v) x b
  later_better x b = rw (crossed (u b) (v b) (u x) (v x))

  -- the trying of 0 to n finds it
  pub first_best : (n : ℕ) → Best u v n (first_greatest (difference u v) n)
  unfolding first_greatest
  first_best zero = best_zero
  first_best (suc n) =
      rw (← later_better (suc n) (first_greatest (difference u v) n))
      (grow (omega arith) (first_best n) (unit n (dec_le (u (suc n) + v n) (u n + v (suc n)))))

  -- in words of the signed quantity
  pub first_greatest_lem : (n : ℕ) → Greatest (difference u v) n (first_greatest (difference u v) n)
  first_greatest_lem n = best_greatest u v (first_best n)

  -- no list of t numbers of 0 to n has a greater difference than t times the best
  pub total_best : (n w : ℕ) → Best u v n w → (t : ℕ) (xs : List ℕ) → length xs ≡ t → ((i : ℕ) → get_or xs i 0 ≤ n)
      → total u xs + t * v w ≤ t * u w + total v xs
  unfolding total
  total_best n w h zero [] e a = simp zero-mul (omega arith)
  total_best n w h zero (x ∷ xs) e a = absurd (omega arith)
  total_best n w h (suc t) [] e a = absurd (omega arith)
  total_best n w h (suc t) (x ∷ xs) e a = omega (arith, total_best n w h t xs (suc_inj e) (λ i. a (suc i)), h.most x (a 0))

-- u goes up by a for each unit from p to q
abbrev pub Straight : (ℕ → ℕ) → ℕ → ℕ → ℕ → Type 0
Straight u a p q = (x : ℕ) → p ≤ x → x ≤ q → u x ≡ u p + a * (x - p)

-- a straight line falls or climbs
pub line : (u v : ℕ → ℕ) (a b p q : ℕ) → p ≤ q → Straight u a p q → Straight v b p q → Falls u v p q ⊎ Climbs u v p q
line u v a b p q pq hu hv = go (dec_le a b)
  where
    go : Dec (a ≤ b) → Falls u v p q ⊎ Climbs u v p q
    go (yes ab) = inl (λ x h k. omega (arith, hu x h k, hv x h k, mul-le-mul_right (x - p) ab))
    go (no ab) = inr (λ x h k. climb x h k (omega arith))
      where
        climb : (x : ℕ) → p ≤ x → x < q → q - p ≡ (x - p) + (q - x) → u x + v q < u q + v x
        climb x h k e =
            let ba : b < a = omega arith in
            let room : 0 < q - x = omega arith in
            let uq : u q ≡ u p + (a * (x - p) + a * (q - x)) = rw (← mul-add, ← e) (hu q (omega arith) (le_refl q)) in
            let vq : v q ≡ v p + (b * (x - p) + b * (q - x)) = rw (← mul-add, ← e) (hv q (omega arith) (le_refl q)) in
            omega (arith, hu x h (omega arith), hv x h (omega arith), mul-lt-mul_of_pos_right ba room)
