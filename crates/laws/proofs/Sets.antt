-- Laws of sets written as numbers: which bits the set of a test has.
-- Assumes nothing.
use mathlib.Core.Path.{◌≡◌, refl, ◌∙◌}
use mathlib.Core.Bool.{Bool, true, false, cond}
use Prim.Native.Nat.{ℕ, zero, suc, ◌+◌, ◌-◌, ◌/◌, ◌^◌, ◌<◌, ◌≤◌}
use native.Mathlib.Decide.{dec_le}
use native.Mathlib.Nat.{pow-suc, add-zero, div-eq_of_lt, add-div_right, add-mul-div_left, add-mul-mod_self_right}
use native.Mathlib.Numerals.{add-one}
use native.Mathlib.Omega.{arith}
use lib.Pow.{pow_pos, pow_mono, pow-add}
use Rattle.laws.specs.Notions.{bit, set_of}

-- a set of numbers below n is below 2 ^ n
grown : (x n : ℕ) → x < 2 ^ n → (t : Bool) → x + cond t (2 ^ n) 0 < 2 ^ suc n
grown x n h true = rw pow-suc (omega arith)
grown x n h false = rw pow-suc (omega arith)

pub set_below : (n : ℕ) (f : ℕ → Bool) → set_of n f < 2 ^ n
unfolding set_of
set_below zero f = omega arith
set_below (suc n) f = grown (set_of n f) n (set_below n f) (f n)

-- one number more
pub set_more : (f : ℕ → Bool) (i : ℕ) → set_of i f + cond (f i) (2 ^ i) 0 ≡ set_of (i + 1) f
unfolding set_of
set_more f i = rw add-one refl

-- a number below 2 ^ i has no bit i
no_bit : (x i : ℕ) → x < 2 ^ i → bit x i ≡ false
unfolding bit
no_bit x i h = rw (div-eq_of_lt h)

-- 2 ^ n added is bit n, and no other bit below changes
bit_there : (x n : ℕ) → x < 2 ^ n → bit (x + 2 ^ n) n ≡ true
unfolding bit
bit_there x n h = rw (add-div_right x (pow_pos n), div-eq_of_lt h)

bit_below : (x i d : ℕ) → bit (x + 2 ^ (i + suc d)) i ≡ bit x i
unfolding bit
bit_below x i d =
    rw (pow-add 2 i (suc d), add-mul-div_left x (2 ^ suc d) (pow_pos i), pow-suc 2 d, add-mul-mod_self_right (x / 2 ^ i) (2 ^ d) 2)

-- the set of a test has bit i for each i below n at which the test holds, and no other
bit_last : (x n : ℕ) → x < 2 ^ n → (t : Bool) → bit (x + cond t (2 ^ n) 0) n ≡ t
bit_last x n h true = bit_there x n h
bit_last x n h false = rw add-zero (no_bit x n h)

bit_kept : (x i n : ℕ) → i < n → (t : Bool) → bit (x + cond t (2 ^ n) 0) i ≡ bit x i
bit_kept x i n h true = let e : n ≡ i + suc (n - suc i) = omega arith in rw e (bit_below x i (n - suc i))
bit_kept x i n h false = rw add-zero refl

pub bit_of_set : (n : ℕ) (f : ℕ → Bool) (i : ℕ) → i < n → bit (set_of n f) i ≡ f i
unfolding set_of
bit_of_set zero f i h = absurd (omega arith)
bit_of_set (suc n) f i h =
    elim (dec_le n i) [
      | yes k ↦ (let q : i ≡ n = omega arith in rw q (bit_last (set_of n f) n (set_below n f) (f n)))
      | no k ↦ bit_kept (set_of n f) i n (omega arith) (f n) ∙ bit_of_set n f i (omega arith)
    ]

pub bit_past_set : (n : ℕ) (f : ℕ → Bool) (i : ℕ) → n ≤ i → bit (set_of n f) i ≡ false
bit_past_set n f i h = no_bit (set_of n f) i (omega (arith, set_below n f, pow_mono h))

-- a test that holds nowhere has the empty set
pub set_none : (n : ℕ) (f : ℕ → Bool) → ((i : ℕ) → i < n → f i ≡ false) → set_of n f ≡ 0
unfolding set_of
set_none zero f h = refl
set_none (suc n) f h = rw (set_none n f (λ i k. h i (omega arith)), h n (omega arith))
