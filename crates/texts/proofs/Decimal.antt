-- Laws of a number in decimal.
-- Assumes nothing.
use mathlib.Core.Path.{◌≡◌, ◌∙◌, ap}
use mathlib.Core.List.{[], ◌∷◌, ◌++◌, append_assoc}
use Prim.Native.Nat.{ℕ, zero, suc, ◌+◌, ◌/◌, ◌%◌, ◌^◌, ◌<◌, ◌≤◌}
use native.Mathlib.Nat.{pow-suc}
use native.Mathlib.Omega.{arith}
use native.Mathlib.Decide.{dec_lt}
use lib.ListN.{length, length-append}
use borrow.Author.Tests.{lt-ltb, le-ltb}
use Rattle.texts.specs.Texts.{digits_within, decimal, two_digits}

-- any bound above the number gives the same digits
bound_alike : (j k n : ℕ) → n < j → n < k → digits_within j n ≡ digits_within k n
unfolding digits_within
bound_alike zero k n h l = absurd (omega arith)
bound_alike (suc j) zero n h l = absurd (omega arith)
bound_alike (suc j) (suc k) n h l =
    elim (dec_lt n 10) [
      | yes m ↦ simp (lt-ltb n 10 m)
      | no m ↦ (let q : 10 ≤ n = omega arith in
          simp (le-ltb n 10 q) (ap (λ ds. ds ++ ((48 + n % 10) ∷ [])) (bound_alike j k (n / 10) (omega arith) (omega arith))))
    ]

-- the two equations of `decimal`
pub decimal_small : (n : ℕ) → n < 10 → decimal n ≡ (48 + n) ∷ []
unfolding decimal digits_within
decimal_small n h = simp (lt-ltb n 10 h)

pub decimal_more : (n : ℕ) → 10 ≤ n → decimal n ≡ decimal (n / 10) ++ ((48 + n % 10) ∷ [])
unfolding decimal digits_within
decimal_more n h =
    simp (le-ltb n 10 h) (ap (λ ds. ds ++ ((48 + n % 10) ∷ [])) (bound_alike n (suc (n / 10)) (n / 10) (omega arith) (omega arith)))

-- two digits, and the last two behind the others
pub decimal_two : (n : ℕ) → 10 ≤ n → n < 100 → decimal n ≡ two_digits n
decimal_two n h l = rw (decimal_more n h, decimal_small (n / 10) (omega arith))

pub decimal_hundred : (n : ℕ) → 100 ≤ n → decimal n ≡ decimal (n / 100) ++ two_digits (n % 100)
decimal_hundred n h =
    let q : n / 10 / 10 ≡ n / 100 = omega arith in
    let r : n / 10 % 10 ≡ n % 100 / 10 = omega arith in
    let s : n % 10 ≡ n % 100 % 10 = omega arith in
    rw (decimal_more n (omega arith), decimal_more (n / 10) (omega arith), append_assoc, q, r, s)

-- how many digits there are
pub length_more : (n : ℕ) → 10 ≤ n → length (decimal n) ≡ length (decimal (n / 10)) + 1
length_more n h = ap length (decimal_more n h) ∙ length-append (decimal (n / 10)) ((48 + n % 10) ∷ [])

pub length_hundred : (n : ℕ) → 100 ≤ n → length (decimal n) ≡ length (decimal (n / 100)) + 2
length_hundred n h = ap length (decimal_hundred n h) ∙ length-append (decimal (n / 100)) (two_digits (n % 100))

-- a number below a power of ten has no more digits than its exponent
pub digits_most : (k n : ℕ) → n < 10 ^ suc k → length (decimal n) ≤ suc k
digits_most zero n h = omega (arith, ap length (decimal_small n (omega arith)))
digits_most (suc k) n h =
    elim (dec_lt n 10) [
      | yes m ↦ omega (arith, ap length (decimal_small n m))
      | no m ↦ (let q : 10 ≤ n = omega arith in
          omega (arith, length_more n q, digits_most k (n / 10) (omega (arith, pow-suc 10 (suc k)))))
    ]

pub digits_64 : (n : ℕ) → n < 2 ^ 64 → length (decimal n) ≤ 20
digits_64 n h = digits_most 19 n (omega arith)
