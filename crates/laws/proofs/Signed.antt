-- Signed numbers that are not below zero, and sums of signed numbers.
-- Assumes nothing.
use mathlib.Core.Path.{◌≡◌, refl, sym, ◌∙◌, ap}
use mathlib.Core.Bool.{Bool, true, false}
use Prim.Native.Nat.{ℕ, suc, ◌+◌, ◌≤◌}
use native.Mathlib.Omega.{arith}
use lib.Dec.{ltb, le→leb}
use lib.IntN.{ℤ, pos, negsuc, nat_abs, ◌+ℤ◌, +ℤ_assoc, +ℤ_comm}
use lib.Signed.{mag, le_z, ◌≤ℤ◌}
use Rattle.laws.proofs.Never.{never}

-- a number from 0 to most
abbrev pub UpTo : ℤ → ℕ → Type 0
UpTo z most = (n : ℕ) × (z ≡ pos n) × (n ≤ most)

pub up_to_sum : (y z : ℤ) (m n : ℕ) → UpTo y m → UpTo z n → UpTo (y +ℤ z) (m + n)
up_to_sum y z m n (a, ea, la) (b, eb, lb) = (a + b, rw (ea, eb), omega arith)

pub up_to_least : (z : ℤ) (most : ℕ) → UpTo z most → pos 0 ≤ℤ z
up_to_least z most (n, e, l) = rw e (record { le = le→leb 0 n (omega arith) })

pub up_to_whole : (z : ℤ) (most : ℕ) → UpTo z most → pos (nat_abs z) ≡ z
up_to_whole z most (n, e, l) = rw e

pub up_to_most : (z : ℤ) (most : ℕ) → UpTo z most → nat_abs z ≤ most
up_to_most z most (n, e, l) = rw e l

-- what is not below zero, and no further from it than most, is one
pub up_to : (z : ℤ) (most : ℕ) → le_z (pos 0) z ≡ true → mag z ≤ most → UpTo z most
up_to (pos n) most e h = (n, refl, h)
up_to (negsuc n) most e h = never (cc)

-- the last two of three summands exchanged
pub add_right_comm : (a b c : ℤ) → a +ℤ b +ℤ c ≡ a +ℤ c +ℤ b
add_right_comm a b c = +ℤ_assoc a b c ∙ ap (λ x. a +ℤ x) (+ℤ_comm b c) ∙ sym (+ℤ_assoc a c b)

-- a number and a signed one: their sum is no further from zero than both together
pub sum_mag : (t : ℕ) (z : ℤ) → mag (pos t +ℤ z) ≤ t + mag z
sum_mag t (pos k) = omega arith
sum_mag t (negsuc k) = go (ltb t (suc k)) refl
  where
    go : (b : Bool) → ltb t (suc k) ≡ b → mag (pos t +ℤ negsuc k) ≤ t + k
    go true e = rw e (omega arith)
    go false e = rw e (omega arith)
