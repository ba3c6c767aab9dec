-- The smallest number at which a signed quantity is greatest.
-- Assumes nothing.
use Rattle.std.specs.Prelude.{cond, ℕ, zero, suc, ◌<◌, ◌≤◌, ℤ, ◌<ℤ◌, ◌≤ℤ◌}
use Rattle.std.specs.Int.Signed.{lt_z}

-- b is the smallest of 0 to n at which f is greatest
pub record Greatest (f : ℕ → ℤ) (n b : ℕ) : Type 0 where
  pub within : b ≤ n
  pub most : (x : ℕ) → x ≤ n → f x ≤ℤ f b
  pub least : (x : ℕ) → x < b → f x <ℤ f b

-- x where f is greater there than at b, and else b
abbrev pub later : (ℕ → ℤ) → ℕ → ℕ → ℕ
later f x b = cond (lt_z (f b) (f x)) x b

-- that number, found by trying 0 to n (proofs/Greatest.antt, `first_greatest_lem`)
unfoldable pub first_greatest : (ℕ → ℤ) → ℕ → ℕ
first_greatest f zero = 0
first_greatest f (suc n) = later f (suc n) (first_greatest f n)
