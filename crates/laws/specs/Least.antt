-- The least number at which a test holds.
-- Assumes nothing.
use Rattle.std.specs.Prelude.{◌≡◌, Bool, true, false, cond, ℕ, zero, suc, ◌<◌}

-- r is the least number at which a test holds
pub record Least (holds : ℕ → Bool) (r : ℕ) : Type 0 where
  pub there : holds r ≡ true
  pub below : (x : ℕ) → x < r → holds x ≡ false

-- the first of i, i + 1 and so on, n numbers in all, at which a test holds; or else i + n
unfoldable pub least_from : ℕ → ℕ → (ℕ → Bool) → ℕ
least_from i zero holds = i
least_from i (suc n) holds = cond (holds i) i (least_from (suc i) n holds)

-- the least number below n at which a test holds, or else n (proofs/Least.antt, `least_is`)
unfoldable pub least : ℕ → (ℕ → Bool) → ℕ
least n holds = least_from 0 n holds
