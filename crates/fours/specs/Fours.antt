-- Of four places, as a tariff has for its rates and its steps: which are used, within their limits, and rising.
-- Assumes nothing.
use Rattle.std.specs.Prelude.{Bool, ◌&&◌, ◌||◌, List, ℕ, ◌+◌, ◌-◌, leb, ltb, eqb, get_or}
use Rattle.laws.specs.Notions.{every}

-- the first k numbers are from low to high
unfoldable pub within : List ℕ → ℕ → ℕ → ℕ → Bool
within a k low high = every k (λ i. leb low (get_or a i 0) && leb (get_or a i 0) high)

-- "Places beyond those used are 0": of four places, those from k on
unfoldable pub zero_from : List ℕ → ℕ → Bool
zero_from a k = every 4 (λ i. ltb i k || eqb (get_or a i 0) 0)

-- the first k numbers rise strictly
unfoldable pub rising : List ℕ → ℕ → Bool
rising a k = every (k - 1) (λ i. ltb (get_or a i 0) (get_or a (i + 1) 0))
