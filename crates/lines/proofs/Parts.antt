-- Laws of the parts of a list of bytes.
-- Assumes nothing.
use mathlib.Core.Path.{◌≡◌}
use mathlib.Core.List.{List}
use Prim.Native.Nat.{ℕ, ◌-◌, ◌≤◌}
use native.Mathlib.Omega.{arith}
use lib.ListN.{length, take, drop, length-drop}
use lib.Seq.{take_all, length-take-le}
use Rattle.lines.specs.Words.{between}

-- all that stands behind the first k
pub rest : (k : ℕ) (xs : List ℕ) → take (length xs - k) (drop k xs) ≡ drop k xs
rest k xs = take_all (length xs - k) (drop k xs) (omega (arith, length-drop k xs))

-- how many bytes stand between two places
pub length_between : (xs : List ℕ) (from to : ℕ) → to ≤ length xs → length (between xs from to) ≡ to - from
length_between xs from to h = length-take-le (to - from) (drop from xs) (omega (arith, length-drop from xs))
