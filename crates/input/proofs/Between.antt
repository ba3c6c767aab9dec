-- Laws of the bytes between two places.
-- Assumes nothing.
use mathlib.Core.Path.{◌≡◌, ◌∙◌, ap}
use mathlib.Core.List.{List, [], ◌∷◌, ◌++◌}
use Prim.Native.Nat.{ℕ, zero, suc, ◌+◌, ◌-◌, ◌<◌, ◌≤◌}
use native.Mathlib.Omega.{arith}
use lib.ListN.{length, get_or, take, drop}
use lib.Seq.{take-add, drop-drop, drop-cons}
use Rattle.lines.specs.Words.{between}

-- bytes between two places, cut at a third
pub between_split : (xs : List ℕ) (from mid to : ℕ) → from ≤ mid → mid ≤ to → between xs from to ≡ between xs from mid ++ between xs mid to
between_split xs from mid to h k =
    let e : to - from ≡ mid - from + (to - mid) = omega arith in
    let f : from + (mid - from) ≡ mid = omega arith in
    ap (λ n. take n (drop from xs)) e
    ∙ take-add (mid - from) (to - mid) (drop from xs)
    ∙ ap (λ ys. between xs from mid ++ take (to - mid) ys) (drop-drop (mid - from) from xs ∙ ap (λ n. drop n xs) f)

pub between_one : (xs : List ℕ) (at : ℕ) → at < length xs → between xs at (at + 1) ≡ get_or xs at 0 ∷ []
between_one xs at h =
    let e : at + 1 - at ≡ suc zero = omega arith in
    ap (λ n. take n (drop at xs)) e ∙ ap (take (suc zero)) (drop-cons xs at 0 h)

pub between_none : (xs : List ℕ) (at : ℕ) → between xs at at ≡ []
between_none xs at = let e : at - at ≡ zero = omega arith in ap (λ n. take n (drop at xs)) e
