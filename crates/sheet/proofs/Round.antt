-- Rounding: the whole number nearest to n / d, halves up.
-- Assumes nothing.
use mathlib.Core.Path.{◌≡◌, refl}
use Prim.Native.Nat.{ℕ, ◌+◌, ◌*◌, ◌/◌, ◌%◌, ◌<◌, ◌≤◌}
use native.Mathlib.Nat.{div-add-mod', mod-lt, mul_comm}
use native.Mathlib.Omega.{arith}
use lib.IntN.{pos}
use Rattle.sheet.specs.Sheet.{round, round_signed}

-- n / d is at least round n d - 1/2 and below round n d + 1/2, both sides times 2 * d
pub round_nearest : (n d : ℕ) → 1 ≤ d → (2 * d * round n d ≤ 2 * n + d) × (2 * n + d < 2 * d * round n d + 2 * d)
unfolding round
round_nearest n d h =
    let q : (2 * n + d) / (2 * d) * (2 * d) + (2 * n + d) % (2 * d) ≡ 2 * n + d = div-add-mod' (2 * n + d) (2 * d) in
    let m : 2 * d * ((2 * n + d) / (2 * d)) ≡ (2 * n + d) / (2 * d) * (2 * d) = mul_comm (2 * d) ((2 * n + d) / (2 * d)) in
    let l : (2 * n + d) % (2 * d) < 2 * d = mod-lt (2 * n + d) (omega arith) in
    (omega arith, omega arith)

-- of a signed number that is not below zero
pub round_alike : (n d : ℕ) → round_signed (pos n) d ≡ pos (round n d)
unfolding round_signed round
round_alike n d = refl
