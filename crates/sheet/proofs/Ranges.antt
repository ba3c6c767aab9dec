-- The range of a field, by its number.
-- Assumes nothing.
use mathlib.Core.Path.{◌≡◌}
use mathlib.Core.Bool.{Bool, true, ◌&&◌}
use Prim.Native.Nat.{ℕ, ◌<◌, ◌≤◌}
use native.Mathlib.Omega.{arith}
use lib.Dec.{leb}
use lib.IntN.{ℤ, pos, negsuc, neg_ℤ}
use lib.Signed.{mag, le_z}
use borrow.Author.Tests.{le-leb, lt-leb, leb-true}
use Rattle.laws.proofs.Every.{and_left, and_right}
use Rattle.sheet.specs.Sheet.{smncc_field, peak_field, signed, value_of, range_of, field_in_range, money, ppm, initial_index, current_index, level, tenths}
use Rattle.sheet.proofs.Words.{plain_value}

module _ (k : ℕ) where
  pub money_first : k < 16 → range_of k ≡ money
  unfolding range_of
  money_first h = simp (le-leb k 15 (omega arith))

  pub ppm_at : 16 ≤ k → k < 20 → range_of k ≡ ppm
  unfolding range_of
  ppm_at l h = simp (lt-leb k 15 l, le-leb k 19 (omega arith))

  pub money_middle : 20 ≤ k → k < 22 → range_of k ≡ money
  unfolding range_of
  money_middle l h = simp (lt-leb k 15 (omega arith), lt-leb k 19 l, le-leb k 21 (omega arith))

  pub initial_at : 22 ≤ k → k < 29 → range_of k ≡ initial_index
  unfolding range_of
  initial_at l h = simp (lt-leb k 15 (omega arith), lt-leb k 19 (omega arith), lt-leb k 21 l, le-leb k 28 (omega arith))

  pub current_at : 29 ≤ k → k < 36 → range_of k ≡ current_index
  unfolding range_of
  current_at l h =
      simp
      (lt-leb k 15 (omega arith), lt-leb k 19 (omega arith), lt-leb k 21 (omega arith), lt-leb k 28 l, le-leb k 35 (omega arith))

  pub money_last : 37 ≤ k → k < 93 → range_of k ≡ money
  unfolding range_of
  money_last l h =
      simp
      (lt-leb k 15 (omega arith), lt-leb k 19 (omega arith), lt-leb k 21 (omega arith), lt-leb k 28 (omega arith), lt-leb k 35 (omega arith), lt-leb k 36 l, le-leb k 92 (omega arith))

  pub level_at : 93 ≤ k → k < 95 → range_of k ≡ level
  unfolding range_of
  level_at l h =
      simp
      (lt-leb k 15 (omega arith), lt-leb k 19 (omega arith), lt-leb k 21 (omega arith), lt-leb k 28 (omega arith), lt-leb k 35 (omega arith), lt-leb k 36 (omega arith), lt-leb k 92 l, le-leb k 94 (omega arith))

  pub tenths_at : k ≡ peak_field → range_of k ≡ tenths
  unfolding range_of
  tenths_at e = rw e

-- what the test of a field but 36 says
pub plain_bounds :
    (k word low high : ℕ) → (k ≡ smncc_field → ⊥) → range_of k ≡ record { low = pos low; high = pos high } → field_in_range k word ≡ true
    → (low ≤ word) × (word ≤ high)
unfolding field_in_range
plain_bounds k word low high h range e =
    let both : (leb low word && leb word high) ≡ true = rw (range, plain_value k word h) at e in
    (leb-true low word (and_left (leb low word) (leb word high) both), leb-true word high (and_right (leb low word) (leb word high) both))

-- and that of field 36: the number is no further from zero than 100,000,000
mag_within : (z : ℤ) → le_z (neg_ℤ (pos 100000000)) z ≡ true → le_z z (pos 100000000) ≡ true → mag z ≤ 100000000
mag_within (pos n) low high = leb-true n 100000000 high
mag_within (negsuc n) low high = omega (arith, leb-true n 99999999 low)

pub net_cost_mag : (word : ℕ) → field_in_range smncc_field word ≡ true → mag (signed word) ≤ 100000000
unfolding field_in_range range_of value_of
net_cost_mag word e =
    let low : Bool = le_z (neg_ℤ (pos 100000000)) (signed word) in
    let high : Bool = le_z (signed word) (pos 100000000) in
    mag_within (signed word) (and_left low high e) (and_right low high e)
