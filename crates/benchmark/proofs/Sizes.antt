-- The parts of a benchmark are not below zero, and their bounds.
-- Assumes nothing.
use mathlib.Core.Path.{refl}
use mathlib.Core.List.{List}
use Prim.Native.Nat.{ℕ, ◌+◌, ◌*◌, ◌<◌, ◌≤◌}
use native.Mathlib.Nat.{mul-le-mul_right}
use native.Mathlib.Omega.{arith}
use lib.IntN.{ℤ, pos, ◌*ℤ◌}
use lib.Signed.{mag, le_z}
use Rattle.laws.proofs.Every.{every_at}
use Rattle.laws.proofs.Signed.{UpTo, up_to_sum, up_to, sum_mag}
use Rattle.sheet.specs.Sheet.{field_count, smncc, oc_term, round, round_signed}
use Rattle.sheet.specs.Ranged.{Ranged, Indexed}
use Rattle.sheet.proofs.Round.{round_alike}
use Rattle.sheet.proofs.Bounds.{ppm_most, money_most, smncc_mag, df_most, cm_most, pc_most, oc_most, paac_most}
use Rattle.benchmark.specs.Benchmark.{nc, wc, pc, oc, paenc, headroom, panc, ocs_fit}
use Rattle.benchmark.specs.Common.{costs_at}
use Rattle.benchmark.specs.Signs.{Costed}

-- a part per million of a charge is at most the charge
pub share_most : (p n : ℕ) → p ≤ 1000000 → round (p * n) 1000000 ≤ n
unfolding round
share_most p n h = omega (arith, mul-le-mul_right n h)

-- and of a number that is not below zero not below zero
share_up_to : (p : ℕ) (z : ℤ) (most : ℕ) → p ≤ 1000000 → UpTo z most → UpTo (round_signed (pos p *ℤ z) 1000000) most
share_up_to p z most h (n, e, l) = (round (p * n) 1000000, rw e (round_alike (p * n) 1000000), omega (arith, share_most p n h))

-- of the common fields
module _ (s : List ℕ) (h : Indexed s) where
  pub wc_up_to : (f : ℕ) → f < 4 → UpTo (wc s f) 200000000
  unfolding wc
  wc_up_to f l = up_to_sum _ _ _ _ (_, refl, df_most s h f l) (_, refl, cm_most s h f l)

  pub pc_up_to : (f : ℕ) → f < 4 → UpTo (pc s f) 100000000
  unfolding pc
  pc_up_to f l = (_, refl, pc_most s h f l)

  -- OC, below zero or not
  oc_mag : (f : ℕ) → f < 4 → mag (oc s f) ≤ 200000000
  unfolding oc
  oc_mag f l = omega (arith, sum_mag (oc_term s f) (smncc s), oc_most s h f l, smncc_mag s h.ranged (omega arith))

  pub paenc_up_to : (p : ℕ) (z : ℤ) → p < 2 → UpTo z 500000000 → UpTo (paenc s p z) 600000000
  unfolding paenc
  paenc_up_to p z l u =
      up_to_sum _ _ _ _ (_, refl, paac_most s h p l) (share_up_to _ z _ (ppm_most s h.ranged (18 + p) (omega arith) (omega arith) (omega arith)) u)

  pub headroom_up_to : (a : ℕ) (z : ℤ) (most : ℕ) → a < 2 → UpTo z most → UpTo (headroom s a z) most
  unfolding headroom
  headroom_up_to a z most l u = share_up_to _ z most (ppm_most s h.ranged (16 + a) (omega arith) (omega arith) (omega arith)) u

-- of those that refusal 14 lets pass too
module _ (s : List ℕ) (h : Costed s) where
  pub oc_up_to : (f : ℕ) → f < 4 → UpTo (oc s f) 200000000
  unfolding ocs_fit
  oc_up_to f l = up_to (oc s f) 200000000 (every_at (λ k. le_z (pos 0) (oc s k)) 4 h.ocs f l) (oc_mag s h.indexed f l)

  pub costs_up_to : (f : ℕ) → f < 4 → UpTo (costs_at s f) 500000000
  unfolding costs_at
  costs_up_to f l = up_to_sum _ _ _ _ (up_to_sum _ _ _ _ (wc_up_to s h.indexed f l) (pc_up_to s h.indexed f l)) (oc_up_to f l)

-- of a whole sheet
module _ (s : List ℕ) (h : Ranged field_count s) where
  pub network_up_to : (r f : ℕ) → r < 14 → f < 4 → UpTo (nc s r f) 100000000
  unfolding nc
  network_up_to r f k l = (_, refl, money_most s h (37 + 4 * r + f) (omega arith) (omega arith) (omega arith))

  pub panc_up_to : (p : ℕ) (z : ℤ) (most : ℕ) → p < 2 → UpTo z most → UpTo (panc s p z) most
  unfolding panc
  panc_up_to p z most l u = share_up_to _ z most (ppm_most s h (18 + p) (omega arith) (omega arith) (omega arith)) u
