-- Bounds of a sheet's fields, from their ranges, and of its indexed terms.
-- Assumes nothing.
use mathlib.Core.Path.{◌≡◌, refl}
use mathlib.Core.Bool.{Bool, true, ◌&&◌}
use mathlib.Core.List.{List}
use Prim.Native.Nat.{ℕ, ◌<◌, ◌≤◌}
use native.Mathlib.Decide.{dec_le}
use native.Mathlib.Omega.{arith}
use lib.Dec.{leb}
use lib.IntN.{pos}
use lib.Signed.{mag}
use lib.ListN.{length}
use borrow.Author.Tests.{leb-true}
use Rattle.laws.specs.Notions.{every}
use Rattle.laws.proofs.Every.{every_at, and_left, and_right}
use Rattle.shares.specs.Shares.{whole_share}
use Rattle.sheet.specs.Sheet.{field_count, field, smncc_field, value_of, smncc, peak_field, peak_share, range_of, field_in_range, fields_in_range, term_most, df_term, cm_term, pc_term, oc_term, paac_term, four_fit, paac_fits, terms_fit}
use Rattle.sheet.specs.Ranged.{Ranged, Indexed}
use Rattle.sheet.proofs.Ranges.{money_first, ppm_at, money_middle, initial_at, current_at, money_last, level_at, tenths_at, plain_bounds, net_cost_mag}

-- a sheet that refusals 1 and 2 let pass
pub all_ranged : (s : List ℕ) → length s ≡ field_count → fields_in_range s ≡ true → Ranged field_count s
unfolding fields_in_range
all_ranged s h e = record { count = h; ranges = every_at (λ k. field_in_range k (field s k)) field_count e }

module _ {n : ℕ} (s : List ℕ) (h : Ranged n s) (k : ℕ) (there : k < n) where
  bounds :
      (low high : ℕ) → (k ≡ smncc_field → ⊥) → range_of k ≡ record { low = pos low; high = pos high } → (low ≤ field s k) × (field s k ≤ high)
  bounds low high plain range = plain_bounds k (field s k) low high plain range (h.ranges k there)

  pub ppm_most : 16 ≤ k → k < 20 → field s k ≤ 1000000
  ppm_most g l = (bounds 0 1000000 (λ e. omega arith) (ppm_at k g l)).1

  -- a baseline or a share, fields 0 to 21
  pub base_most : k < 22 → field s k ≤ 100000000
  base_most l = go (dec_le k 15) (dec_le k 19)
    where
      go : Dec (k ≤ 15) → Dec (k ≤ 19) → field s k ≤ 100000000
      go (yes a) b = (bounds 0 100000000 (λ e. omega arith) (money_first k (omega arith))).1
      go (no a) (yes b) = omega (arith, ppm_most (omega arith) (omega arith))
      go (no a) (no b) = (bounds 0 100000000 (λ e. omega arith) (money_middle k (omega arith) l)).1

  pub initial_some : 22 ≤ k → k < 29 → 1 ≤ field s k
  initial_some g l = (bounds 1 1000000000 (λ e. omega arith) (initial_at k g l)).0

  pub initial_most : 22 ≤ k → k < 29 → field s k ≤ 1000000000
  initial_most g l = (bounds 1 1000000000 (λ e. omega arith) (initial_at k g l)).1

  pub current_most : 29 ≤ k → k < 36 → field s k ≤ 1000000000
  current_most g l = (bounds 0 1000000000 (λ e. omega arith) (current_at k g l)).1

  -- NC, fields 37 to 92
  pub money_most : 37 ≤ k → k < 93 → field s k ≤ 100000000
  money_most g l = (bounds 0 100000000 (λ e. omega arith) (money_last k g l)).1

  pub level_some : 93 ≤ k → k < 95 → 1 ≤ field s k
  level_some g l = (bounds 1 20000 (λ e. omega arith) (level_at k g l)).0

  pub level_most_lem : 93 ≤ k → k < 95 → field s k ≤ 20000
  level_most_lem g l = (bounds 1 20000 (λ e. omega arith) (level_at k g l)).1

-- the peak share, field 95
pub peak_most : (s : List ℕ) → Ranged field_count s → peak_share s ≤ whole_share
peak_most s h = (bounds s h peak_field (omega arith) 0 whole_share (λ e. omega arith) (tenths_at peak_field refl)).1

-- SMNCC, field 36
pub smncc_mag : {n : ℕ} (s : List ℕ) → Ranged n s → smncc_field < n → mag (smncc s) ≤ 100000000
unfolding value_of
smncc_mag s h there = net_cost_mag (field s smncc_field) (h.ranges smncc_field there)

-- four tests that hold together
four_parts : (a b c d : Bool) → (a && b && c && d) ≡ true → (a ≡ true) × (b ≡ true) × (c ≡ true) × (d ≡ true)
four_parts a b c d e =
    let abc : (a && b && c) ≡ true = and_left (a && b && c) d e in
    let ab : (a && b) ≡ true = and_left (a && b) c abc in
    (and_left a b ab, and_right a b ab, and_right (a && b) c abc, and_right (a && b && c) d e)

module _ (s : List ℕ) (h : Indexed s) where
  terms_apart : (every 4 (four_fit s) ≡ true) × (paac_fits s 0 ≡ true) × (paac_fits s 1 ≡ true)
  unfolding terms_fit
  terms_apart =
      let both : (paac_fits s 0 && paac_fits s 1) ≡ true = and_right (every 4 (four_fit s)) (paac_fits s 0 && paac_fits s 1) h.terms in (
        and_left (every 4 (four_fit s)) (paac_fits s 0 && paac_fits s 1) h.terms,
        and_left (paac_fits s 0) (paac_fits s 1) both,
        and_right (paac_fits s 0) (paac_fits s 1) both,
      )

  module _ (f : ℕ) (l : f < 4) where
    four_tests :
        (leb (df_term s f) term_most ≡ true) × (leb (cm_term s f) term_most ≡ true) × (leb (pc_term s f) term_most ≡ true) × (leb (oc_term s f) term_most ≡ true)
    unfolding four_fit
    four_tests =
        four_parts
        (leb (df_term s f) term_most)
        (leb (cm_term s f) term_most)
        (leb (pc_term s f) term_most)
        (leb (oc_term s f) term_most)
        (every_at (four_fit s) 4 terms_apart.0 f l)

    pub df_most : df_term s f ≤ 100000000
    df_most = leb-true (df_term s f) term_most four_tests.0

    pub cm_most : cm_term s f ≤ 100000000
    cm_most = leb-true (cm_term s f) term_most four_tests.1

    pub pc_most : pc_term s f ≤ 100000000
    pc_most = leb-true (pc_term s f) term_most four_tests.2

    pub oc_most : oc_term s f ≤ 100000000
    oc_most = leb-true (oc_term s f) term_most four_tests.3

  pub paac_most : (p : ℕ) → p < 2 → paac_term s p ≤ 100000000
  unfolding paac_fits
  paac_most p l = go (dec_le p 0)
    where
      go : Dec (p ≤ 0) → paac_term s p ≤ 100000000
      go (yes a) = let e : p ≡ 0 = omega arith in rw e (leb-true (paac_term s 0) term_most terms_apart.1)
      go (no a) = let e : p ≡ 1 = omega arith in rw e (leb-true (paac_term s 1) term_most terms_apart.2)
