-- The eight sums: they depend on fields 0 to 36 alone, each benchmark is its sum, NC and PANC, and the bounds of both.
-- Assumes nothing.
use mathlib.Core.Path.{◌≡◌, ◌∙◌, ap, ap₂}
use mathlib.Core.List.{List}
use Prim.Native.Nat.{ℕ, ◌+◌, ◌/◌, ◌%◌, ◌≤◌, ◌<◌}
use native.Mathlib.Omega.{arith}
use lib.IntN.{ℤ, pos, nat_abs, ◌+ℤ◌, ◌*ℤ◌}
use lib.Signed.{le_z}
use lib.ListN.{get_or}
use Rattle.laws.proofs.Every.{every_alike}
use Rattle.laws.proofs.Lists.{get_d_tabulate, tabulate_alike}
use Rattle.laws.proofs.Signed.{UpTo, up_to_sum, up_to_whole, up_to_most, add_right_comm}
use Rattle.sheet.specs.Sheet.{field_count, smncc_field, round_signed}
use Rattle.sheet.specs.CommonFields.{common_fields, Agree}
use Rattle.sheet.specs.Ranged.{Ranged}
use Rattle.sheet.proofs.CommonFields.{df_same, cm_same, pc_same, oc_same, paac_same, common_agree}
use Rattle.benchmark.specs.Benchmark.{four, nc, wc, pc, oc, paenc, headroom, panc, benchmark, figure, ocs_fit}
use Rattle.benchmark.specs.Common.{costs_at, sum_from, common, sum_index, common_at, commons}
use Rattle.benchmark.specs.Signs.{Costed}
use Rattle.benchmark.proofs.Sizes.{costs_up_to, paenc_up_to, headroom_up_to, panc_up_to, network_up_to}

-- two sheets that agree in fields 0 to 36
module _ (s t : List ℕ) (same : Agree s t) where
  pub operating_same : (f : ℕ) → f < 4 → oc s f ≡ oc t f
  unfolding oc
  operating_same f l = rw (oc_same s t same f l, same smncc_field (omega arith))

  pub costs_same : (f : ℕ) → f < 4 → costs_at s f ≡ costs_at t f
  unfolding costs_at wc pc
  costs_same f l = rw (df_same s t same f l, cm_same s t same f l, pc_same s t same f l, operating_same f l)

  pub paenc_same : (p : ℕ) → p < 2 → (z : ℤ) → paenc s p z ≡ paenc t p z
  unfolding paenc
  paenc_same p l z = ap₂ (λ x y. pos x +ℤ round_signed (pos y *ℤ z) 1000000) (paac_same s t same p l) (same (18 + p) (omega arith))

  headroom_same : (a : ℕ) → a < 2 → (z : ℤ) → headroom s a z ≡ headroom t a z
  unfolding headroom
  headroom_same a l z = ap (λ x. round_signed (pos x *ℤ z) 1000000) (same (16 + a) (omega arith))

  -- have the same sums
  pub common_same : (a p l : ℕ) → a < 2 → p < 2 → l < 2 → common s a p l ≡ common t a p l
  unfolding common sum_from
  common_same a p l ha hp hl = rw (costs_same (four a l) (omega arith), paenc_same p hp, headroom_same a ha)

  pub commons_same : commons s ≡ commons t
  unfolding commons common_at
  commons_same =
      tabulate_alike 8 (common_at s) (common_at t) (λ j h. ap nat_abs (common_same (j / 4) (j / 2 % 2) (j % 2) (omega arith) (omega arith) (omega arith)))

  -- have the same refusal 14
  pub ocs_fit_same : ocs_fit s ≡ ocs_fit t
  unfolding ocs_fit
  ocs_fit_same =
      every_alike (λ f. le_z (pos 0) (oc s f)) (λ f. le_z (pos 0) (oc t f)) 4 (λ f l. ap (le_z (pos 0)) (operating_same f l))

-- so the sums of a sheet are those of its common fields
pub sums_of_common : (s : List ℕ) → commons (common_fields s) ≡ commons s
sums_of_common s = commons_same (common_fields s) s (common_agree s)

-- a sum by its index
common_at_index : (s : List ℕ) (j : ℕ) → j < 8 → get_or (commons s) j 0 ≡ common_at s j
unfolding commons
common_at_index s j h = get_d_tabulate 8 (common_at s) j h

sum_at_index : (s : List ℕ) (a p l : ℕ) → a < 2 → p < 2 → l < 2 → get_or (commons s) (sum_index a p l) 0 ≡ nat_abs (common s a p l)
unfolding common_at
sum_at_index s a p l ha hp hl =
    let j = sum_index a p l in
    let ea : j / 4 ≡ a = omega arith in
    let ep : j / 2 % 2 ≡ p = omega arith in
    let el : j % 2 ≡ l = omega arith in
    common_at_index s j (omega arith) ∙ rw (ea, ep, el)

-- seven summands in the order of the work: the second and the fifth go after the sixth
gathered : (w n c o h e p : ℤ) → w +ℤ n +ℤ c +ℤ o +ℤ h +ℤ e +ℤ p ≡ w +ℤ c +ℤ o +ℤ e +ℤ h +ℤ n +ℤ p
gathered w n c o h e p =
    ap (λ x. x +ℤ o +ℤ h +ℤ e +ℤ p) (add_right_comm w n c)
    ∙ ap (λ x. x +ℤ h +ℤ e +ℤ p) (add_right_comm (w +ℤ c) n o)
    ∙ ap (λ x. x +ℤ e +ℤ p) (add_right_comm (w +ℤ c +ℤ o) n h)
    ∙ ap (λ x. x +ℤ p) (add_right_comm (w +ℤ c +ℤ o +ℤ h) n e)
    ∙ ap (λ x. x +ℤ n +ℤ p) (add_right_comm (w +ℤ c +ℤ o) h e)

-- "The benchmark is WC + NC + PC + OC + H + PAENC + PANC."
pub benchmark_parts : (s : List ℕ) (r a p l : ℕ) → benchmark s r a p l ≡ common s a p l +ℤ nc s r (four a l) +ℤ panc s p (nc s r (four a l))
unfolding benchmark common sum_from costs_at
benchmark_parts s r a p l = gathered (wc s (four a l)) (nc s r (four a l)) (pc s (four a l)) (oc s (four a l)) _ _ _

-- M-101: "each of the 112 figures of document 01 is shown to be its sum plus NC and PANC", the sum "worked out from fields 0 to 36 alone";
-- for every list of numbers
pub benchmark_is_sum :
    (s : List ℕ) (r a p l : ℕ) → a < 2 → p < 2 → l < 2
    → benchmark s r a p l ≡ common (common_fields s) a p l +ℤ nc s r (four a l) +ℤ panc s p (nc s r (four a l))
benchmark_is_sum s r a p l ha hp hl = rw (common_same (common_fields s) s (common_agree s) a p l ha hp hl) (benchmark_parts s r a p l)

-- of common fields that SET's checks let pass
module _ (s : List ℕ) (h : Costed s) where
  common_up_to : (a p l : ℕ) → a < 2 → p < 2 → l < 2 → UpTo (common s a p l) 2200000000
  unfolding common sum_from
  common_up_to a p l ha hp hl =
      let costs = costs_up_to s h (four a l) (omega arith) in
      let known = up_to_sum _ _ 500000000 600000000 costs (paenc_up_to s h.indexed p _ hp costs) in
      up_to_sum _ _ 1100000000 1100000000 known (headroom_up_to s h.indexed a _ 1100000000 ha known)

  -- each of the eight is the sum that it is kept for
  pub sum_is_whole : (a p l : ℕ) → a < 2 → p < 2 → l < 2 → pos (get_or (commons s) (sum_index a p l) 0) ≡ common s a p l
  sum_is_whole a p l ha hp hl = rw (sum_at_index s a p l ha hp hl) (up_to_whole _ 2200000000 (common_up_to a p l ha hp hl))

  pub sum_most : (j : ℕ) → j < 8 → get_or (commons s) j 0 ≤ 2200000000
  unfolding common_at
  sum_most j l =
      rw (common_at_index s j l)
      (up_to_most _ 2200000000 (common_up_to (j / 4) (j / 2 % 2) (j % 2) (omega arith) (omega arith) (omega arith)))

-- the index of a sum from its parts
digits : (j : ℕ) → j ≡ sum_index (j / 4) (j / 2 % 2) (j % 2)
digits j = omega arith

-- which sum the figure at an index of the 112 has
sum_of_figure : (k : ℕ) → k % 8 ≡ sum_index (k / 4 % 2) (k / 2 % 2) (k % 2)
sum_of_figure k =
    let ea : k % 8 / 4 ≡ k / 4 % 2 = omega arith in
    let ep : k % 8 / 2 % 2 ≡ k / 2 % 2 = omega arith in
    let el : k % 8 % 2 ≡ k % 2 = omega arith in
    rw (← ea, ← ep, ← el) (digits (k % 8))

-- of a whole sheet
module _ (s : List ℕ) (h : Ranged field_count s) (i : Costed (common_fields s)) where
  pub benchmark_up_to : (r a p l : ℕ) → r < 14 → a < 2 → p < 2 → l < 2 → UpTo (benchmark s r a p l) 2400000000
  benchmark_up_to r a p l hr ha hp hl =
      let network = network_up_to s h r (four a l) hr (omega arith) in
      let sum = up_to_sum _ _ 2200000000 100000000 (common_up_to (common_fields s) i a p l ha hp hl) network in
      rw (benchmark_is_sum s r a p l ha hp hl) (up_to_sum _ _ 2300000000 100000000 sum (panc_up_to s h p _ 100000000 hp network))

  -- a figure is the benchmark that it is kept for
  benchmark_at : (k : ℕ) → k < 112 → UpTo (benchmark s (k / 8) (k / 4 % 2) (k / 2 % 2) (k % 2)) 2400000000
  benchmark_at k l = benchmark_up_to (k / 8) (k / 4 % 2) (k / 2 % 2) (k % 2) (omega arith) (omega arith) (omega arith) (omega arith)

  pub figure_is_whole : (k : ℕ) → k < 112 → pos (figure s k) ≡ benchmark s (k / 8) (k / 4 % 2) (k / 2 % 2) (k % 2)
  unfolding figure
  figure_is_whole k l = up_to_whole _ 2400000000 (benchmark_at k l)

  pub figure_most : (k : ℕ) → k < 112 → figure s k ≤ 2400000000
  unfolding figure
  figure_most k l = up_to_most _ 2400000000 (benchmark_at k l)

  -- the figure at an index of the 112 is its sum among the eight, NC and PANC
  pub figure_is_sum :
      (k : ℕ) → k < 112 →
      let network = nc s (k / 8) (four (k / 4 % 2) (k % 2)) in
      pos (figure s k) ≡ pos (get_or (commons (common_fields s)) (k % 8) 0) +ℤ network +ℤ panc s (k / 2 % 2) network
  figure_is_sum k l =
      figure_is_whole k l
      ∙ rw (sum_of_figure k, sum_is_whole (common_fields s) i (k / 4 % 2) (k / 2 % 2) (k % 2) (omega arith) (omega arith) (omega arith))
      (benchmark_is_sum s (k / 8) (k / 4 % 2) (k / 2 % 2) (k % 2) (omega arith) (omega arith) (omega arith))
