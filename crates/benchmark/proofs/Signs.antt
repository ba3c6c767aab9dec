-- Refusal 14 keeps every part of a benchmark, and whatever is rounded for it, from below zero.
-- Assumes nothing.
use mathlib.Core.Path.{◌≡◌, ◌∙◌}
use mathlib.Core.Bool.{true}
use mathlib.Core.List.{List}
use Prim.Native.Nat.{ℕ, ◌*◌, ◌<◌}
use native.Mathlib.Nat.{mul-le-mul_left}
use native.Mathlib.Omega.{arith}
use lib.IntN.{ℤ, pos, ◌*ℤ◌}
use Rattle.laws.proofs.Signed.{UpTo, up_to_sum, up_to_least}
use Rattle.sheet.specs.Sheet.{field_count, terms_fit}
use Rattle.sheet.specs.CommonFields.{common_fields}
use Rattle.sheet.specs.Ranged.{Ranged}
use Rattle.sheet.proofs.CommonFields.{common_agree, common_indexed}
use Rattle.benchmark.specs.Benchmark.{four, ocs_fit}
use Rattle.benchmark.specs.Signs.{Costed, NoneBelowZero}
use Rattle.benchmark.proofs.Sizes.{oc_up_to, costs_up_to, paenc_up_to, network_up_to}
use Rattle.benchmark.proofs.Commons.{operating_same, costs_same, paenc_same, ocs_fit_same, benchmark_up_to}

-- the common fields of a sheet that refusals 4 and 14 let pass
pub common_costed : (s : List ℕ) → Ranged field_count s → terms_fit s ≡ true → ocs_fit s ≡ true → Costed (common_fields s)
common_costed s h terms ocs =
    record { indexed = common_indexed s h terms; ocs = ocs_fit_same (common_fields s) s (common_agree s) ∙ ocs }

-- a share of a number that is not below zero
share_least : (p : ℕ) (z : ℤ) (most : ℕ) → UpTo z most → UpTo (pos p *ℤ z) (p * most)
share_least p z most (n, e, l) = (p * n, rw e, mul-le-mul_left p l)

module _ (s : List ℕ) (h : Ranged field_count s) (i : Costed (common_fields s)) where
  pub none_below_zero : (r a p l : ℕ) → r < 14 → a < 2 → p < 2 → l < 2 → NoneBelowZero s r a p l
  none_below_zero r a p l hr ha hp hl =
      let f = four a l in
      let alike = common_agree s in
      let costs = costs_up_to (common_fields s) i f (omega arith) in
      let known = up_to_sum _ _ _ _ costs (paenc_up_to (common_fields s) i.indexed p _ hp costs) in
      record {
        oc_least = rw (← (operating_same (common_fields s) s alike f (omega arith))) (up_to_least _ _ (oc_up_to (common_fields s) i f (omega arith)));
        paenc_rounds = rw (← (costs_same (common_fields s) s alike f (omega arith))) (up_to_least _ _ (share_least _ _ _ costs));
        headroom_rounds = rw (← (costs_same (common_fields s) s alike f (omega arith)), ← (paenc_same (common_fields s) s alike p hp _)) (up_to_least _ _ (share_least _ _ _ known));
        panc_rounds = up_to_least _ _ (share_least _ _ _ (network_up_to s h r f hr (omega arith)));
        benchmark_least = up_to_least _ _ (benchmark_up_to s h i r a p l hr ha hp hl);
      }
