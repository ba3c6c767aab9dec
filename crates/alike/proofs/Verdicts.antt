-- The verdict of a tariff depends only on the numbers of its offered cells.
-- Assumes nothing.
use mathlib.Core.Path.{◌≡◌, refl, ◌∙◌, ap, ap₂}
use mathlib.Core.Bool.{Bool, true, false, ◌&&◌}
use mathlib.Core.Option.{Option, none, some}
use Prim.Native.Nat.{ℕ, zero, suc, ◌<◌, ◌≤◌}
use native.Mathlib.Omega.{arith}
use Rattle.benchmark.specs.declared.Benchmarks.{Benchmarks}
use Rattle.tariff.specs.declared.Tariff.{Tariff}
use Rattle.cap.specs.declared.CellNumbers.{CellNumbers}
use Rattle.cap.specs.Cap.{excess, worst_months}
use Rattle.cap.specs.Decided.{decided}
use Rattle.cap.proofs.Decided.{exceeds?}
use Rattle.verdict.specs.Cells.{Cell, offered, Offered, tariff_numbers, cell_at, exceeds_at, first_of, first_below, first_over, over, verdict_at, verdict}
use Rattle.verdict.proofs.Meaning.{first_exceeds}

module _ (f g : Benchmarks) (x : Tariff) (same : (c : Cell) → Offered x c → tariff_numbers f x c ≡ tariff_numbers g x c) where
  exceeds_same : (n : ℕ) → n < 28 → exceeds_at f x n ≡ exceeds_at g x n
  unfolding exceeds_at
  exceeds_same n h = go (offered x (cell_at n)) refl
    where
      go : (t : Bool) → offered x (cell_at n) ≡ t
          → (t && decided (exceeds? (tariff_numbers f x (cell_at n)) x)) ≡ (t && decided (exceeds? (tariff_numbers g x (cell_at n)) x))
      go false e = refl
      go true e = ap (λ (d : CellNumbers). decided (exceeds? d x)) (same (cell_at n) (omega arith, omega arith, e))

  below_same : (n : ℕ) → n ≤ 28 → first_below f x n ≡ first_below g x n
  unfolding first_below
  below_same zero h = refl
  below_same (suc n) h = ap₂ (λ o t. first_of o t (cell_at n)) (below_same n (omega arith)) (exceeds_same n h)

  pub verdict_same : verdict f x ≡ verdict g x
  unfolding verdict first_over
  verdict_same = ap (verdict_at f x) (below_same 28 (omega arith)) ∙ go (first_over g x) refl
    where
      go : (o : Option Cell) → first_over g x ≡ o → verdict_at f x o ≡ verdict_at g x o
      go none e = refl
      go (some c) e = ap (λ (d : CellNumbers). over c (worst_months d x) (excess d x (worst_months d x))) (same c (first_exceeds g x c e).0)
