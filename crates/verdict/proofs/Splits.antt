-- Only Economy 7 depends on the split: the verdict on a tariff of any other kind is the same under another peak share, so that a sheet that
-- differs in field 95 alone makes no such tariff fall.
-- Assumes nothing.
use mathlib.Core.Path.{◌≡◌, refl, sym, ◌∙◌, ap}
use mathlib.Core.Bool.{false, ◌&&◌}
use mathlib.Core.List.{List}
use mathlib.Core.Option.{Option, none, some}
use Prim.Native.Nat.{ℕ, zero, suc}
use lib.Dec.{eqb}
use Rattle.calendar.specs.declared.Period.{Period}
use Rattle.sheet.specs.Sheet.{peak_share}
use Rattle.benchmark.specs.declared.Benchmarks.{Benchmarks}
use Rattle.benchmark.specs.Benchmark.{benchmarks_of}
use Rattle.benchmark.proofs.Splits.{figures_under, AlikeButSplit, figures_under_lem}
use Rattle.tariff.specs.declared.Tariff.{Tariff}
use Rattle.cap.proofs.Splits.{months_without_split, excess_without_split, exceeds_without_split}
use Rattle.verdict.specs.Cells.{Cell, offered, cell_numbers, tariff_numbers, cell_at, exceeds_at, first_of, first_below, first_over, over, verdict_at, verdict}

module _ (tenths : ℕ) (b : Benchmarks) (x : Tariff) (other : eqb x.kind 2 ≡ false) where
  exceeds_same : (n : ℕ) → exceeds_at b x n ≡ exceeds_at (figures_under tenths b) x n
  unfolding exceeds_at cell_numbers
  exceeds_same n = ap (λ t. offered x (cell_at n) && t) (exceeds_without_split tenths (tariff_numbers b x (cell_at n)) x other)

  below_same : (n : ℕ) → first_below b x n ≡ first_below (figures_under tenths b) x n
  unfolding first_below
  below_same zero = refl
  below_same (suc n) = λ i. first_of (below_same n i) (exceeds_same n i) (cell_at n)

  at_same : (o : Option Cell) → verdict_at b x o ≡ verdict_at (figures_under tenths b) x o
  unfolding cell_numbers
  at_same none = refl
  at_same (some c) =
      let e = tariff_numbers b x c in
      λ i. over c (months_without_split tenths e x other i) (excess_without_split tenths e x other (months_without_split tenths e x other i) i)

  first_same : first_over b x ≡ first_over (figures_under tenths b) x
  unfolding first_over
  first_same = below_same 28

  pub verdict_without_split : verdict b x ≡ verdict (figures_under tenths b) x
  unfolding verdict
  verdict_without_split = at_same (first_over b x) ∙ ap (verdict_at (figures_under tenths b) x) first_same

-- of two sheets that differ in field 95 alone
module _ (s t : List ℕ) (same : AlikeButSplit s t) (p : Period) (x : Tariff) (other : eqb x.kind 2 ≡ false) where
  pub first_of_sheets : first_over (benchmarks_of s p) x ≡ first_over (benchmarks_of t p) x
  first_of_sheets = ap (λ b. first_over b x) (figures_under_lem s t same p) ∙ sym (first_same (peak_share s) (benchmarks_of t p) x other)

  pub verdict_of_sheets : verdict (benchmarks_of s p) x ≡ verdict (benchmarks_of t p) x
  verdict_of_sheets = ap (λ b. verdict b x) (figures_under_lem s t same p) ∙ sym (verdict_without_split (peak_share s) (benchmarks_of t p) x other)
