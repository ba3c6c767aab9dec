-- The split changes no benchmark: two sheets that differ in field 95 alone have the same figures but for the peak share itself.
-- Assumes nothing.
use mathlib.Core.Path.{◌≡◌, sym, ◌∙◌, ap, ap₂}
use mathlib.Core.List.{List, [], ◌∷◌}
use Prim.Native.Nat.{ℕ, ◌+◌, ◌*◌, ◌/◌, ◌%◌, ◌<◌}
use native.Mathlib.Omega.{arith}
use lib.IntN.{ℤ, pos, nat_abs, ◌+ℤ◌, ◌*ℤ◌}
use Rattle.laws.proofs.Lists.{tabulate_alike}
use Rattle.calendar.specs.declared.Period.{Period}
use Rattle.calendar.specs.Calendar.{period_days}
use Rattle.sheet.specs.Sheet.{field, peak_field, peak_share, round_signed}
use Rattle.sheet.specs.CommonFields.{Agree}
use Rattle.benchmark.specs.declared.Benchmarks.{Benchmarks}
use Rattle.benchmark.specs.Benchmark.{four, nc, panc, benchmark, figure, figures, benchmarks_of}
use Rattle.benchmark.specs.Common.{common}
use Rattle.benchmark.proofs.Commons.{common_same, benchmark_parts}

-- the figures of a sheet with another peak share
abbrev pub figures_under : ℕ → Benchmarks → Benchmarks
figures_under tenths b = record { charges = b.charges; levels = b.levels; peak = tenths; months = b.months; days = b.days }

-- alike in all fields before the peak share
abbrev pub AlikeButSplit : List ℕ → List ℕ → Type 0
AlikeButSplit s t = (k : ℕ) → k < peak_field → field s k ≡ field t k

module _ (s t : List ℕ) (same : AlikeButSplit s t) where
  common_fields_lem : Agree s t
  common_fields_lem k l = same k (omega arith)

  network_same : (r f : ℕ) → r < 14 → f < 4 → nc s r f ≡ nc t r f
  unfolding nc
  network_same r f hr hf = ap pos (same (37 + 4 * r + f) (omega arith))

  panc_same : (p : ℕ) → p < 2 → (z : ℤ) → panc s p z ≡ panc t p z
  unfolding panc
  panc_same p l z = ap (λ x. round_signed (pos x *ℤ z) 1000000) (same (18 + p) (omega arith))

  benchmark_same : (r a p l : ℕ) → r < 14 → a < 2 → p < 2 → l < 2 → benchmark s r a p l ≡ benchmark t r a p l
  benchmark_same r a p l hr ha hp hl =
      let network = network_same r (four a l) hr (omega arith) in
      benchmark_parts s r a p l
      ∙ ap₂ (λ x y. x +ℤ y +ℤ panc s p y) (common_same s t common_fields_lem a p l ha hp hl) network
      ∙ ap (λ z. common t a p l +ℤ nc t r (four a l) +ℤ z) (panc_same p hp (nc t r (four a l)))
      ∙ sym (benchmark_parts t r a p l)

  figures_same : figures s ≡ figures t
  unfolding figures figure
  figures_same =
      tabulate_alike 112 (figure s) (figure t)
      (λ k h. ap nat_abs (benchmark_same (k / 8) (k / 4 % 2) (k / 2 % 2) (k % 2) (omega arith) (omega arith) (omega arith) (omega arith)))

  pub figures_under_lem : (p : Period) → benchmarks_of s p ≡ figures_under (peak_share s) (benchmarks_of t p)
  unfolding benchmarks_of
  figures_under_lem p =
      λ i. record { charges = figures_same i; levels = same 93 (omega arith) i ∷ same 94 (omega arith) i ∷ []; peak = peak_share s; months = p.months; days = period_days p }
