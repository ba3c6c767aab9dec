-- A verdict under a sheet of which the 112 charges and the days are known, by the scan of the corners.
-- Assumes nothing.
use mathlib.Core.Path.{◌≡◌, refl, ◌∙◌, ap}
use mathlib.Core.Bool.{true}
use mathlib.Core.List.{List, [], ◌∷◌}
use Prim.Native.Nat.{ℕ, ◌≤◌}
use Rattle.calendar.specs.declared.Period.{Period}
use Rattle.calendar.specs.Calendar.{period_days}
use Rattle.shares.specs.Shares.{whole_share}
use Rattle.sheet.specs.Sheet.{field, peak_share}
use Rattle.benchmark.specs.declared.Benchmarks.{Benchmarks}
use Rattle.benchmark.specs.Benchmark.{figures, benchmarks_of}
use Rattle.tariff.specs.Tariff.{tariff_of, valid_tariff}
use Rattle.verdict.specs.Cells.{Verdict, verdict}
use Rattle.verdict.proofs.Scanned.{scanned_verdict, verdict_scanned}

-- what a sheet and a period come to, from its charges and the days
abbrev pub formed : List ℕ → Period → List ℕ → ℕ → Benchmarks
formed s p charges days =
    record { charges = charges; levels = field s 93 ∷ field s 94 ∷ []; peak = peak_share s; months = p.months; days = days }

module _ (s : List ℕ) (p : Period) (charges : List ℕ) (days : ℕ) (c : figures s ≡ charges) (d : period_days p ≡ days) where
  pub is_formed : benchmarks_of s p ≡ formed s p charges days
  unfolding benchmarks_of
  is_formed = λ i. formed s p (c i) (d i)

  pub by_scan : peak_share s ≤ whole_share → (x : List ℕ) (v : Verdict) → valid_tariff (tariff_of x) ≡ true
      → scanned_verdict (formed s p charges days) (tariff_of x) ≡ v → verdict (benchmarks_of s p) (tariff_of x) ≡ v
  by_scan split x v valid e =
      ap (λ (b : Benchmarks). verdict b (tariff_of x)) is_formed ∙ verdict_scanned (formed s p charges days) (tariff_of x) split valid refl refl ∙ e
