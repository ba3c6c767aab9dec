-- What the answers of the walk say, case by case.
-- Assumes nothing.
use Rattle.std.specs.Prelude.{◌≡◌, cond, List, ℕ, ◌≤◌, ltb, pos, get_or, take}
use Rattle.std.proofs.Math.Option.{Option, none, some}
use Rattle.benchmark.specs.declared.Benchmarks.{Benchmarks}
use Rattle.tariff.specs.declared.Tariff.{Tariff}
use Rattle.verdict.specs.declared.Found.{Found}
use Rattle.verdict.specs.declared.Found.TheVariants as found
use Rattle.verdict.specs.declared.Outcome.{Outcome}
use Rattle.verdict.specs.declared.Outcome.TheVariants as outcome
use Rattle.verdict.specs.declared.Ruling.{Ruling}
use Rattle.verdict.specs.Cells.{Cell, cell, cell_at, first_over, Verdict, opens, over, verdict}

abbrev pub Finds : Benchmarks → Tariff → Found → Type 0
Finds b x found.Nowhere = first_over b x ≡ none
Finds b x (found.Over r m) = first_over b x ≡ some (cell r m)

-- the cell of a number from 0 to 27; any other stands for none
abbrev pub found_at : ℕ → Option Cell
found_at n = cond (ltb n 28) (some (cell_at n)) none

-- the figures of a sheet, by their parts
abbrev pub figures_by : (charges levels : List ℕ) (peak months days : ℕ) → Benchmarks
figures_by charges levels peak months days = record { charges = charges; levels = levels; peak = peak; months = months; days = days }

-- the paper's values of an outcome, with the months beside it
abbrev pub verdict_of : Outcome → List ℕ → Verdict
verdict_of (outcome.Opens n) months = opens n
verdict_of (outcome.Over r m d) months = over (cell r m) months (pos d)

-- the verdict: its months are the first t, and the places past them are 0
pub record Rules (b : Benchmarks) (x : Tariff) (r : Ruling) : Type 0 where
  pub is_verdict : verdict_of r.outcome (take b.months r.months) ≡ verdict b x
  pub rest : (i : ℕ) → b.months ≤ i → get_or r.months i 0 ≡ 0
