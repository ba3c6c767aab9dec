-- What holds of the figures of every sheet that SET accepts, and what the cap's arithmetic needs to fit 64 bits.
-- Assumes nothing.
use Rattle.std.specs.Prelude.{ℕ, ◌+◌, ◌*◌, ◌≤◌, ◌<◌, ◌≡◌, length, get_or}
use Rattle.shares.specs.Shares.{whole_share}
use Rattle.benchmark.specs.declared.Benchmarks.{Benchmarks}

pub record Lawful (b : Benchmarks) : Type 0 where
  pub charge_count : length b.charges ≡ 112
  pub level_count : length b.levels ≡ 2
  pub charges_most : (k : ℕ) → get_or b.charges k 0 ≤ 2400000000
  pub nil_at_most_m : (j : ℕ) → j < 56 → get_or b.charges (2 * j) 0 ≤ get_or b.charges (2 * j + 1) 0
  pub level_some : (a : ℕ) → a < 2 → 1 ≤ get_or b.levels a 0
  pub level_most_lem : (a : ℕ) → get_or b.levels a 0 ≤ 20000
  pub peak_most : b.peak ≤ whole_share
  pub months_some : 1 ≤ b.months
  pub months_most_lem : b.months ≤ 12
  pub days_most_lem : b.days ≤ 372
