-- `figures::figures_of` meets its contract. The loop's invariant: each place before k has its figure.
-- Assumes nothing.
use mathlib.Core.Path.{◌≡◌}
use Prim.Native.Nat.{ℕ, ◌<◌}
use lib.ListN.{length, get_or}
use Rattle.benchmark.specs.Benchmark.{figure}
use Rattle.figures.proofs.figures_of.Given as goal

abbrev pub invariant-loop-k : goal.invariant-loop-k
invariant-loop-k l = (length l.charges ≡ 112) × ((at : ℕ) → at < l.k → get_or l.charges at 0 ≡ figure l.s at)
