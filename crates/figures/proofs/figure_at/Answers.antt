-- `figures::figure_at` meets its contract. A benchmark is at most 2,400,000,000 and fits 32 bits.
-- Assumes nothing.
use mathlib.Core.Path.{◌≡◌, sym, ◌∙◌, ap}
use native.Mathlib.Omega.{arith}
use lib.IntN.{pos, nat_abs}
use Rattle.benchmark.specs.Benchmark.{figure}
use Rattle.benchmark.proofs.Commons.{sum_most, figure_is_sum}
use Rattle.figures.proofs.figure_at.Goals as goal

pub charge_at-requires : goal.charge_at-requires
charge_at-requires c =
    (c.requires.0, rw c.requires.3 (sum_most _ c.requires.1 _ (omega arith)), omega arith, omega arith, omega arith)

pub returns : goal.returns
returns c =
    let s = c.args.s.now in
    let told : pos c.charge_at.result ≡ pos (figure s c.args.k) =
    c.charge_at.ensures.0 ∙ rw c.requires.3 (sym (figure_is_sum s c.requires.0 c.requires.1 c.args.k c.requires.2)) in
    ap nat_abs told
