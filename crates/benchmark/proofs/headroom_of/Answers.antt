-- `benchmark::headroom_of` meets its contract. HAP is at most 1,000,000, so its part of the costs is at most the costs.
-- Assumes nothing.
use mathlib.Core.Path.{sym, ◌∙◌, ap}
use native.Mathlib.Omega.{arith}
use lib.IntN.{pos}
use Rattle.sheet.proofs.Round.{round_alike}
use Rattle.sheet.proofs.Bounds.{ppm_most}
use Rattle.benchmark.specs.Benchmark.{headroom}
use Rattle.benchmark.proofs.headroom_of.Goals as goal

pub ppm_of-requires : goal.ppm_of-requires
ppm_of-requires c =
    (ppm_most _ c.requires.0.ranged _ (omega arith) (omega arith) (omega arith), omega arith)

pub returns : goal.returns
unfolding headroom
returns c = (ap pos c.ppm_of.ensures.0 ∙ sym (round_alike _ 1000000), c.ppm_of.ensures.1)
