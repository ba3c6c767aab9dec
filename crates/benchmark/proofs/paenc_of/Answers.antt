-- `benchmark::paenc_of` meets its contract. PAP is at most 1,000,000, so its part of the costs is at most the costs.
-- Assumes nothing.
use mathlib.Core.Path.{sym, ◌∙◌, ap, ap₂}
use native.Mathlib.Omega.{arith}
use lib.IntN.{pos, ◌+ℤ◌}
use Rattle.sheet.proofs.Round.{round_alike}
use Rattle.sheet.proofs.Bounds.{ppm_most, paac_most}
use Rattle.benchmark.specs.Benchmark.{paenc}
use Rattle.benchmark.proofs.paenc_of.Goals as goal

pub ppm_of-requires : goal.ppm_of-requires
ppm_of-requires c =
    (ppm_most _ c.requires.0.ranged _ (omega arith) (omega arith) (omega arith), omega arith)

pub overflow_add-result : goal.overflow_add-result
overflow_add-result c =
    omega (arith, paac_most _ c.requires.0 _ c.requires.1)

pub returns : goal.returns
unfolding paenc
returns c = (
  ap₂ ◌+ℤ◌ (ap pos c.paac_term.ensures) (ap pos c.ppm_of.ensures.0 ∙ sym (round_alike _ 1000000)),
  omega (arith, paac_most _ c.requires.0 _ c.requires.1),
)
