-- `figures::charge_at` meets its contract. NC is at most 100,000,000 and PANC at most NC.
-- Assumes nothing.
use mathlib.Core.Path.{◌≡◌, sym, ◌∙◌, ap}
use Prim.Native.Nat.{◌≤◌}
use lib.IntN.{pos, ◌+ℤ◌}
use native.Mathlib.Omega.{arith}
use Rattle.sheet.proofs.Round.{round_alike}
use Rattle.sheet.proofs.Bounds.{ppm_most, money_most}
use Rattle.benchmark.specs.Benchmark.{nc, panc}
use Rattle.figures.proofs.charge_at.Goals as goal

-- NC, as it was read
pub ppm_of-requires : goal.ppm_of-requires
ppm_of-requires c =
    let network-small : c.from-network.result ≤ 100000000 = rw c.from-network.ensures (money_most _ c.requires.0 _ (omega arith) (omega arith) (omega arith)) in
    (ppm_most _ c.requires.0 _ (omega arith) (omega arith) (omega arith), omega (arith, network-small))

pub returns : goal.returns
unfolding nc panc
returns c =
    let network-small : c.from-network.result ≤ 100000000 = rw c.from-network.ensures (money_most _ c.requires.0 _ (omega arith) (omega arith) (omega arith)) in
    let s = c.args.s.now in
    let share : pos c.ppm_of.result ≡ panc s c.args.method (pos c.from-network.result) =
    ap pos c.ppm_of.ensures.0 ∙ sym (round_alike _ 1000000) in (
      ap (λ p. pos c.args.sum +ℤ pos c.from-network.result +ℤ p) share
          ∙ ap (λ n. pos c.args.sum +ℤ pos n +ℤ panc s c.args.method (pos n)) c.from-network.ensures,
      omega (arith, network-small),
    )
