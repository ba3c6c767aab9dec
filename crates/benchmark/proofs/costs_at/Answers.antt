-- `benchmark::costs_at` meets its contract. OC is not below zero, so it is the number that it is cast to.
-- Assumes nothing.
use mathlib.Core.Path.{◌≡◌, sym, ap, ap₂}
use native.Mathlib.Omega.{arith}
use lib.IntN.{pos, ◌+ℤ◌}
use mir.Syntax.{w64}
use mir.Val.{to_z, of_z}
use mir.ValLaws.{to_z-of_z}
use Rattle.laws.proofs.Signed.{UpTo}
use Rattle.sheet.proofs.Bounds.{pc_most}
use Rattle.benchmark.specs.Benchmark.{pc, oc}
use Rattle.benchmark.specs.Common.{costs_at}
use Rattle.benchmark.proofs.Sizes.{oc_up_to}
use Rattle.benchmark.proofs.costs_at.Goals as goal

pub overflow_add-result : goal.overflow_add-result
overflow_add-result c =
    omega (arith, pc_most _ c.requires.0.indexed _ c.requires.1)

-- OC as a number, and read back from its bits
pub overflow_cast-result : goal.overflow_cast-result
overflow_cast-result c =
    let oc-known : UpTo (oc c.args.part.now c.args.f) 200000000 = oc_up_to _ c.requires.0 _ c.requires.1 in
    let oc-read : to_z w64 (of_z w64 c.oc_of.result) ≡ pos oc-known.0 = rw (to_z-of_z w64 c.oc_of.result (record { sfits = c.oc_of.type_inv }), c.oc_of.ensures) oc-known.1 in
    rw oc-read (tt, record { fits = omega (arith, oc-known.2) })

pub overflow_add-result-2 : goal.overflow_add-result-2
overflow_add-result-2 c =
    let oc-known : UpTo (oc c.args.part.now c.args.f) 200000000 = oc_up_to _ c.requires.0 _ c.requires.1 in
    let oc-read : to_z w64 (of_z w64 c.oc_of.result) ≡ pos oc-known.0 = rw (to_z-of_z w64 c.oc_of.result (record { sfits = c.oc_of.type_inv }), c.oc_of.ensures) oc-known.1 in
    rw oc-read (record { fits = omega (arith, oc-known.2, pc_most _ c.requires.0.indexed _ c.requires.1) })

pub returns : goal.returns
unfolding costs_at pc
returns c =
    let oc-known : UpTo (oc c.args.part.now c.args.f) 200000000 = oc_up_to _ c.requires.0 _ c.requires.1 in
    let oc-read : to_z w64 (of_z w64 c.oc_of.result) ≡ pos oc-known.0 = rw (to_z-of_z w64 c.oc_of.result (record { sfits = c.oc_of.type_inv }), c.oc_of.ensures) oc-known.1 in
    rw oc-read (
      ap₂ ◌+ℤ◌ (ap₂ ◌+ℤ◌ c.wc_of.ensures.0 (ap pos c.pc_term.ensures)) (sym oc-known.1),
      omega (arith, oc-known.2, pc_most _ c.requires.0.indexed _ c.requires.1),
    )
