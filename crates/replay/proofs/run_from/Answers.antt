-- `replay::run_from` meets its contract: at each turn, what is left of the list leads to the same book and the same numbers.
-- Assumes nothing.
use mathlib.Core.Path.{◌∙◌}
use Prim.Native.Nat.{◌-◌}
use native.Mathlib.Omega.{arith}
use lib.ListN.{length, drop, length-set, length-take, length-drop}
use lib.Seq.{take_all}
use Rattle.replay.proofs.Running.{left_step, left_end}
use Rattle.replay.proofs.run_from.Goals as goal

pub loop-rest-preserved : goal.loop-rest-preserved
loop-rest-preserved c =
    let r = c.one-r.result in
    let rest = c.loop-rest.rest.now in (
      length-set c.loop-rest.out c.loop-rest.n r.number ∙ c.loop-rest.invariant.0,
      c.one-r.ensures.reachable,
      omega (arith, length-take (length rest - r.end) (drop r.end rest), length-drop r.end rest),
      λ cs e m.
          left_step _ _ _ _ _ _ (c.loop-rest.invariant.3 cs e m) c.loop-rest-test.true _ c.one-r.ensures _
          (take_all (length rest - r.end) (drop r.end rest) (omega (arith, length-drop r.end rest))),
    )

pub returns-after-loop-rest : goal.returns-after-loop-rest
returns-after-loop-rest c = λ cs e m. left_end _ _ _ _ _ _ (c.loop-rest.invariant.3 cs e m) (λ h k. omega (arith, c.loop-rest-test.false))
