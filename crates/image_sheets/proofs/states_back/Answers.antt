-- `image_sheets::states_back` meets its contract. The invariant: the places passed have the states that are kept.
-- Assumes nothing.
use mathlib.Core.Path.{◌≡◌}
use Prim.Native.Nat.{◌+◌}
use native.Mathlib.Omega.{arith}
use Rattle.image.specs.Layout.{kept_states_at}
use Rattle.image_sheets.proofs.States.{states_more, states_apart}
use Rattle.image_sheets.proofs.states_back.Goals as goal

pub loop-i-preserved : goal.loop-i-preserved
loop-i-preserved c =
    let lp = c.loop-i in
    states_more _ _ _ _ _ _ lp.invariant c.start_of.ensures.0 (omega arith) (states_apart lp.invariant (kept_states_at + lp.i) (omega arith))

pub returns : goal.returns
returns c = let end : c.loop-i.i ≡ 32 = omega arith in rw end at c.loop-i.invariant
