-- `replay::one` meets its contract: the call that stands at the start of the list, a desk and its act, is made, or none stands there.
-- Assumes nothing.
use mathlib.Core.Path.{◌≡◌, refl}
use mathlib.Core.List.{List}
use Prim.Native.Nat.{ℕ, ◌-◌}
use native.Mathlib.Omega.{arith}
use lib.ListN.{length, take, drop, length-drop}
use lib.Seq.{take_all}
use Rattle.replay.proofs.Decode.{made_ran}
use Rattle.replay.proofs.one.Goals as goal

-- what is behind the desk
behind_desk : (s : List ℕ) → take (length s - 1) (drop 1 s) ≡ drop 1 s
behind_desk s = take_all (length s - 1) (drop 1 s) (omega (arith, length-drop 1 s))

pub returns : goal.returns
returns c =
    let is = c.end_of-end.ensures.0 in
    let s = c.args.calls.now in
    made_ran _ s _ (behind_desk s) c.requires.0 _ _ (rw is at c.made-did.ensures) c.requires.1 (omega arith) (c.number_of.ensures _, refl, omega arith)
