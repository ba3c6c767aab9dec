-- `image_sheets::states_back` meets its contract. The invariant: the places passed have the states that are kept.
-- Assumes nothing.
use Prim.Native.Nat.{◌+◌}
use Rattle.image.specs.Layout.{kept_states_at}
use Rattle.image.specs.Image.{word}
use Rattle.image_sheets.specs.Stages.{StatesWritten}
use Rattle.image_sheets.proofs.states_back.Given as goal

abbrev pub invariant-loop-i : goal.invariant-loop-i
invariant-loop-i l = StatesWritten l.initial.image l.image l.i (λ k. word l.initial.image (kept_states_at + k))
