-- `image_sheets::keep_states` meets its contract. The invariant: the states of the places passed are kept.
-- Assumes nothing.
use Rattle.image.specs.Layout.{kept_states_at, start_of}
use Rattle.image.specs.Image.{word}
use Rattle.image.specs.Changing.{Written}
use Rattle.image_sheets.proofs.keep_states.Given as goal

abbrev pub invariant-loop-i : goal.invariant-loop-i
invariant-loop-i l = Written l.initial.image l.image kept_states_at l.i (λ k. word l.initial.image (start_of k))
