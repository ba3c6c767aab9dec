-- `image::write` meets its contract. The invariant: the numbers passed are written.
-- Assumes nothing.
use Rattle.image.specs.Image.{word}
use Rattle.image.specs.Changing.{Written}
use Rattle.image.proofs.write.Given as goal

abbrev pub invariant-loop-i : goal.invariant-loop-i
invariant-loop-i l = Written l.initial.image l.image l.at l.i (λ j. word l.x j)
