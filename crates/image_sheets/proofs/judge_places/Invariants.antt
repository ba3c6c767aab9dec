-- `image_sheets::judge_places` meets its contract. The invariant: the states of the places passed are those under the figures, and all else is as it was.
-- Assumes nothing.
use Rattle.book.specs.Book.{under}
use Rattle.image.specs.Layout.{start_of}
use Rattle.image.specs.Image.{state_number, place_at}
use Rattle.image_sheets.specs.Stages.{StatesWritten}
use Rattle.image_sheets.proofs.judge_places.Given as goal

abbrev pub invariant-loop-i : goal.invariant-loop-i
invariant-loop-i l = StatesWritten l.initial.image l.image l.i (λ k. state_number (under l.figures (place_at l.initial.image (start_of k))).state)
