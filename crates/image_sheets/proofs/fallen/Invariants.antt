-- `image_sheets::fallen` meets its contract. The invariant: the set of the places passed, and the bit of the next.
-- Assumes nothing.
use mathlib.Core.Path.{◌≡◌}
use Prim.Native.Nat.{suc, ◌^◌}
use Rattle.laws.specs.Notions.{set_of}
use Rattle.image_sheets.proofs.Telling.{falls_at}
use Rattle.image_sheets.proofs.fallen.Given as goal

abbrev pub invariant-loop-i : goal.invariant-loop-i
invariant-loop-i l = (l.bit ≡ 2 ^ l.i) × (l.codes ≡ set_of l.i (λ j. falls_at l.image l.figures (suc j)))
