-- Whether a tariff exceeds in a cell can be decided. The type of `exceeds?` is its meaning; how the decision is found (Deciding.antt) need not be
-- read.
-- Assumes nothing.
use Rattle.std.specs.Prelude.{Bool, true}
use mathlib.Core.Path.{◌≡◌}
use Rattle.tariff.specs.declared.Tariff.{Tariff}
use Rattle.cap.specs.declared.CellNumbers.{CellNumbers}
use Rattle.cap.specs.Cap.{Exceeds}
use Rattle.cap.proofs.Deciding.{at_the_worst}

pub exceeds? : (e : CellNumbers) (x : Tariff) → Dec (Exceeds e x)
exceeds? e x = at_the_worst e x
