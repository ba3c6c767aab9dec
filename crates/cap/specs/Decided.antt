-- A decision as a test. That a tariff exceeds in a cell can be decided is a theorem, `exceeds?` of proofs/Decided.antt.
-- Assumes nothing.
use Rattle.std.specs.Prelude.{Bool, true, false}

abbrev pub decided : {P : Type 0} → Dec P → Bool
decided (yes p) = true
decided (no p) = false
