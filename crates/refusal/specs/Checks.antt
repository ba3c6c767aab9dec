-- "Checks run in the order written; the first that applies is the answer."
-- Assumes nothing.
use Rattle.std.specs.Prelude.{Bool, true, false, ℕ}
use Rattle.std.proofs.Math.Option.{Option, none, some}
use Rattle.refusal.specs.declared.Check.{Check}
use Rattle.refusal.specs.declared.Check.TheVariants.{Pass, Refuse}

-- refusal n unless the test holds, and then what the checks after it say
abbrev pub unless : Bool → ℕ → Check → Check
unless true n next = next
unless false n next = Refuse n

-- a check, and then the next
abbrev pub first : Check → Check → Check
first Pass next = next
first (Refuse n) next = Refuse n

-- The same for answers of any kind, of which `refused` makes those that refuse: behind a check; behind a test; and behind something that
-- may not be there, with what is there.
abbrev pub checked : {A : Type 0} → (ℕ → A) → Check → A → A
checked refused Pass next = next
checked refused (Refuse n) next = refused n

abbrev pub need : {A : Type 0} → (ℕ → A) → Bool → ℕ → A → A
need refused true n next = next
need refused false n next = refused n

abbrev pub given : {A B : Type 0} → (ℕ → A) → Option B → ℕ → (B → A) → A
given refused none n next = refused n
given refused (some x) n next = next x
