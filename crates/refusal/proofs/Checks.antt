-- Laws of checks: what one that passes or refuses says of its test, and answers behind several checks.
-- Assumes nothing.
use mathlib.Core.Path.{◌≡◌, refl}
use mathlib.Core.Bool.{Bool, true, false}
use Prim.Native.Nat.{ℕ}
use Rattle.laws.proofs.Never.{never}
use Rattle.refusal.specs.declared.Check.{Check}
use Rattle.refusal.specs.declared.Check.TheVariants.{Pass, Refuse}
use Rattle.refusal.specs.Checks.{unless, first, checked, need}

-- a check that passes has its test true, and the checks after it pass
pub unless_passes : (t : Bool) (n : ℕ) (next : Check) → unless t n next ≡ Pass → (t ≡ true) × (next ≡ Pass)
unless_passes true n next e = (refl, e)
unless_passes false n next e = never (cc)

-- one that refuses is the answer, whatever the checks after it say
pub unless_refuses : (t : Bool) (k n : ℕ) (next : Check) → unless t k Pass ≡ Refuse n → unless t k next ≡ Refuse n
unless_refuses true k n next e = never (cc)
unless_refuses false k n next e = e

-- both of two checks pass where the first of them does not refuse
pub first_passes : (c d : Check) → first c d ≡ Pass → (c ≡ Pass) × (d ≡ Pass)
first_passes Pass d e = (refl, e)
first_passes (Refuse n) d e = never (cc)

-- an answer behind a test is one behind the check that makes it
pub need_checked : {A : Type 0} (refused : ℕ → A) (t : Bool) (n : ℕ) (next : A) → need refused t n next ≡ checked refused (unless t n Pass) next
need_checked refused true n next = refl
need_checked refused false n next = refl
