-- Tests that tell exactly whether something holds, one after another; and states that have the same number.
-- Assumes nothing.
use mathlib.Core.Path.{◌≡◌, refl, sym, ◌∙◌, ap}
use mathlib.Core.Bool.{Bool, true, false}
use mathlib.Core.Logic.{◌↔◌}
use mathlib.Core.Option.{none, some}
use Prim.Native.Nat.{ℕ, zero, suc}
use Rattle.laws.proofs.Never.{never}
use Rattle.book.specs.declared.State.{State}
use Rattle.book.specs.declared.State.TheVariants.{Empty, Draft, Marked, Open}
use Rattle.book.specs.declared.Stood.{Stood}
use Rattle.standing.specs.Standing.{rank}

-- what cannot be is told by "no"
pub denied : {P : Type 0} → (P → ◌≡◌ {A = Bool} false true) → (false ≡ true) ↔ P
denied f = (λ z. never (cc), f)

-- one of the tests says no, and the whole asks for what it tests
pub fails : {P Q : Type 0} (t : Bool) → ((t ≡ true) ↔ Q) → t ≡ false → (P → Q) → (false ≡ true) ↔ P
fails t h e f = denied (λ p. sym e ∙ h.1 (f p))

-- a test that does not say no
pub held : {Q : Type 0} (t : Bool) → ((t ≡ true) ↔ Q) → t ≡ true → Q
held t h e = h.0 e

-- the last test decides
pub decides : {P Q : Type 0} (t : Bool) → ((t ≡ true) ↔ Q) → (Q → P) → (P → Q) → (t ≡ true) ↔ P
decides t h f g = (λ e. f (h.0 e), λ p. h.1 (g p))

-- what cannot be both
pub both : {A : Type 0} (t : Bool) → t ≡ true → t ≡ false → A
both true e f = never (cc)
both false e f = never (cc)

pub none_some : {A : Type 0} {B : Type 0} {b : B} → none ≡ some b → A
none_some e = never (cc)

-- states of the same number are the same
ranked : ℕ → State
ranked zero = Empty
ranked (suc zero) = Draft
ranked (suc (suc zero)) = Marked
ranked (suc (suc (suc n))) = Open

back : (s : State) → ranked (rank s) ≡ s
unfolding ranked
back Empty = refl
back Draft = refl
back Marked = refl
back Open = refl

pub same_rank : (a b : Stood) → rank a.state ≡ rank b.state → a ≡ b
same_rank a b e = let f = sym (back a.state) ∙ ap ranked e ∙ back b.state in λ i. record { state = f i }
