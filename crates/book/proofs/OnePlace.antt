-- What settles the place of a code: its checks alone, a check that refuses, or checks that pass.
-- Assumes nothing.
use mathlib.Core.Path.{◌≡◌, refl, sym, ◌∙◌, ap, ap₂, subst}
use mathlib.Core.Bool.{cond}
use Prim.Native.Nat.{ℕ}
use Rattle.laws.proofs.Lists.{noughts}
use Rattle.refusal.specs.declared.Check.{Check}
use Rattle.refusal.specs.declared.Check.TheVariants.{Pass, Refuse}
use Rattle.book.specs.declared.Place.{Place}
use Rattle.book.specs.declared.Settled.{Settled}
use Rattle.book.specs.Calls.{Answer, accepted, is_accepted}
use Rattle.book.specs.Promises.{answer_of, NoughtPast}
use Rattle.book.specs.Settling.{settled_by, Settles}
use Rattle.book.proofs.Steps.{settles}

-- a place that its checks alone settle
pub by_checks : (check k : Check) (p q d : Place) (r : Settled) → r ≡ settled_by k p d → k ≡ check → d ≡ q → Settles check accepted p q r
by_checks check k p q d r e f g =
    subst (Settles check accepted p q) (sym (e ∙ ap₂ (λ c y. settled_by c p y) f g)) (settles check p q)

-- one that a check refuses, whatever is behind it
pub refused_by : (check k : Check) (n : ℕ) (next : Answer) (p q d : Place) (r : Settled) → r ≡ settled_by k p d → k ≡ check → k ≡ Refuse n
    → Settles check next p q r
refused_by check k n next p q d r e f g =
    subst (Settles check next p q) (sym (e ∙ ap (λ c. settled_by c p d) g))
    (subst (λ c. Settles c next p q (settled_by (Refuse n) p d)) (sym g ∙ f) (record { answers = refl; leaves = refl; rest_nought = λ i l. noughts 12 i }))

-- and one whose checks pass
pub passed_by : (check : Check) (next a : Answer) (p q : Place) (r : Settled) → check ≡ Pass → next ≡ a
    → answer_of r.reply r.months ≡ a → r.place ≡ cond (is_accepted a) q p → NoughtPast r.reply r.months → Settles check next p q r
passed_by check next a p q r e f g h z =
    subst (λ c. Settles c next p q r) (sym e) (subst (λ n. Settles Pass n p q r) (sym f) (record { answers = g; leaves = h; rest_nought = z }))
