-- The answer of an image, by the way on which the code comes to it.
-- Assumes nothing.
use mathlib.Core.Path.{◌≡◌, refl, sym, ◌∙◌, ap, subst}
use mathlib.Core.Bool.{Bool, true, false, cond}
use mathlib.Core.List.{List}
use Prim.Native.Nat.{ℕ, ◌≤◌}
use native.Mathlib.Omega.{arith}
use borrow.Author.Tests.{ne_eqb}
use Rattle.laws.proofs.Never.{never}
use Rattle.refusal.specs.declared.Check.{Check}
use Rattle.refusal.specs.declared.Check.TheVariants.{Pass, Refuse}
use Rattle.refusal.specs.Checks.{unless, first, checked}
use Rattle.book.specs.declared.Book.{Book}
use Rattle.book.specs.Book.{Reachable}
use Rattle.queries.specs.Queries.{Telling, refused}
use Rattle.image.specs.Image.{book_in, is_image}
use Rattle.image.specs.Changing.{no_book}
use Rattle.image_queries.specs.Tells.{Tells}

-- no check refuses with 0
abbrev pub Numbered : Check → Type 0
Numbered Pass = Unit {0}
Numbered (Refuse n) = 1 ≤ n

pub unless_numbered : (t : Bool) (n : ℕ) → 1 ≤ n → Numbered (unless t n Pass)
unless_numbered true n h = tt
unless_numbered false n h = h

pub first_numbered : (c d : Check) → Numbered c → Numbered d → Numbered (first c d)
first_numbered Pass d h k = k
first_numbered (Refuse n) d h k = h

-- what a test that is made both ways does not find
pub refuted : (P : Type 0) (t : Bool) → (P → t ≡ true) → t ≡ false → P → ⊥
refuted P t h e p = absurd (let q = h p in let z : ◌≡◌ {A = ℕ} 0 1 = cc in omega arith)

module _ (l : List ℕ) (asked : Book → Telling) (told : Telling) (Noughts : Type 0) where
  -- no image
  pub no_image : is_image l ≡ false → Noughts → Tells l asked no_book told Noughts
  no_image e z = record { no_book_lem = λ h. refl; answers = λ h from. never (cc); noughts = λ h. z }

  -- an image that holds no book
  pub not_reached : is_image l ≡ true → (Reachable (book_in l) → ⊥) → Noughts → Tells l asked no_book told Noughts
  not_reached e never-left z = record { no_book_lem = λ h. refl; answers = λ h from. absurd (never-left from); noughts = λ h. z }

  -- behind the checks of a call
  module _ (is : is_image l ≡ true) (check : Check) (next : Telling) (by : Reachable (book_in l) → asked (book_in l) ≡ checked refused check next) where
    pub refuses : (n : ℕ) → check ≡ Refuse n → Numbered check → Noughts → Tells l asked n told Noughts
    refuses n e h z =
        let some : 1 ≤ n = subst Numbered e h in
        record {
          no_book_lem = λ h. never (cc);
          answers = λ h from. ap (λ t. cond t told (refused n)) (ne_eqb n 0 (λ q. omega arith)) ∙ sym (by from ∙ ap (λ c. checked refused c next) e);
          noughts = λ h. z;
        }

    pub gives : check ≡ Pass → (Reachable (book_in l) → told ≡ next) → Tells l asked 0 told Noughts
    gives e same =
        record {
          no_book_lem = λ h. never (cc);
          answers = λ h from. same from ∙ sym (by from ∙ ap (λ c. checked refused c next) e);
          noughts = λ h. absurd (h refl);
        }
