-- The two ways a run through the library ends.
-- Assumes nothing.
use mathlib.Core.Path.{◌≡◌, refl, sym, ◌∙◌, ap, subst}
use mathlib.Core.Bool.{Bool, true, false}
use mathlib.Core.List.{List}
use mathlib.Core.Option.{Option, none, some}
use Prim.Native.Nat.{ℕ}
use lib.Dec.{eqb}
use Rattle.laws.proofs.Never.{never}
use Rattle.book.specs.declared.Book.{Book}
use Rattle.rebates.specs.declared.Account.{Account}
use Rattle.rebates.specs.declared.Run.{Run}
use Rattle.rebates.specs.declared.Run.TheVariants.{Accepted, Refused}
use Rattle.rebates.specs.Rebates.{RunAnswer, accepted, refused_at, fails19, fails18, first_place, total_of, unless_at, run_of, after_run}
use Rattle.rebates.specs.Reading.{answer_of}
use Rattle.rebates.proofs.Answers.{Right}
use Rattle.image.specs.Image.{book_in}
use Rattle.image.specs.Changing.{no_book}
use Rattle.image_check.specs.Checking.{IsBook}
use Rattle.slatewhim.specs.declared.Ran.{Ran}
use Rattle.slatewhim.specs.Running.{ran_of, run_in, RunsOver}

-- a refusal of the run has another number than 0
abbrev Numbered : RunAnswer → Type 0
Numbered (accepted total) = Unit {0}
Numbered (refused_at number place) = eqb number 0 ≡ false

numbered_by : (x y : Option ℕ) (total : ℕ) → Numbered (unless_at x 19 (unless_at y 18 (accepted total)))
numbered_by none none total = tt
numbered_by none (some place) total = refl
numbered_by (some place) y total = refl

numbered : (b : Book) (desk : ℕ) (l : List Account) → Numbered (run_of b desk l)
unfolding run_of
numbered b desk l = numbered_by (first_place (fails19 b desk) l) (first_place (fails18 b) l) (total_of b desk l)

-- so the answer handed to C stands for the run's own
stands_for : (t : Run) → Numbered (answer_of t) → run_in (ran_of t) ≡ answer_of t
stands_for (Accepted total) h = refl
stands_for (Refused number place) h = rw h refl

module _ (l : List ℕ) (desk : ℕ) (before : List Account) where
  pub no_run : (told : Bool) → (IsBook l → told ≡ true) → told ≡ false → (r : Ran) → r ≡ record { refusal = no_book; place = 0; total = 0 } → RunsOver l desk before r before
  no_run told only e r is =
      record {
        no_book_lem = λ n. (ap (λ (s : Ran). s.refusal) is, refl);
        runs = λ q. let h = only q in never (cc);
      }

  pub did_run : IsBook l → (b : Book) → b ≡ book_in l → (t : Run) (after : List Account) → Right b desk before t after → (r : Ran) → r ≡ ran_of t → RunsOver l desk before r after
  did_run q b e t after right r is =
      record {
        no_book_lem = λ n. absurd (n q);
        runs = λ h. subst (λ (c : Book). (run_in r ≡ run_of c desk before) × (after ≡ after_run c desk before)) e
            (ap run_in is ∙ stands_for t (subst Numbered (sym right.0) (numbered b desk before)) ∙ right.0, right.1);
      }
