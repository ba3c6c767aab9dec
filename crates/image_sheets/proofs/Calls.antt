-- A call on an image that its checks alone decide: refused, or made.
-- Assumes nothing.
use mathlib.Core.Path.{◌≡◌, refl, sym, ◌∙◌, ap, ap₂, subst}
use mathlib.Core.Bool.{Bool, true, false, ◌&&◌}
use mathlib.Core.List.{List}
use Prim.Native.Nat.{ℕ}
use lib.Dec.{eqb}
use Rattle.laws.proofs.Never.{never}
use Rattle.refusal.specs.declared.Check.{Check}
use Rattle.refusal.specs.declared.Check.TheVariants.{Pass, Refuse}
use Rattle.refusal.specs.Checks.{unless, checked, need}
use Rattle.desks.specs.Desks.{is_full}
use Rattle.book.specs.Calls.{Call, Answer, accepted, refused}
use Rattle.book.specs.Checks.{answer}
use Rattle.book.specs.Book.{book_readings, changed}
use Rattle.book.proofs.Steps.{answered_by, unchanged, made}
use Rattle.book.proofs.Desks.{not_full}
use Rattle.image.specs.Layout.{word_count, mark}
use Rattle.image.specs.Image.{book_in, is_image}
use Rattle.image.specs.Changing.{no_book, number_of, Changes}
use Rattle.image_sheets.specs.Stages.{Leaves}

-- a test is not passed and failed
pub not_both : (t : Bool) → t ≡ false → t ≡ true → ⊥
not_both t h e = never (cc)

module _ (c : Call) (l : List ℕ) where
  -- what is no image
  pub no_image : is_image l ≡ false → Changes c l no_book l
  no_image e =
      record {
        no_book_lem = λ h. refl;
        answers = λ h r. never (cc);
        leaves = λ h r. never (cc);
        untouched = λ h. refl;
        remains = refl;
        stays_canonical = λ h. h;
      }

  module _ (image : is_image l ≡ true) where
    -- a refusal
    pub call_refused : (n : ℕ) → answer c.desk (book_readings (book_in l)) c.act ≡ refused n → Changes c l n l
    call_refused n e =
        record {
          no_book_lem = λ h. never (cc);
          answers = λ h r. sym (ap number_of (answered_by (book_in l) c ∙ e));
          leaves = λ h r. sym (unchanged (book_in l) c (refused n) e refl);
          untouched = λ h. refl;
          remains = refl;
          stays_canonical = λ h. h;
        }

    -- 17, of a call that only a desk with all fourteen regions may make
    pub call_outside : (rest : Answer) → answer c.desk (book_readings (book_in l)) c.act ≡ need refused (is_full c.desk) 17 rest
        → (check : Check) (n r : ℕ) → check ≡ unless (is_full c.desk) 17 Pass → check ≡ Refuse n → r ≡ number_of (checked refused check accepted) → Changes c l r l
    call_outside rest tested check n r e f q =
        let out = not_full c.desk check n e f in
        let is : r ≡ 17 = q ∙ ap (λ k. number_of (checked refused k accepted)) f ∙ out.1 in
        subst (λ k. Changes c l k l) (sym is) (call_refused 17 (tested ∙ ap (λ t. need refused t 17 rest) out.0))

    -- an accepted call
    pub call_made : (m : List ℕ) → answer c.desk (book_readings (book_in l)) c.act ≡ accepted → Leaves l m (changed (book_in l) c.act) → Changes c l 0 m
    unfolding is_image
    call_made m e w =
        record {
          no_book_lem = λ h. never (cc);
          answers = λ h r. sym (ap number_of (answered_by (book_in l) c ∙ e));
          leaves = λ h r. w.book r ∙ sym (made (book_in l) c accepted e refl);
          untouched = λ h. absurd (h refl);
          remains = ap₂ (λ n k. eqb n word_count && eqb k mark) w.size w.marked;
          stays_canonical = w.canonical;
        }
