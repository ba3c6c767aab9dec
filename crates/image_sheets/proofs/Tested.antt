-- What SET and TRIAL test first: each way in which the tests end, and what SET answers by them.
-- Assumes nothing.
use mathlib.Core.Path.{◌≡◌, refl, sym, ◌∙◌, ap, ap₂}
use mathlib.Core.Bool.{Bool, true, false}
use mathlib.Core.List.{List}
use mathlib.Core.Logic.{◌≢◌}
use Prim.Native.Nat.{ℕ}
use native.Mathlib.Omega.{arith}
use lib.Dec.{eqb}
use lib.ListN.{length}
use Rattle.laws.proofs.Never.{never}
use Rattle.refusal.specs.declared.Check.{Check}
use Rattle.refusal.specs.declared.Check.TheVariants.{Pass, Refuse}
use Rattle.refusal.specs.Checks.{unless, checked, need}
use Rattle.calendar.specs.declared.Period.{Period}
use Rattle.calendar.specs.Calendar.{period_in_range}
use Rattle.sheet.specs.Sheet.{field_count, fields_in_range, terms_fit}
use Rattle.benchmark.specs.declared.Benchmarks.{Benchmarks}
use Rattle.benchmark.specs.Benchmark.{figures, ocs_fit, ordered, benchmarks_of, set_check}
use Rattle.figures.specs.Working.{worked_if}
use Rattle.desks.specs.Desks.{is_full}
use Rattle.book.specs.Calls.{Sheet, SET, by, Answer, accepted, cells, refused, over, is_accepted}
use Rattle.book.specs.Checks.{set_answer}
use Rattle.book.specs.Book.{changed}
use Rattle.book.proofs.Steps.{answered_by, unchanged}
use Rattle.image.specs.Image.{book_in, is_image}
use Rattle.image.specs.Changing.{no_book, number_of, Changes}
use Rattle.image_tests.proofs.Reachable.{holds_there}
use Rattle.image_sheets.specs.Stages.{AllValid, Refuses, Leaves}
use Rattle.image_sheets.proofs.Calls.{call_made}

-- no refusal of a sheet has number 0
numbered : (t : Bool) (k n : ℕ) (next : Check) → k ≢ 0 → (next ≡ Refuse n → n ≢ 0) → unless t k next ≡ Refuse n → n ≢ 0
numbered true k n next z h e = h e
numbered false k n next z h e = λ q. let s : k ≡ n = cc in z (s ∙ q)

pub sheet_refusal : (s : List ℕ) (p : Period) (n : ℕ) → set_check s p ≡ Refuse n → n ≢ 0
unfolding set_check
sheet_refusal s p n =
    numbered (eqb (length s) field_count) 1 n _ (λ q. omega arith) (numbered (fields_in_range s) 2 n _ (λ q. omega arith) (numbered (period_in_range p) 3 n _ (λ q. omega arith)
    (numbered (terms_fit s) 4 n _ (λ q. omega arith) (numbered (ocs_fit s) 14 n _ (λ q. omega arith) (numbered (ordered (figures s)) 5 n Pass (λ q. omega arith) (λ e. never (cc)))))))

-- the figures worked out of a sheet that passes are its own
pub figures_passed : (s : List ℕ) (p : Period) (f : Benchmarks) → f ≡ worked_if (set_check s p) (benchmarks_of s p) → set_check s p ≡ Pass → f ≡ benchmarks_of s p
figures_passed s p f e h = e ∙ ap (λ k. worked_if k (benchmarks_of s p)) h

module _ (l : List ℕ) (desk : ℕ) (check : Check) where
  -- an end with a number that is not 0; every place of an image that holds a book is valid
  abbrev Answers : ℕ → Type 0
  Answers r = is_image l ≡ true → AllValid l → r ≡ number_of (need refused (is_full desk) 17 (checked refused check accepted))

  refuses : (r : ℕ) → r ≢ 0 → (is_image l ≡ false → r ≡ no_book) → Answers r → Refuses l desk check r
  refuses r z n a =
      record {
        no_book_lem = n;
        answers = λ e from. a e (holds_there l from);
        image = λ e. absurd (z e);
        full = λ e. absurd (z e);
        passes = λ e. absurd (z e);
        valid = λ e. absurd (z e);
      }

  pub ends_no_image : is_image l ≡ false → Refuses l desk check no_book
  ends_no_image e = refuses no_book (λ q. omega arith) (λ h. refl) (λ h v. never (cc))

  module _ (image : is_image l ≡ true) where
    pub ends_outside : (r : ℕ) → r ≡ 17 → is_full desk ≡ false → Refuses l desk check r
    ends_outside r e out =
        refuses r (λ q. omega arith) (λ h. never (cc)) (λ h v. e ∙ sym (ap (λ t. number_of (need refused t 17 (checked refused check accepted))) out))

    module _ (full : is_full desk ≡ true) where
      answered : (c : Check) → check ≡ c → number_of (checked refused c accepted) ≡ number_of (need refused (is_full desk) 17 (checked refused check accepted))
      answered c e = sym (ap₂ (λ t k. number_of (need refused t 17 (checked refused k accepted))) full e)

      pub ends_refused : (r n : ℕ) → r ≡ n → n ≢ 0 → check ≡ Refuse n → Refuses l desk check r
      ends_refused r n e z f = refuses r (λ q. z (sym e ∙ q)) (λ h. never (cc)) (λ h v. e ∙ answered (Refuse n) f)

      pub ends_invalid : (AllValid l → ⊥) → Refuses l desk check no_book
      ends_invalid n = refuses no_book (λ q. omega arith) (λ h. refl) (λ h v. absurd (n v))

      pub ends_passed : check ≡ Pass → AllValid l → Refuses l desk check 0
      ends_passed f v =
          record {
            no_book_lem = λ h. never (cc);
            answers = λ h from. answered Pass f;
            image = λ e. image;
            full = λ e. full;
            passes = λ e. f;
            valid = λ e. v;
          }

-- an answer with a number is no acceptance
not_accepted : (a : Answer) → number_of a ≢ 0 → is_accepted a ≡ false
not_accepted accepted h = absurd (h refl)
not_accepted (cells n) h = absurd (h refl)
not_accepted (refused n) h = refl
not_accepted (over c months e) h = refl

-- so SET is refused, or made
module _ (l : List ℕ) (desk : ℕ) (s : Sheet) (r : ℕ) (w : Refuses l desk (set_check s.fields s.period) r) where
  pub set_refused : r ≢ 0 → Changes (by desk (SET s)) l r l
  set_refused z =
      record {
        no_book_lem = w.no_book_lem;
        answers = λ h from. w.answers h from ∙ sym (ap number_of (answered_by (book_in l) (by desk (SET s))));
        leaves = λ h from. sym (unchanged (book_in l) (by desk (SET s)) (set_answer desk s) refl (not_accepted (set_answer desk s) (λ q. z (w.answers h from ∙ q))));
        untouched = λ h. refl;
        remains = refl;
        stays_canonical = λ h. h;
      }

  pub set_made : (m : List ℕ) → r ≡ 0 → Leaves l m (changed (book_in l) (SET s)) → Changes (by desk (SET s)) l 0 m
  set_made m e g =
      call_made (by desk (SET s)) l (w.image e) m (ap₂ (λ t k. need refused t 17 (checked refused k accepted)) (w.full e) (w.passes e)) g
