-- What TRIAL answers, by SET's checks and the places judged.
-- Assumes nothing.
use mathlib.Core.Path.{◌≡◌, refl, sym, ◌∙◌, ap, ap₂}
use mathlib.Core.Bool.{false}
use mathlib.Core.List.{List, map}
use mathlib.Core.Option.{Option, some}
use Prim.Native.Nat.{ℕ}
use Rattle.refusal.specs.declared.Check.{Check}
use Rattle.refusal.specs.declared.Check.TheVariants.{Pass, Refuse}
use Rattle.refusal.specs.Checks.{checked, need}
use Rattle.benchmark.specs.Benchmark.{set_check}
use Rattle.tariff.specs.Tariff.{all_fourteen}
use Rattle.desks.specs.Desks.{is_full}
use Rattle.book.specs.declared.Place.{Place}
use Rattle.book.specs.declared.Book.{Book}
use Rattle.book.specs.Calls.{Sheet, SET, by, call, Answer, accepted, refusal_number}
use Rattle.book.specs.Calls as calls
use Rattle.book.specs.Checks.{figures_of, answer}
use Rattle.book.specs.Book.{book_readings, under}
use Rattle.book.proofs.Steps.{answered_by, made}
use Rattle.queries.specs.Queries.{Telling, refused, falling}
use Rattle.trial.specs.Trial.{falls, codes_where, told_unless, trial_of}
use Rattle.trial.specs.Places.{fell_from}

-- a refusal is told, whatever else there would be to tell
told_refused : (o : Option ℕ) (n : ℕ) (t : Telling) → o ≡ some n → told_unless o t ≡ refused n
told_refused o n t e = ap (λ q. told_unless q t) e

module _ (b : Book) (s : Sheet) where
  abbrev checks_of : Check → Answer
  checks_of c = checked calls.refused c accepted

  -- 17, of any desk but the one with all fourteen
  pub trial_outside : (desk : ℕ) → is_full desk ≡ false → trial_of b desk s ≡ refused 17
  unfolding trial_of
  trial_outside desk e =
      told_refused _ 17 _ (ap refusal_number (answered_by b (by desk (SET s)) ∙ ap (λ t. need calls.refused t 17 (checks_of (set_check s.fields s.period))) e))

  -- for that one, SET's own checks
  pub trial_refused : (n : ℕ) → set_check s.fields s.period ≡ Refuse n → trial_of b all_fourteen s ≡ refused n
  unfolding trial_of
  trial_refused n e = told_refused _ n _ (ap refusal_number (answered_by b (call (SET s)) ∙ ap checks_of e))

  pub trial_told : set_check s.fields s.period ≡ Pass → (after : List Place) → after ≡ map (under (figures_of s)) b.places
      → trial_of b all_fourteen s ≡ falling (codes_where (fell_from b.places after))
  unfolding trial_of
  trial_told e after p =
      let a : answer all_fourteen (book_readings b) (SET s) ≡ accepted = ap checks_of e in
      ap₂ (λ q d. told_unless (refusal_number q) (falling (codes_where (falls b d))))
      (answered_by b (call (SET s)) ∙ a) (made b (call (SET s)) accepted a refl)
      ∙ ap (λ ps. falling (codes_where (fell_from b.places ps))) (sym p)
