-- What TRIAL tells of an image: a refusal, or the codes that fall, place by place.
-- Assumes nothing.
use mathlib.Core.Path.{◌≡◌, refl, sym, ◌∙◌, ap, ap₂, subst}
use mathlib.Core.Bool.{Bool, cond}
use mathlib.Core.List.{List, map}
use mathlib.Core.Logic.{◌≢◌}
use mathlib.Core.Option.{Option, none, some}
use Prim.Native.Nat.{ℕ, suc, ◌<◌}
use lib.Dec.{eqb}
use lib.ListN.{get_or}
use borrow.Author.Tests.{eqb-true, ne_eqb}
use Rattle.laws.proofs.Never.{never}
use Rattle.benchmark.specs.declared.Benchmarks.{Benchmarks}
use Rattle.benchmark.specs.Benchmark.{set_check}
use Rattle.tariff.specs.Tariff.{all_fourteen}
use Rattle.book.specs.declared.Place.{Place}
use Rattle.book.specs.Calls.{Sheet, SET, by, refusal_number}
use Rattle.book.specs.Checks.{figures_of}
use Rattle.book.specs.Book.{beyond, under, step}
use Rattle.book.proofs.Places.{at_map}
use Rattle.book.proofs.Steps.{answered_by}
use Rattle.queries.specs.Queries.{Telling, refused, falling}
use Rattle.trial.specs.Trial.{falls, codes_where, told_unless, trial_of}
use Rattle.trial.specs.Places.{fell, fell_from}
use Rattle.trial.proofs.Trials.{trial_told}
use Rattle.image.specs.Layout.{start_of}
use Rattle.image.specs.Image.{place_at, places_in, book_in}
use Rattle.image.specs.Changing.{number_if}
use Rattle.image.proofs.Places.{place_there}
use Rattle.image_sheets.specs.Stages.{Refuses}
use Rattle.image_sheets.specs.Telling.{Tells}

-- a place and the same judged, at the index of a code
pub fell_there : (l : List ℕ) (f : Benchmarks) (i at : ℕ) (p q : Place) → i < 32 → at ≡ start_of i → p ≡ place_at l at → q ≡ under f p
    → fell p q ≡ fell_from (places_in l) (map (under f) (places_in l)) (suc i)
fell_there l f i at p q h e g k =
    let was : p ≡ get_or (places_in l) i beyond = g ∙ ap (place_at l) e ∙ sym (place_there l i h) in
    ap₂ fell was (k ∙ ap (under f) was ∙ sym (at_map f (places_in l) (suc i)))

-- the codes whose tariffs fall under a sheet with these figures
abbrev pub falls_at : List ℕ → Benchmarks → ℕ → Bool
falls_at l f = fell_from (places_in l) (map (under f) (places_in l))

-- a number that is not 0 is told as a refusal
told : (o : Option ℕ) (r : ℕ) (t : Telling) → r ≢ 0 → r ≡ number_if o → cond (eqb r 0) (falling 0) (refused r) ≡ told_unless o t
told none r t z e = absurd (z e)
told (some n) r t z e = rw (ne_eqb r 0 z) (ap refused e)

module _ (l : List ℕ) (desk : ℕ) (s : Sheet) (r : ℕ) (w : Refuses l desk (set_check s.fields s.period) r) where
  pub tells_refusal : r ≢ 0 → Tells l desk s (record { refusal = r; codes = 0 })
  unfolding trial_of
  tells_refusal z =
      record {
        no_book_lem = w.no_book_lem;
        tells = λ h from. told (refusal_number (step (book_in l) (by desk (SET s))).answer) r (falling (codes_where (falls (book_in l) (step (book_in l) (by desk (SET s))).book))) z (w.answers h from ∙ sym (ap (λ a. number_if (refusal_number a)) (answered_by (book_in l) (by desk (SET s)))));
        no_codes = λ h. refl;
      }

  pub tells_falling : r ≡ 0 → (codes : ℕ) → codes ≡ codes_where (fell_from (places_in l) (map (under (figures_of s)) (places_in l)))
      → Tells l desk s (record { refusal = 0; codes = codes })
  unfolding book_in
  tells_falling e codes q =
      record {
        no_book_lem = λ h. (let one = w.image e in never (cc));
        tells = λ h from.
            ap falling q
            ∙ sym (subst (λ d. trial_of (book_in l) d s ≡ falling (codes_where (fell_from (places_in l) (map (under (figures_of s)) (places_in l))))) (sym (eqb-true desk all_fourteen (w.full e)))
            (trial_told (book_in l) s (w.passes e) _ refl));
        no_codes = λ h. absurd (h refl);
      }
