-- The words after UNDO: the states, the sheet, its figures, and nothing kept.
-- Assumes nothing.
use mathlib.Core.Path.{◌≡◌, refl, ◌∙◌, ap, ap₂, subst}
use mathlib.Core.Bool.{Bool, true}
use mathlib.Core.List.{List}
use mathlib.Core.Logic.{inl, inr}
use Prim.Native.Nat.{ℕ, ◌+◌, ◌-◌, ◌≤◌, ◌<◌}
use native.Mathlib.Omega.{arith}
use Rattle.refusal.specs.Checks.{need}
use Rattle.sheet.specs.Sheet.{field_count}
use Rattle.benchmark.specs.declared.Benchmarks.{Benchmarks}
use Rattle.benchmark.specs.Benchmark.{benchmarks_of, set_check}
use Rattle.figures.specs.Working.{worked_if}
use Rattle.desks.specs.Desks.{is_full}
use Rattle.book.specs.Calls.{accepted, refused}
use Rattle.book.specs.Checks.{undo_answer}
use Rattle.book.specs.Book.{restored, Reachable}
use Rattle.stands.proofs.Kept.{reachable_stands}
use Rattle.undo.proofs.Figures.{figures_worked}
use Rattle.image.specs.Layout.{loaded_at, fields_at, kept_at, kept_loaded_at, kept_fields_at, kept_period_at, kept_states_at, kept_words, places_at, place_words, start_of}
use Rattle.image.specs.Image.{word, words, flag_of, period_in, kept_in, book_in, Canonical}
use Rattle.image.specs.Changing.{Written}
use Rattle.image_sheets.specs.Stages.{sheet_words, StatesWritten, FiguresWritten, Leaves}
use Rattle.image_sheets.proofs.States.{states_apart, state_apart, place_in_state, places_back}
use Rattle.image_sheets.proofs.Parts.{words_copied, figures_alike, zeros_kept}

-- whether something is kept
pub kept_flag : (l : List ℕ) → (book_in l).kept.any ≡ flag_of (word l kept_at)
unfolding book_in kept_in
kept_flag l = refl

-- UNDO's answer to a desk with all fourteen regions
pub undo_answer_lem : (desk : ℕ) (any t : Bool) → is_full desk ≡ true → any ≡ t → undo_answer desk any ≡ need refused t 15 accepted
undo_answer_lem desk any t full e = ap₂ (λ q u. need refused q 17 (need refused u 15 accepted)) full e

module _ (l a b c d : List ℕ) (f : Benchmarks) (states : StatesWritten l a 32 (λ i. word l (kept_states_at + i)))
    (sheet : Written a b loaded_at sheet_words (λ j. word a (kept_loaded_at + j))) (figures : FiguresWritten b c f) (gone : Written c d kept_at kept_words (λ j. 0)) where
  -- each word of the image
  sheet_word : (j : ℕ) → j < sheet_words → word d (loaded_at + j) ≡ word l (kept_loaded_at + j)
  sheet_word j h =
      gone.outside (loaded_at + j) (inl (omega arith)) ∙ figures.outside (loaded_at + j) (inl (omega arith)) ∙ sheet.inside j h
      ∙ states_apart states (kept_loaded_at + j) (omega arith)

  field_word : (j : ℕ) → j < field_count → word d (fields_at + j) ≡ word l (kept_fields_at + j)
  field_word j h =
      let to : fields_at + j ≡ loaded_at + (1 + j) = omega arith in
      let from : kept_loaded_at + (1 + j) ≡ kept_fields_at + j = omega arith in
      ap (word d) to ∙ sheet_word (1 + j) (omega arith) ∙ ap (word l) from

  kept_word : (j : ℕ) → kept_at ≤ j → j < places_at → word d j ≡ 0
  kept_word j h k =
      let e : kept_at + (j - kept_at) ≡ j = omega arith in subst (λ n. word d n ≡ 0) e (gone.inside (j - kept_at) (omega arith))

  place_word : (j : ℕ) → places_at ≤ j → word d j ≡ word a j
  place_word j h = gone.outside j (inr (omega arith)) ∙ figures.outside j (inr (omega arith)) ∙ sheet.outside j (inr (omega arith))

  state_word : (i : ℕ) → i < 32 → word d (start_of i) ≡ word l (kept_states_at + i)
  state_word i h = place_word (start_of i) (omega arith) ∙ states.inside i h

  other_word : (i j : ℕ) → start_of i < j → j < start_of i + place_words → word d j ≡ word l j
  other_word i j g h = place_word j (omega arith) ∙ state_apart states i j g h

  stays : Canonical l → Canonical d
  stays h =
      record {
        loaded = omega (arith, sheet_word 0 (omega arith), h.kept_loaded);
        kept = omega (arith, kept_word kept_at (omega arith) (omega arith));
        kept_loaded = omega (arith, kept_word kept_loaded_at (omega arith) (omega arith));
        kept_states = λ i k. omega (arith, kept_word (kept_states_at + i) (omega arith) (omega arith));
        states = λ i k. omega (arith, state_word i k, h.kept_states i k);
        directions = λ i k. omega (arith, other_word i (start_of i + 1) (omega arith) (omega arith), h.directions i k);
      }

  -- what is kept of a reachable book is one that stands, so the figures worked out are those of its sheet
  module _ (worked : f ≡ worked_if (set_check (words kept_fields_at field_count l) (period_in l kept_period_at)) (benchmarks_of (words kept_fields_at field_count l) (period_in l kept_period_at)))
      (any : (book_in l).kept.any ≡ true) where
    book_back : Reachable (book_in l) → book_in d ≡ restored (book_in l)
    unfolding book_in kept_in
    book_back r =
        λ i. record {
          loaded = ap flag_of (sheet_word 0 (omega arith)) i;
          fields = words_copied fields_at kept_fields_at field_count l d field_word i;
          period = record {
            year = sheet_word 97 (omega arith) i;
            month = sheet_word 98 (omega arith) i;
            months = sheet_word 99 (omega arith) i;
          };
          benchmarks = (figures_alike c d (λ j g h. gone.outside j (inl h)) ∙ figures.figures ∙ worked ∙ figures_worked (restored (book_in l)) ((reachable_stands (book_in l) r).step_kept any).0) i;
          places = places_back l d (λ j h. place_in_state l d (start_of j) (word l (kept_states_at + j)) (state_word j h) (other_word j)) i;
          kept = zeros_kept d kept_word i;
        }

    pub taken_back : Leaves l d (restored (book_in l))
    taken_back =
        record {
          size = gone.size ∙ figures.size ∙ sheet.size ∙ states.size;
          marked = gone.outside 0 (inl (omega arith)) ∙ figures.outside 0 (inl (omega arith)) ∙ sheet.outside 0 (inl (omega arith)) ∙ states_apart states 0 (omega arith);
          book = book_back;
          canonical = stays;
        }
