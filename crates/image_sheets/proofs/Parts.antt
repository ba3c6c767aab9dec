-- Parts of an image after words were written: a part copied from another, a sheet and its figures, and what is kept for UNDO, or nothing.
-- Assumes nothing.
use mathlib.Core.Path.{◌≡◌, sym, ◌∙◌, ap}
use mathlib.Core.List.{List, [], ◌∷◌, map}
use mathlib.Core.Logic.{inl, inr}
use Prim.Native.Nat.{ℕ, ◌+◌, ◌≤◌, ◌<◌}
use native.Mathlib.Omega.{arith}
use lib.ListN.{length, replicate, length-replicate}
use Rattle.laws.proofs.Lists.{noughts}
use Rattle.sheet.specs.Sheet.{field_count}
use Rattle.benchmark.specs.declared.Benchmarks.{Benchmarks}
use Rattle.book.specs.Calls.{Sheet}
use Rattle.book.specs.Book.{nothing_kept, stood_as}
use Rattle.image.specs.Layout.{loaded_at, fields_at, period_at, charges_at, levels_at, peak_at, months_at, days_at, kept_at, kept_loaded_at, kept_fields_at, kept_period_at, kept_states_at, places_at, start_of}
use Rattle.image.specs.Image.{word, words, state_of, flag_of, figures_in, states_in, kept_in}
use Rattle.image.specs.Changing.{Written}
use Rattle.image.proofs.Reading.{length_words, word_at, are_words, words_alike}
use Rattle.image_sheets.specs.Stages.{sheet_words, FiguresWritten, SheetWritten, StepKept}

pub words_copied : (to from n : ℕ) (l m : List ℕ) → ((j : ℕ) → j < n → word m (to + j) ≡ word l (from + j)) → words to n m ≡ words from n l
words_copied to from n l m h =
    are_words to n m (words from n l) (length_words from n l) (λ j k. h j k ∙ sym (word_at from n l j k))

pub figures_alike : (l m : List ℕ) → ((j : ℕ) → charges_at ≤ j → j < kept_at → word m j ≡ word l j) → figures_in m ≡ figures_in l
unfolding figures_in
figures_alike l m h =
    λ i. record {
      charges = words_alike charges_at 112 l m (λ j a b. h j (omega arith) (omega arith)) i;
      levels = words_alike levels_at 2 l m (λ j a b. h j (omega arith) (omega arith)) i;
      peak = h peak_at (omega arith) (omega arith) i;
      months = h months_at (omega arith) (omega arith) i;
      days = h days_at (omega arith) (omega arith) i;
    }

-- the charges, the levels and the three figures behind them, written one after another
pub figures_written : (l a b m : List ℕ) (f : Benchmarks) → length f.charges ≡ 112 → length f.levels ≡ 2
    → Written l a charges_at (length f.charges) (λ j. word f.charges j)
    → Written a b levels_at (length f.levels) (λ j. word f.levels j)
    → Written b m peak_at 3 (λ j. word (f.peak ∷ f.months ∷ f.days ∷ []) j) → FiguresWritten l m f
unfolding figures_in
figures_written l a b m f u v x y z =
    record {
      size = z.size ∙ y.size ∙ x.size;
      outside = λ j o. elim o [
        | inl h ↦ z.outside j (inl (omega arith)) ∙ y.outside j (inl (omega arith)) ∙ x.outside j (inl (omega arith))
        | inr h ↦ z.outside j (inr (omega arith)) ∙ y.outside j (inr (omega arith)) ∙ x.outside j (inr (omega arith))
      ];
      figures = λ i. record {
        charges = are_words charges_at 112 m f.charges u (λ j h. z.outside (charges_at + j) (inl (omega arith)) ∙ y.outside (charges_at + j) (inl (omega arith)) ∙ x.inside j (omega arith)) i;
        levels = are_words levels_at 2 m f.levels v (λ j h. z.outside (levels_at + j) (inl (omega arith)) ∙ y.inside j (omega arith)) i;
        peak = z.inside 0 (omega arith) i;
        months = z.inside 1 (omega arith) i;
        days = z.inside 2 (omega arith) i;
      };
    }

-- a sheet in force: its mark, its fields, its period and its figures
pub sheet_written : (l a b c m : List ℕ) (s : Sheet) (f : Benchmarks) → length s.fields ≡ field_count
    → Written l a loaded_at 1 (λ j. 1) → Written a b fields_at (length s.fields) (λ j. word s.fields j)
    → Written b c period_at 3 (λ j. word (s.period.year ∷ s.period.month ∷ s.period.months ∷ []) j) → FiguresWritten c m f
    → SheetWritten l m s f
sheet_written l a b c m s f u x y z w =
    record {
      size = w.size ∙ z.size ∙ y.size ∙ x.size;
      outside = λ j o. elim o [
        | inl h ↦ w.outside j (inl (omega arith)) ∙ z.outside j (inl (omega arith)) ∙ y.outside j (inl (omega arith)) ∙ x.outside j (inl (omega arith))
        | inr h ↦ w.outside j (inr (omega arith)) ∙ z.outside j (inr (omega arith)) ∙ y.outside j (inr (omega arith)) ∙ x.outside j (inr (omega arith))
      ];
      loaded =
          w.outside loaded_at (inl (omega arith)) ∙ z.outside loaded_at (inl (omega arith)) ∙ y.outside loaded_at (inl (omega arith)) ∙ x.inside 0 (omega arith);
      fields =
          are_words fields_at field_count m s.fields u
          (λ j h. w.outside (fields_at + j) (inl (omega arith)) ∙ z.outside (fields_at + j) (inl (omega arith)) ∙ y.inside j (omega arith));
      period = λ i. record {
        year = (w.outside period_at (inl (omega arith)) ∙ z.inside 0 (omega arith)) i;
        month = (w.outside (period_at + 1) (inl (omega arith)) ∙ z.inside 1 (omega arith)) i;
        months = (w.outside (period_at + 2) (inl (omega arith)) ∙ z.inside 2 (omega arith)) i;
      };
      figures = w.figures;
    }

-- what is kept for UNDO: its mark, the sheet and the states
pub step_kept : (l a b m : List ℕ) → Written l a kept_at 1 (λ j. 1) → Written a b kept_loaded_at sheet_words (λ j. word a (loaded_at + j))
    → Written b m kept_states_at 32 (λ i. word b (start_of i)) → StepKept l m
step_kept l a b m x y z =
    record {
      size = z.size ∙ y.size ∙ x.size;
      outside = λ j o. elim o [
        | inl h ↦ z.outside j (inl (omega arith)) ∙ y.outside j (inl (omega arith)) ∙ x.outside j (inl (omega arith))
        | inr h ↦ z.outside j (inr (omega arith)) ∙ y.outside j (inr (omega arith)) ∙ x.outside j (inr (omega arith))
      ];
      any = z.outside kept_at (inl (omega arith)) ∙ y.outside kept_at (inl (omega arith)) ∙ x.inside 0 (omega arith);
      sheet = λ j h. z.outside (kept_loaded_at + j) (inl (omega arith)) ∙ y.inside j h ∙ x.outside (loaded_at + j) (inl (omega arith));
      states = λ i h. z.inside i h ∙ y.outside (start_of i) (inr (omega arith)) ∙ x.outside (start_of i) (inr (omega arith));
    }

-- zeros are nothing kept
pub zeros_kept : (m : List ℕ) → ((j : ℕ) → kept_at ≤ j → j < places_at → word m j ≡ 0) → kept_in m ≡ nothing_kept
unfolding kept_in states_in
zeros_kept m h =
    λ i. record {
      any = ap flag_of (h kept_at (omega arith) (omega arith)) i;
      loaded = ap flag_of (h kept_loaded_at (omega arith) (omega arith)) i;
      fields = noughts_in kept_fields_at field_count (λ j k. h (kept_fields_at + j) (omega arith) (omega arith)) i;
      period = record {
        year = h kept_period_at (omega arith) (omega arith) i;
        month = h (kept_period_at + 1) (omega arith) (omega arith) i;
        months = h (kept_period_at + 2) (omega arith) (omega arith) i;
      };
      states = ap (map (λ n. stood_as (state_of n))) (noughts_in kept_states_at 32 (λ j k. h (kept_states_at + j) (omega arith) (omega arith))) i;
    }
  where
    noughts_in : (at n : ℕ) → ((j : ℕ) → j < n → word m (at + j) ≡ 0) → words at n m ≡ replicate n 0
    noughts_in at n g = are_words at n m (replicate n 0) (length-replicate n 0) (λ j k. g j k ∙ sym (noughts n j))
