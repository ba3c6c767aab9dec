-- The words after SET: the step kept, the places judged, and the sheet.
-- Assumes nothing.
use mathlib.Core.Path.{◌≡◌, sym, ◌∙◌, ap}
use mathlib.Core.List.{List, map}
use mathlib.Core.Logic.{inl, inr}
use Prim.Native.Nat.{ℕ, ◌+◌, ◌≤◌, ◌<◌}
use native.Mathlib.Omega.{arith}
use Rattle.laws.proofs.Filled.{map_filled}
use Rattle.sheet.specs.Sheet.{field_count}
use Rattle.benchmark.specs.declared.Benchmarks.{Benchmarks}
use Rattle.book.specs.declared.State.{State}
use Rattle.book.specs.declared.Place.{Place}
use Rattle.book.specs.Calls.{Sheet, SET}
use Rattle.book.specs.Checks.{figures_of}
use Rattle.book.specs.Book.{beyond, stood_as, with_state, under, kept_of, changed}
use Rattle.image.specs.Layout.{loaded_at, fields_at, kept_at, kept_loaded_at, kept_fields_at, kept_states_at, places_at, place_words, start_of}
use Rattle.image.specs.Image.{word, state_number, state_of, flag_of, place_at, places_in, states_in, kept_in, book_in, Canonical}
use Rattle.image.proofs.Places.{length_places, place_there, place_alike}
use Rattle.image_sheets.specs.Stages.{sheet_words, StatesWritten, SheetWritten, StepKept, Leaves}
use Rattle.image_sheets.proofs.States.{states_apart, state_apart, place_state, state_back, state_most, place_in_state, length_states, state_there}
use Rattle.image_sheets.proofs.Parts.{words_copied}

module _ (l a b d : List ℕ) (s : Sheet) (f : Benchmarks) (kept : StepKept l a)
    (judged : StatesWritten a b 32 (λ i. state_number (under f (place_at a (start_of i))).state)) (sheet : SheetWritten b d s f) where
  -- each word of the image
  kept_word : (j : ℕ) → kept_at ≤ j → j < places_at → word d j ≡ word a j
  kept_word j h k = sheet.outside j (inr h) ∙ states_apart judged j k

  kept_sheet_word : (j : ℕ) → j < sheet_words → word d (kept_loaded_at + j) ≡ word l (loaded_at + j)
  kept_sheet_word j h = kept_word (kept_loaded_at + j) (omega arith) (omega arith) ∙ kept.sheet j h

  kept_field_word : (j : ℕ) → j < field_count → word d (kept_fields_at + j) ≡ word l (fields_at + j)
  kept_field_word j h =
      let to : kept_fields_at + j ≡ kept_loaded_at + (1 + j) = omega arith in
      let from : loaded_at + (1 + j) ≡ fields_at + j = omega arith in
      ap (word d) to ∙ kept_sheet_word (1 + j) (omega arith) ∙ ap (word l) from

  kept_state_word : (i : ℕ) → i < 32 → word d (kept_states_at + i) ≡ word l (start_of i)
  kept_state_word i h = kept_word (kept_states_at + i) (omega arith) (omega arith) ∙ kept.states i h

  state_word : (i : ℕ) → i < 32 → word d (start_of i) ≡ state_number (under f (place_at l (start_of i))).state
  state_word i h =
      sheet.outside (start_of i) (inr (omega arith)) ∙ judged.inside i h
      ∙ ap (λ p. state_number (under f p).state) (place_alike l a (start_of i) (λ j g q. kept.outside j (inr (omega arith))))

  other_word : (i j : ℕ) → start_of i < j → j < start_of i + place_words → word d j ≡ word l j
  other_word i j g h = sheet.outside j (inr (omega arith)) ∙ state_apart judged i j g h ∙ kept.outside j (inr (omega arith))

  stays : Canonical l → Canonical d
  stays h =
      record {
        loaded = omega (arith, sheet.loaded);
        kept = omega (arith, kept_word kept_at (omega arith) (omega arith), kept.any);
        kept_loaded = omega (arith, kept_sheet_word 0 (omega arith), h.loaded);
        kept_states = λ i k. omega (arith, kept_state_word i k, h.states i k);
        states = λ i k. omega (arith, state_word i k, state_most (under f (place_at l (start_of i))).state);
        directions = λ i k. omega (arith, other_word i (start_of i + 1) (omega arith) (omega arith), h.directions i k);
      }

  -- the places judged, and the states that they had
  place_judged : (i : ℕ) → i < 32 → place_at d (start_of i) ≡ under f (place_at l (start_of i))
  place_judged i h =
      place_in_state l d (start_of i) _ (state_word i h) (other_word i)
      ∙ ap (λ (q : State). with_state q (place_at l (start_of i))) (state_back (under f (place_at l (start_of i))).state)

  places_judged : places_in d ≡ map (under f) (places_in l)
  places_judged =
      map_filled (under f) beyond (places_in l) (places_in d) (length_places d ∙ sym (length_places l))
      (λ j k.
      let g : j < 32 = omega (arith, length_places l) in
      place_there d j g ∙ place_judged j g ∙ sym (ap (under f) (place_there l j g)))

  states_kept : states_in d ≡ map (λ p. stood_as p.state) (places_in l)
  states_kept =
      map_filled (λ (p : Place). stood_as p.state) beyond (places_in l) (states_in d) (length_states d ∙ sym (length_places l))
      (λ j k.
      let g : j < 32 = omega (arith, length_places l) in
      state_there d j g
      ∙ ap (λ n. stood_as (state_of n)) (kept_state_word j g)
      ∙ sym (ap (λ (p : Place). stood_as p.state) (place_there l j g) ∙ ap stood_as (place_state l (start_of j))))

  all_kept : kept_in d ≡ kept_of (book_in l)
  unfolding kept_in book_in
  all_kept =
      λ i. record {
        any = ap flag_of (kept_word kept_at (omega arith) (omega arith) ∙ kept.any) i;
        loaded = ap flag_of (kept_sheet_word 0 (omega arith)) i;
        fields = words_copied kept_fields_at fields_at field_count l d kept_field_word i;
        period = record {
          year = kept_sheet_word 97 (omega arith) i;
          month = kept_sheet_word 98 (omega arith) i;
          months = kept_sheet_word 99 (omega arith) i;
        };
        states = states_kept i;
      }

  module _ (its : f ≡ figures_of s) where
    book_set : book_in d ≡ changed (book_in l) (SET s)
    unfolding book_in
    book_set =
        λ i. record {
          loaded = ap flag_of sheet.loaded i;
          fields = sheet.fields i;
          period = sheet.period i;
          benchmarks = (sheet.figures ∙ its) i;
          places = (places_judged ∙ ap (λ g. map (under g) (places_in l)) its) i;
          kept = all_kept i;
        }

    pub replaced : Leaves l d (changed (book_in l) (SET s))
    replaced =
        record {
          size = sheet.size ∙ judged.size ∙ kept.size;
          marked = sheet.outside 0 (inl (omega arith)) ∙ states_apart judged 0 (omega arith) ∙ kept.outside 0 (inl (omega arith));
          book = λ r. book_set;
          canonical = stays;
        }
