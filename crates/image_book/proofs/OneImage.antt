-- No two images hold the same book: each word is read back from the book.
-- Assumes nothing.
use mathlib.Core.Path.{◌≡◌, refl, sym, ◌∙◌, ap}
use mathlib.Core.Bool.{Bool, true, cond}
use mathlib.Core.List.{List, ◌∷◌, ◌++◌}
use Prim.Native.Nat.{ℕ, zero, suc, ◌+◌, ◌-◌, ◌/◌, ◌%◌, ◌≤◌, ◌<◌}
use native.Mathlib.Decide.{dec_le}
use native.Mathlib.Omega.{arith}
use lib.Dec.{eqb}
use lib.ListN.{length, get_or, get_or-map}
use native.Mathlib.Nat.{add-zero}
use Rattle.book.specs.declared.Book.{Book}
use lib.Seq.{ext_get_or}
use borrow.Author.Tests.{eqb-true}
use Rattle.laws.specs.Notions.{tabulate, tabulate_from}
use Rattle.laws.proofs.Every.{and_right}
use Rattle.sheet.specs.Sheet.{field_count}
use Rattle.tariff.specs.declared.Tariff.{Tariff}
use Rattle.tariff.specs.Tariff.{tariff_of, record_length}
use Rattle.book.specs.declared.Place.{Place}
use Rattle.book.specs.declared.Stood.{Stood}
use Rattle.book.specs.declared.State.TheVariants.{Empty}
use Rattle.book.specs.Book.{beyond, tariff_in, stood_as}
use Rattle.image.specs.Layout.{word_count, mark, loaded_at, fields_at, period_at, charges_at, levels_at, peak_at, months_at, days_at, kept_at, kept_loaded_at, kept_fields_at, kept_period_at, kept_states_at, places_at, place_words, record_at, start_of}
use Rattle.image.specs.Image.{word, words, state_number, state_of, flag_of, place_at, figures_in, states_in, kept_in, book_in, is_image, Canonical}
use Rattle.image.proofs.Reading.{image_size, word_at}
use Rattle.image.proofs.Places.{place_there}
use Rattle.image_book.specs.OneImage.{OneImage}

-- a state and a yes or no, read back from what they stand for
state_back : (n : ℕ) → n ≤ 3 → state_number (state_of n) ≡ n
state_back zero h = refl
state_back (suc zero) h = refl
state_back (suc (suc zero)) h = refl
state_back (suc (suc (suc zero))) h = refl
state_back (suc (suc (suc (suc n)))) h = absurd (omega arith)

flag_back : (n : ℕ) → n ≤ 1 → cond (flag_of n) 1 0 ≡ n
flag_back zero h = refl
flag_back (suc zero) h = refl
flag_back (suc (suc n)) h = absurd (omega arith)

same_state : (a b : ℕ) → a ≤ 3 → b ≤ 3 → state_of a ≡ state_of b → a ≡ b
same_state a b h k e = sym (state_back a h) ∙ ap state_number e ∙ state_back b k

same_flag : (a b : ℕ) → a ≤ 1 → b ≤ 1 → flag_of a ≡ flag_of b → a ≡ b
same_flag a b h k e = sym (flag_back a h) ∙ ap (λ (f : Bool). cond f 1 0) e ∙ flag_back b k

-- a part that is the same
same_part : (at n : ℕ) (l m : List ℕ) → words at n l ≡ words at n m → (j : ℕ) → at ≤ j → j < at + n → word l j ≡ word m j
same_part at n l m e j h k =
    let d : at + (j - at) ≡ j = omega arith in
    let here : word l (at + (j - at)) ≡ word m (at + (j - at)) = sym (word_at at n l (j - at) (omega arith)) ∙ ap (λ x. word x (j - at)) e ∙ word_at at n m (j - at) (omega arith) in
    rw d at here

-- the numbers of a tariff, in the order of PUT
numbers_of : Tariff → List ℕ
numbers_of x = x.kind ∷ x.n ∷ x.standing ∷ x.regions ∷ x.methods ∷ (x.rates ++ (x.steps ++ x.regional))

record_back : (at : ℕ) (l : List ℕ) → numbers_of (tariff_of (words at record_length l)) ≡ words at record_length l
unfolding words tabulate tabulate_from numbers_of
record_back at l = refl

-- a place that is the same, word by word
module _ (l m : List ℕ) (at : ℕ) (e : place_at l at ≡ place_at m at) where
  place_state : state_of (word l at) ≡ state_of (word m at)
  unfolding place_at
  place_state = ap (λ (p : Place). p.state) e

  place_flag : flag_of (word l (at + 1)) ≡ flag_of (word m (at + 1))
  unfolding place_at
  place_flag = ap (λ (p : Place). p.directed) e

  place_record : words (at + record_at) record_length l ≡ words (at + record_at) record_length m
  unfolding place_at
  place_record =
      sym (record_back (at + record_at) l) ∙ ap (λ (p : Place). numbers_of (tariff_in p)) e ∙ record_back (at + record_at) m

module _ (l m : List ℕ) (is-l : is_image l ≡ true) (is_m : is_image m ≡ true) (p : Canonical l) (q : Canonical m) (e : book_in l ≡ book_in m) where
  marked : (x : List ℕ) → is_image x ≡ true → word x 0 ≡ mark
  unfolding is_image
  marked x h = eqb-true (word x 0) mark (and_right (eqb (length x) word_count) (eqb (word x 0) mark) h)

  -- the sheet in force and its figures
  loaded_same : word l loaded_at ≡ word m loaded_at
  unfolding book_in
  loaded_same = same_flag (word l loaded_at) (word m loaded_at) p.loaded q.loaded (ap (λ (b : Book). b.loaded) e)

  fields_same : words fields_at field_count l ≡ words fields_at field_count m
  unfolding book_in
  fields_same = ap (λ (b : Book). b.fields) e

  period_same : (word l period_at ≡ word m period_at) × (word l (period_at + 1) ≡ word m (period_at + 1)) × (word l (period_at + 2) ≡ word m (period_at + 2))
  unfolding book_in
  period_same = (ap (λ (b : Book). b.period.year) e, ap (λ (b : Book). b.period.month) e, ap (λ (b : Book). b.period.months) e)

  charges_same : words charges_at 112 l ≡ words charges_at 112 m
  unfolding book_in figures_in
  charges_same = ap (λ (b : Book). b.benchmarks.charges) e

  levels_same : words levels_at 2 l ≡ words levels_at 2 m
  unfolding book_in figures_in
  levels_same = ap (λ (b : Book). b.benchmarks.levels) e

  rest_same : (word l peak_at ≡ word m peak_at) × (word l months_at ≡ word m months_at) × (word l days_at ≡ word m days_at)
  unfolding book_in figures_in
  rest_same = (ap (λ (b : Book). b.benchmarks.peak) e, ap (λ (b : Book). b.benchmarks.months) e, ap (λ (b : Book). b.benchmarks.days) e)

  -- what is kept
  kept_same : (word l kept_at ≡ word m kept_at) × (word l kept_loaded_at ≡ word m kept_loaded_at)
  unfolding book_in kept_in
  kept_same =
      (same_flag (word l kept_at) (word m kept_at) p.kept q.kept (ap (λ (b : Book). b.kept.any) e), same_flag (word l kept_loaded_at) (word m kept_loaded_at) p.kept_loaded q.kept_loaded (ap (λ (b : Book). b.kept.loaded) e))

  kept_fields_same : words kept_fields_at field_count l ≡ words kept_fields_at field_count m
  unfolding book_in kept_in
  kept_fields_same = ap (λ (b : Book). b.kept.fields) e

  kept_period_same : (word l kept_period_at ≡ word m kept_period_at) × (word l (kept_period_at + 1) ≡ word m (kept_period_at + 1)) × (word l (kept_period_at + 2) ≡ word m (kept_period_at + 2))
  unfolding book_in kept_in
  kept_period_same = (ap (λ (b : Book). b.kept.period.year) e, ap (λ (b : Book). b.kept.period.month) e, ap (λ (b : Book). b.kept.period.months) e)

  state_kept : (x : List ℕ) (i : ℕ) → i < 32 → (get_or (states_in x) i (stood_as Empty)).state ≡ state_of (word x (kept_states_at + i))
  unfolding states_in
  state_kept x i h =
      ap (λ (s : Stood). s.state) (get_or-map (λ n. stood_as (state_of n)) (words kept_states_at 32 x) i 0) ∙ ap state_of (word_at kept_states_at 32 x i h)

  kept_states_same : (i : ℕ) → i < 32 → word l (kept_states_at + i) ≡ word m (kept_states_at + i)
  unfolding book_in kept_in
  kept_states_same i h =
      same_state (word l (kept_states_at + i)) (word m (kept_states_at + i)) (p.kept_states i h) (q.kept_states i h)
      (sym (state_kept l i h) ∙ ap (λ (b : Book). (get_or b.kept.states i (stood_as Empty)).state) e ∙ state_kept m i h)

  -- the places
  place_same : (i : ℕ) → i < 32 → place_at l (start_of i) ≡ place_at m (start_of i)
  unfolding book_in
  place_same i h = sym (place_there l i h) ∙ ap (λ (b : Book). get_or b.places i beyond) e ∙ place_there m i h

  in_place : (i d : ℕ) → i < 32 → d < place_words → word l (start_of i + d) ≡ word m (start_of i + d)
  in_place i zero h k = rw add-zero (same_state (word l (start_of i)) (word m (start_of i)) (p.states i h) (q.states i h) (place_state l m (start_of i) (place_same i h)))
  in_place i (suc zero) h k =
      same_flag (word l (start_of i + 1)) (word m (start_of i + 1)) (p.directions i h) (q.directions i h) (place_flag l m (start_of i) (place_same i h))
  in_place i (suc (suc d)) h k =
      same_part (start_of i + record_at) record_length l m (place_record l m (start_of i) (place_same i h)) (start_of i + suc (suc d)) (omega arith) (omega arith)

  in_places : (j : ℕ) → places_at ≤ j → j < word_count → word l j ≡ word m j
  in_places j h k =
      let i = (j - places_at) / place_words in
      let d = (j - places_at) % place_words in
      let there : start_of i + d ≡ j = omega arith in
      let same : word l (start_of i + d) ≡ word m (start_of i + d) = in_place i d (omega arith) (omega arith) in
      rw there at same

  at_one : (k j : ℕ) → word l k ≡ word m k → j ≡ k → word l j ≡ word m j
  at_one k j h g = ap (word l) g ∙ h ∙ sym (ap (word m) g)

  in_three : (at : ℕ) → (word l at ≡ word m at) × (word l (at + 1) ≡ word m (at + 1)) × (word l (at + 2) ≡ word m (at + 2))
      → (j : ℕ) → at ≤ j → j < at + 3 → word l j ≡ word m j
  in_three at s j h k =
      elim (dec_le (at + 2) j) [
        | yes a ↦ at_one (at + 2) j s.2 (omega arith)
        | no a ↦ elim (dec_le (at + 1) j) [
          | yes b ↦ at_one (at + 1) j s.1 (omega arith)
          | no b ↦ at_one at j s.0 (omega arith)
        ]
      ]

  -- the words before the places, from the last part to the first
  in_kept_states : (j : ℕ) → kept_states_at ≤ j → j < places_at → word l j ≡ word m j
  in_kept_states j h k =
      let there : kept_states_at + (j - kept_states_at) ≡ j = omega arith in
      at_one (kept_states_at + (j - kept_states_at)) j (kept_states_same (j - kept_states_at) (omega arith)) (sym there)

  in_kept : (j : ℕ) → kept_at ≤ j → j < kept_states_at → word l j ≡ word m j
  in_kept j h k =
      elim (dec_le kept_period_at j) [
        | yes a ↦ in_three kept_period_at kept_period_same j a (omega arith)
        | no a ↦ elim (dec_le kept_fields_at j) [
          | yes b ↦ same_part kept_fields_at field_count l m kept_fields_same j b (omega arith)
          | no b ↦ elim (dec_le kept_loaded_at j) [
            | yes c ↦ at_one kept_loaded_at j kept_same.1 (omega arith)
            | no c ↦ at_one kept_at j kept_same.0 (omega arith)
          ]
        ]
      ]

  in_figures : (j : ℕ) → charges_at ≤ j → j < kept_at → word l j ≡ word m j
  in_figures j h k =
      elim (dec_le peak_at j) [
        | yes a ↦ in_three peak_at rest_same j a (omega arith)
        | no a ↦ elim (dec_le levels_at j) [
          | yes b ↦ same_part levels_at 2 l m levels_same j b (omega arith)
          | no b ↦ same_part charges_at 112 l m charges_same j h (omega arith)
        ]
      ]

  in_sheet : (j : ℕ) → j < charges_at → word l j ≡ word m j
  in_sheet j h =
      elim (dec_le period_at j) [
        | yes a ↦ in_three period_at period_same j a (omega arith)
        | no a ↦ elim (dec_le fields_at j) [
          | yes b ↦ same_part fields_at field_count l m fields_same j b (omega arith)
          | no b ↦ elim (dec_le loaded_at j) [
            | yes c ↦ at_one loaded_at j loaded_same (omega arith)
            | no c ↦ at_one 0 j (marked l is-l ∙ sym (marked m is_m)) (omega arith)
          ]
        ]
      ]

  each : (j : ℕ) → j < word_count → word l j ≡ word m j
  each j h =
      elim (dec_le places_at j) [
        | yes a ↦ in_places j a h
        | no a ↦ elim (dec_le kept_states_at j) [
          | yes b ↦ in_kept_states j b (omega arith)
          | no b ↦ elim (dec_le kept_at j) [
            | yes c ↦ in_kept j c (omega arith)
            | no c ↦ elim (dec_le charges_at j) [
              | yes d ↦ in_figures j d (omega arith)
              | no d ↦ in_sheet j (omega arith)
            ]
          ]
        ]
      ]

  one : l ≡ m
  one = ext_get_or 0 l m (image_size l is-l ∙ sym (image_size m is_m)) (λ j h. each j (omega (arith, image_size l is-l)))

pub one_image : OneImage
one_image l m is-l is_m p q e = one l m is-l is_m p q e
