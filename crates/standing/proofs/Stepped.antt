-- A book that SET made of the one that is kept: it is enough to compare the states of the places.
-- Assumes nothing.
use mathlib.Core.Path.{◌≡◌, refl, sym, ◌∙◌, ap, ap₂}
use mathlib.Core.Bool.{true}
use mathlib.Core.List.{List, [], ◌∷◌, map, zip_with}
use native.Mathlib.Omega.{arith}
use lib.ListN.{length}
use Rattle.benchmark.specs.declared.Benchmarks.{Benchmarks}
use Rattle.book.specs.declared.State.{State}
use Rattle.book.specs.declared.State.TheVariants.{Empty}
use Rattle.book.specs.declared.Place.{Place}
use Rattle.book.specs.declared.Stood.{Stood}
use Rattle.book.specs.declared.Book.{Book}
use Rattle.book.specs.Calls.{SET}
use Rattle.book.specs.Book.{tariff_in, place_with, with_state, stood_as, sheet_in, under, restored, changed}
use Rattle.stands.specs.Stands.{Fits}

abbrev states : List Place → List Stood
states ps = map (λ p. stood_as p.state) ps

abbrev stood_in : List Stood → List Place → List Place
stood_in ss ps = zip_with (λ s. with_state s.state) ss ps

-- the states that the places are put in are those that they have then
states_put : (ss : List Stood) (ps : List Place) → length ss ≡ length ps → states (stood_in ss ps) ≡ ss
unfolding zip_with
states_put [] [] l = refl
states_put [] (p ∷ ps) l = absurd (omega arith)
states_put (s ∷ ss) [] l = absurd (omega arith)
states_put (s ∷ ss) (p ∷ ps) l = ap (◌∷◌ s) (states_put ss ps (omega arith))

-- a sheet changes the states alone
head_state : List Stood → State
head_state [] = Empty
head_state (s ∷ ss) = s.state

rest_states : List Stood → List Stood
rest_states [] = []
rest_states (s ∷ ss) = ss

by_states : (f : Benchmarks) (ss : List Stood) (ps : List Place) → length ss ≡ length ps
    → states (map (under f) (stood_in ss ps)) ≡ states ps → map (under f) (stood_in ss ps) ≡ ps
unfolding zip_with head_state rest_states
by_states f [] [] l e = refl
by_states f [] (p ∷ ps) l e = absurd (omega arith)
by_states f (s ∷ ss) [] l e = absurd (omega arith)
by_states f (s ∷ ss) (p ∷ ps) l e =
    ap₂ ◌∷◌ (ap (λ (q : State). place_with q p.directed (tariff_in p)) (ap head_state e)) (by_states f ss ps (omega arith) (ap rest_states e))

module _ (b : Book) (fits : Fits b) (any : b.kept.any ≡ true) (loaded : b.loaded ≡ true) (size : length b.kept.states ≡ 32) where
  long : length b.kept.states ≡ length b.places
  long = size ∙ sym fits.size

  abbrev judged : List Place
  judged = map (under b.benchmarks) (restored b).places

  -- the whole book after that SET, from the states of its places
  pub made_by_set : states judged ≡ states b.places → b ≡ changed (restored b) (SET (sheet_in b))
  made_by_set e =
      let figures = (fits.with_sheet loaded).1 in
      let places = ap (λ f. map (under f) (restored b).places) (sym figures) ∙ by_states b.benchmarks b.kept.states b.places long e in
      let back = states_put b.kept.states b.places long in
      λ i. record {
        loaded = loaded i;
        fields = b.fields;
        period = b.period;
        benchmarks = figures i;
        places = sym places i;
        kept = record { any = any i; loaded = b.kept.loaded; fields = b.kept.fields; period = b.kept.period; states = sym back i };
      }

  pub states_after_set : b ≡ changed (restored b) (SET (sheet_in b)) → states judged ≡ states b.places
  states_after_set e =
      let figures = (fits.with_sheet loaded).1 in
      ap states (ap (λ f. map (under f) (restored b).places) figures ∙ sym (ap (λ d. d.places) e))
