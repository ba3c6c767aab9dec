-- The states of the places, which a loop writes, one place a turn; and the places after it.
-- Assumes nothing.
use mathlib.Core.Path.{◌≡◌, refl, sym, ◌∙◌, ap₂}
use mathlib.Core.List.{List, zip_with}
use Prim.Native.Nat.{ℕ, ◌+◌, ◌≤◌, ◌<◌}
use native.Mathlib.Decide.{dec_le}
use native.Mathlib.Omega.{arith}
use lib.ListN.{length, get_or, set, length-set, length-map, get_or-map}
use lib.Seq.{get_or-set_same, get_or-set_other}
use Rattle.laws.proofs.Filled.{zip_filled}
use Rattle.book.specs.declared.State.{State}
use Rattle.book.specs.declared.State.TheVariants.{Empty, Draft, Marked, Open}
use Rattle.book.specs.declared.Stood.{Stood}
use Rattle.book.specs.Book.{beyond, stood_as, with_state}
use Rattle.image.specs.Layout.{kept_states_at, places_at, place_words, start_of}
use Rattle.image.specs.Image.{word, words, state_number, state_of, place_at, places_in, states_in}
use Rattle.image.proofs.Reading.{words_alike, length_words, word_at}
use Rattle.image.proofs.Places.{length_places, place_there, place_alike}
use Rattle.image_sheets.specs.Stages.{StatesWritten}

pub states_more : (l m : List ℕ) (i at v : ℕ) (x : ℕ → ℕ) → StatesWritten l m i x → at ≡ start_of i → at < length l → v ≡ x i
    → StatesWritten l (set m at v) (i + 1) x
states_more l m i at v x w e h q =
    record {
      size = length-set m at v ∙ w.size;
      outside = λ j o. get_or-set_other m at j v 0 (λ g. o i (omega arith) (g ∙ e)) ∙ w.outside j (λ k g. o k (omega arith));
      inside = λ k g. there k g;
    }
  where
    there : (k : ℕ) → k < i + 1 → word (set m at v) (start_of k) ≡ x k
    there k g =
        elim (dec_le i k) [
          | yes o ↦ (let s : k ≡ i = omega arith in rw (s, ← e) (get_or-set_same m at v 0 (omega (arith, w.size)) ∙ q))
          | no o ↦ get_or-set_other m at (start_of k) v 0 (λ s. omega arith) ∙ w.inside k (omega arith)
        ]

-- the words before the places stay
pub states_apart : {l m : List ℕ} {n : ℕ} {x : ℕ → ℕ} → StatesWritten l m n x → (j : ℕ) → j < places_at → word m j ≡ word l j
states_apart w j h = w.outside j (λ i g e. omega arith)

-- and so do those of a place behind its state
pub state_apart : {l m : List ℕ} {n : ℕ} {x : ℕ → ℕ} → StatesWritten l m n x → (i j : ℕ) → start_of i < j → j < start_of i + place_words
    → word m j ≡ word l j
state_apart w i j g h = w.outside j (λ k q e. omega arith)

-- the places that the loop has not come to
pub place_ahead : {l m : List ℕ} {n : ℕ} {x : ℕ → ℕ} → StatesWritten l m n x → (i : ℕ) → n ≤ i → place_at m (start_of i) ≡ place_at l (start_of i)
place_ahead w i h = place_alike _ _ (start_of i) (λ j g q. w.outside j (λ k o e. omega arith))

-- the state of a place is that of its first word, and a state is read as it was written
pub place_state : (l : List ℕ) (at : ℕ) → (place_at l at).state ≡ state_of (word l at)
unfolding place_at
place_state l at = refl

pub state_back : (q : State) → state_of (state_number q) ≡ q
state_back Empty = refl
state_back Draft = refl
state_back Marked = refl
state_back Open = refl

pub state_most : (q : State) → state_number q ≤ 3
state_most Empty = omega arith
state_most Draft = omega arith
state_most Marked = omega arith
state_most Open = omega arith

-- a place with another state and the same words behind it
pub place_in_state : (l m : List ℕ) (at v : ℕ) → word m at ≡ v → ((j : ℕ) → at < j → j < at + place_words → word m j ≡ word l j)
    → place_at m at ≡ with_state (state_of v) (place_at l at)
unfolding place_at
place_in_state l m at v e h =
    rw (e, h (at + 1) (omega arith) (omega arith), words_alike (at + 2) 27 l m (λ j a b. h j (omega arith) (omega arith)))

-- the states that are kept, by their index
pub length_states : (l : List ℕ) → length (states_in l) ≡ 32
unfolding states_in
length_states l = length-map (words kept_states_at 32 l) (λ n. stood_as (state_of n)) ∙ length_words kept_states_at 32 l

pub state_there : (l : List ℕ) (i : ℕ) → i < 32 → get_or (states_in l) i (stood_as Empty) ≡ stood_as (state_of (word l (kept_states_at + i)))
unfolding states_in
state_there l i h =
    get_or-map (λ n. stood_as (state_of n)) (words kept_states_at 32 l) i 0 ∙ rw (word_at kept_states_at 32 l i h) refl

-- all places in the states that are kept of them
pub places_back : (l m : List ℕ) → ((i : ℕ) → i < 32 → place_at m (start_of i) ≡ with_state (state_of (word l (kept_states_at + i))) (place_at l (start_of i)))
    → places_in m ≡ zip_with (λ s. with_state s.state) (states_in l) (places_in l)
places_back l m h =
    zip_filled (λ (s : Stood). with_state s.state) (stood_as Empty) beyond (states_in l) (places_in l) (places_in m) (length_states l ∙ sym (length_places l))
    (length_places m ∙ sym (length_places l))
    (λ j k.
    let g : j < 32 = omega (arith, length_places l) in
    place_there m j g ∙ h j g ∙ sym (ap₂ (λ (s : Stood) p. with_state s.state p) (state_there l j g) (place_there l j g)))
