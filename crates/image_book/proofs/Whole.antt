-- Lists that have the places of an image, or the states that it keeps, at each index.
-- Assumes nothing.
use mathlib.Core.Path.{◌≡◌, refl, sym, ◌∙◌, subst}
use mathlib.Core.List.{List}
use Prim.Native.Nat.{ℕ, zero, suc, ◌+◌, ◌≤◌, ◌<◌}
use native.Mathlib.Decide.{dec_le}
use native.Mathlib.Omega.{arith}
use lib.ListN.{length, get_or, length-map, get_or-map}
use lib.Seq.{ext_get_or}
use Rattle.std.specs.Fn.{Called}
use Rattle.std.specs.Array.{IsFromFnResult, IsFromFnResultFrom}
use denote.Param.Members.{Mut}
use Rattle.book.specs.declared.Place.{Place}
use Rattle.book.specs.declared.Stood.{Stood}
use Rattle.book.specs.declared.State.TheVariants.{Empty}
use Rattle.book.specs.Book.{beyond, stood_as}
use Rattle.image.specs.Layout.{kept_states_at, start_of}
use Rattle.image.specs.Image.{words, state_of, place_at, places_in, states_in}
use Rattle.image.proofs.Reading.{length_words}
use Rattle.image.proofs.Places.{length_places, place_there}

-- an array that `from_fn` made, where no call changes the closure and each gives h of its index
module _ {F B : Type 0} (g : Mut F (ℕ × Unit {0}) B) (f : F) (h : ℕ → B) (one : (i : ℕ) (y : B) (q : F) → Called g f (i, tt) y q → (q ≡ f) × (y ≡ h i)) where
  made_from : (ys : List B) (p : F) (i n : ℕ) → p ≡ f → IsFromFnResultFrom g p ys i n → (j : ℕ) (d : B) → i ≤ j → j < i + n → get_or ys j d ≡ h j
  made_from ys p i zero e made j d a b = absurd (omega arith)
  made_from ys p i (suc n) e made j d a b =
      let call = one i made.1 made.0 (subst (λ q. Called g q (i, tt) made.1 made.0) e made.3) in
      elim (dec_le j i) [
        | yes k ↦ (let at : j ≡ i = omega arith in rw at (made.2.1 d ∙ call.1))
        | no k ↦ made_from ys made.0 (i + 1) n call.0 made.4 j d (omega arith) (omega arith)
      ]

  pub made_each : (ys : List B) (n : ℕ) → IsFromFnResult g f ys n → (j : ℕ) (d : B) → j < n → get_or ys j d ≡ h j
  made_each ys n made j d k = made_from ys f 0 n refl made.each j d (omega arith) (omega arith)

pub are_places : (l : List ℕ) (ps : List Place) → length ps ≡ 32 → ((i : ℕ) → i < 32 → get_or ps i beyond ≡ place_at l (start_of i)) → ps ≡ places_in l
are_places l ps e h =
    ext_get_or beyond ps (places_in l) (e ∙ sym (length_places l)) (λ i k. h i (omega arith) ∙ sym (place_there l i (omega arith)))

pub are_states : (l : List ℕ) (ss : List Stood) → length ss ≡ 32
    → ((i : ℕ) → i < 32 → get_or ss i (stood_as Empty) ≡ stood_as (state_of (get_or (words kept_states_at 32 l) i 0))) → ss ≡ states_in l
unfolding states_in
are_states l ss e h =
    let size = length_words kept_states_at 32 l in
    ext_get_or (stood_as Empty) ss (states_in l) (e ∙ sym (length-map (words kept_states_at 32 l) (λ n. stood_as (state_of n)) ∙ size))
    (λ i k. h i (omega arith) ∙ sym (get_or-map (λ n. stood_as (state_of n)) (words kept_states_at 32 l) i 0))
