-- The words that a call on a code writes, as a place stored: first the chance to UNDO is ended, then words of the place are written.
-- Assumes nothing.
use mathlib.Core.Path.{◌≡◌, refl, sym, ◌∙◌, ap, subst}
use mathlib.Core.Bool.{false}
use mathlib.Core.List.{List}
use mathlib.Core.Logic.{inl, inr}
use Prim.Native.Nat.{ℕ, ◌+◌, ◌-◌, ◌≤◌, ◌<◌}
use native.Mathlib.Decide.{dec_le}
use native.Mathlib.Omega.{arith}
use lib.ListN.{length, set}
use lib.Seq.{get_or-set_same}
use Rattle.tariff.specs.Tariff.{record_length, tariff_of}
use Rattle.book.specs.declared.State.TheVariants.{Draft}
use Rattle.book.specs.declared.Place.{Place}
use Rattle.book.specs.Book.{nothing_kept, empty, place_with, with_state, with_direction, Reachable}
use Rattle.stands.proofs.Kept.{reachable_stands}
use Rattle.image.specs.Layout.{word_count, record_at, kept_at, kept_states_at, kept_words, places_at, place_words, start_of}
use Rattle.image.specs.Image.{word, flag_of, state_of, place_at, kept_in, book_in, Canonical}
use Rattle.image.specs.Changing.{Written}
use Rattle.image.proofs.Books.{kept_alike, kept_nought}
use Rattle.image.proofs.Writing.{written_one}
use Rattle.image.proofs.Placing.{at_place, then_at_place, restated, directed_there, emptied, drafted}
use Rattle.image_codes.specs.Storing.{UndoEnded, Stored}

-- words that were cleared are 0, and 0 is canonical
pub undo_cleared : (l m : List ℕ) → Written l m kept_at kept_words (λ j. 0) → UndoEnded l m
undo_cleared l m w =
    record {
      size = w.size;
      outside = λ j o. w.outside j o;
      nothing_kept_lem = λ r. kept_nought m noughts_there;
      stays_canonical = λ h.
          record {
            loaded = subst (λ x. x ≤ 1) (sym (w.outside 1 (inl (omega arith)))) h.loaded;
            kept = omega (arith, noughts_there kept_at (omega arith) (omega arith));
            kept_loaded = omega (arith, noughts_there (kept_at + 1) (omega arith) (omega arith));
            kept_states = λ i k. omega (arith, noughts_there (kept_states_at + i) (omega arith) (omega arith));
            states = λ i k. subst (λ x. x ≤ 3) (sym (w.outside (start_of i) (inr (omega arith)))) (h.states i k);
            directions = λ i k. subst (λ x. x ≤ 1) (sym (w.outside (start_of i + 1) (inr (omega arith)))) (h.directions i k);
          };
    }
  where
    noughts_there : (j : ℕ) → kept_at ≤ j → j < places_at → word m j ≡ 0
    noughts_there j a b = let e : kept_at + (j - kept_at) ≡ j = omega arith in subst (λ n. word m n ≡ 0) e (w.inside (j - kept_at) (omega arith))

-- of a book that calls leave, nothing is kept where its word is 0
none_kept : (l : List ℕ) → word l kept_at ≡ 0 → Reachable (book_in l) → kept_in l ≡ nothing_kept
unfolding book_in kept_in
none_kept l e r = (reachable_stands (book_in l) r).nothing_kept_lem (ap flag_of e)

pub undo_nothing : (l : List ℕ) → word l kept_at ≡ 0 → UndoEnded l l
undo_nothing l e = record { size = refl; outside = λ j o. refl; nothing_kept_lem = none_kept l e; stays_canonical = λ h. h }

-- a place stored
module _ (l k m : List ℕ) (i : ℕ) (p : Place) (h : i < 32) (ended : UndoEnded l k)
    (w : Written k m (start_of i) place_words (λ j. word m (start_of i + j))) (is : place_at m (start_of i) ≡ p)
    (state : Canonical k → word m (start_of i) ≤ 3) (direction : Canonical k → word m (start_of i + 1) ≤ 1) where
  canonical_after : Canonical k → Canonical m
  canonical_after q =
      record {
        loaded = subst (λ x. x ≤ 1) (sym (w.outside 1 (inl (omega arith)))) q.loaded;
        kept = subst (λ x. x ≤ 1) (sym (w.outside kept_at (inl (omega arith)))) q.kept;
        kept_loaded = subst (λ x. x ≤ 1) (sym (w.outside (kept_at + 1) (inl (omega arith)))) q.kept_loaded;
        kept_states = λ j g. subst (λ x. x ≤ 3) (sym (w.outside (kept_states_at + j) (inl (omega arith)))) (q.kept_states j g);
        states = at_each (λ n. n ≤ 3) start_of (λ j. (omega arith, omega arith)) q.states (state q);
        directions = at_each (λ n. n ≤ 1) (λ j. start_of j + 1) (λ j. (omega arith, omega arith)) q.directions (direction q);
      }
    where
      at_each : (P : ℕ → Type 0) (f : ℕ → ℕ) → ((j : ℕ) → (start_of j ≤ f j) × (f j < start_of j + place_words))
          → ((j : ℕ) → j < 32 → P (word k (f j))) → P (word m (f i)) → (j : ℕ) → j < 32 → P (word m (f j))
      at_each P f b old new j g =
          elim (dec_le i j) [
            | yes u ↦ elim (dec_le j i) [
              | yes v ↦ (let e : j ≡ i = omega arith in subst (λ n. P (word m (f n))) (sym e) new)
              | no v ↦ subst P (sym (w.outside (f j) (inr (omega (arith, (b j).0))))) (old j g)
            ]
            | no u ↦ subst P (sym (w.outside (f j) (inl (omega (arith, (b j).1))))) (old j g)
          ]

  pub stored : Stored l m i p
  stored =
      record {
        size = w.size ∙ ended.size;
        front = λ j b. w.outside j (inl (omega arith)) ∙ ended.outside j (inl b);
        apart = λ j b o. w.outside j o ∙ ended.outside j (inr b);
        nothing_kept_lem = λ r. kept_alike k m (λ j a b. w.outside j (inl (omega arith))) ∙ ended.nothing_kept_lem r;
        place = is;
        stays_canonical = λ q. canonical_after (ended.stays_canonical q);
      }

-- each of the four kinds of writing stores its place
module _ (l k : List ℕ) (i : ℕ) (h : i < 32) (size : length l ≡ word_count) (ended : UndoEnded l k) where
  fits : start_of i + place_words ≤ length k
  fits = omega (arith, size, ended.size)

  stayed : (j : ℕ) → start_of i ≤ j → word k j ≡ word l j
  stayed j b = ended.outside j (inr (omega arith))

  pub state_stored : (at s : ℕ) → at ≡ start_of i → s ≤ 3 → Stored l (set k at s) i (with_state (state_of s) (place_at l (start_of i)))
  state_stored at s e small = subst (λ n. Stored l (set k n s) i (with_state (state_of s) (place_at l (start_of i)))) (sym e) here
    where
      w : Written k (set k (start_of i) s) (start_of i) 1 (λ j. s)
      w = written_one k (start_of i) s (omega (arith, fits))

      same : word (set k (start_of i) s) (start_of i) ≡ s
      same = get_or-set_same k (start_of i) s 0 (omega (arith, fits))

      here : Stored l (set k (start_of i) s) i (with_state (state_of s) (place_at l (start_of i)))
      here =
          stored l k (set k (start_of i) s) i _ h ended (at_place k _ (start_of i) (start_of i) 1 (λ j. s) w (omega arith) (omega arith))
          (restated l _ (start_of i) s same (λ j a b. w.outside j (inr a) ∙ stayed j (omega arith)))
          (λ q. omega (arith, same))
          (λ q. omega (arith, w.outside (start_of i + 1) (inr (omega arith)), q.directions i h))

  pub direction_stored : (at : ℕ) → at ≡ start_of i → Stored l (set k (at + 1) 1) i (with_direction (place_at l (start_of i)))
  direction_stored at e = subst (λ n. Stored l (set k (n + 1) 1) i (with_direction (place_at l (start_of i)))) (sym e) here
    where
      w : Written k (set k (start_of i + 1) 1) (start_of i + 1) 1 (λ j. 1)
      w = written_one k (start_of i + 1) 1 (omega (arith, fits))

      same : word (set k (start_of i + 1) 1) (start_of i + 1) ≡ 1
      same = get_or-set_same k (start_of i + 1) 1 0 (omega (arith, fits))

      here : Stored l (set k (start_of i + 1) 1) i (with_direction (place_at l (start_of i)))
      here =
          stored l k (set k (start_of i + 1) 1) i _ h ended (at_place k _ (start_of i) (start_of i + 1) 1 (λ j. 1) w (omega arith) (omega arith))
          (directed_there l _ (start_of i) (w.outside (start_of i) (inl (omega arith)) ∙ stayed (start_of i) (omega arith)) same (λ j a b. w.outside j (inr (omega arith)) ∙ stayed j (omega arith)))
          (λ q. omega (arith, w.outside (start_of i) (inl (omega arith)), q.states i h))
          (λ q. omega (arith, same))

  pub nothing_stored : (m : List ℕ) (at : ℕ) → at ≡ start_of i → Written k m at place_words (λ j. 0) → Stored l m i empty
  nothing_stored m at e v =
      stored l k m i empty h ended (at_place k m (start_of i) (start_of i) place_words (λ j. 0) w (omega arith) (omega arith)) (emptied m (start_of i) nought)
      (λ q. omega (arith, nought (start_of i) (omega arith) (omega arith)))
      (λ q. omega (arith, nought (start_of i + 1) (omega arith) (omega arith)))
    where
      w : Written k m (start_of i) place_words (λ j. 0)
      w = subst (λ n. Written k m n place_words (λ j. 0)) e v

      nought : (j : ℕ) → start_of i ≤ j → j < start_of i + place_words → word m j ≡ 0
      nought j a b = let q : start_of i + (j - start_of i) ≡ j = omega arith in subst (λ n. word m n ≡ 0) q (w.inside (j - start_of i) (omega arith))

  pub draft_stored : (m x : List ℕ) (at : ℕ) → at ≡ start_of i → length x ≡ record_length
      → Written (set (set k at 1) (at + 1) 0) m (at + record_at) (length x) (λ j. word x j) → Stored l m i (place_with Draft false (tariff_of x))
  draft_stored m x at e full v =
      stored l k m i _ h ended (then_at_place k k₂ m (start_of i) place_words _ before (at_place k₂ m (start_of i) (start_of i + record_at) (length x) _ w (omega arith) (omega (arith, full))))
      (drafted m (start_of i) x full state direction (λ j g. w.inside j (omega (arith, full))))
      (λ q. omega (arith, state))
      (λ q. omega (arith, direction))
    where
      k₁ : List ℕ
      k₁ = set k (start_of i) 1

      k₂ : List ℕ
      k₂ = set k₁ (start_of i + 1) 0

      w : Written k₂ m (start_of i + record_at) (length x) (λ j. word x j)
      w = subst (λ n. Written (set (set k n 1) (n + 1) 0) m (n + record_at) (length x) (λ j. word x j)) e v

      first : Written k k₁ (start_of i) 1 (λ j. 1)
      first = written_one k (start_of i) 1 (omega (arith, fits))

      second : Written k₁ k₂ (start_of i + 1) 1 (λ j. 0)
      second = written_one k₁ (start_of i + 1) 0 (omega (arith, fits, first.size))

      before : Written k k₂ (start_of i) place_words (λ j. word k₂ (start_of i + j))
      before =
          then_at_place k k₁ k₂ (start_of i) place_words _ (at_place k k₁ (start_of i) (start_of i) 1 (λ j. 1) first (omega arith) (omega arith))
          (at_place k₁ k₂ (start_of i) (start_of i + 1) 1 (λ j. 0) second (omega arith) (omega arith))

      state : word m (start_of i) ≡ 1
      state =
          w.outside (start_of i) (inl (omega arith)) ∙ second.outside (start_of i) (inl (omega arith)) ∙ get_or-set_same k (start_of i) 1 0 (omega (arith, fits))

      direction : word m (start_of i + 1) ≡ 0
      direction =
          w.outside (start_of i + 1) (inl (omega arith)) ∙ get_or-set_same k₁ (start_of i + 1) 0 0 (omega (arith, fits, first.size))
