-- Words that are canonical, from what the code tests of them, and back.
-- Assumes nothing.
use mathlib.Core.Path.{◌≡◌, refl}
use mathlib.Core.Bool.{true, ◌&&◌}
use mathlib.Core.List.{List}
use Prim.Native.Nat.{ℕ, ◌+◌, ◌≤◌}
use lib.Dec.{leb}
use borrow.Author.Tests.{leb-true, le-leb}
use Rattle.laws.specs.Notions.{every}
use Rattle.laws.proofs.Every.{and_left, and_right, every_at, every_all}
use Rattle.image.specs.Layout.{loaded_at, kept_at, kept_loaded_at, kept_states_at, start_of}
use Rattle.image.specs.Image.{word, Canonical}
use Rattle.image_book.specs.Testing.{canonical_at}

-- what the test says of a place
pub said : (l : List ℕ) (i : ℕ) → canonical_at l i ≡ true → (word l (start_of i) ≤ 3) × (word l (start_of i + 1) ≤ 1) × (word l (kept_states_at + i) ≤ 3)
unfolding canonical_at
said l i e =
    let a = leb (word l (start_of i)) 3 in
    let b = leb (word l (start_of i + 1)) 1 in
    let c = leb (word l (kept_states_at + i)) 3 in
    let ab : (a && b) ≡ true = and_left (a && b) c e in
    (leb-true (word l (start_of i)) 3 (and_left a b ab), leb-true (word l (start_of i + 1)) 1 (and_right a b ab), leb-true (word l (kept_states_at + i)) 3 (and_right (a && b) c e))

-- all of them
pub canonical : (l : List ℕ) → word l loaded_at ≤ 1 → word l kept_at ≤ 1 → word l kept_loaded_at ≤ 1 → every 32 (canonical_at l) ≡ true → Canonical l
canonical l a b c e =
    record {
      loaded = a;
      kept = b;
      kept_loaded = c;
      kept_states = λ i h. (said l i (every_at (canonical_at l) 32 e i h)).2;
      states = λ i h. (said l i (every_at (canonical_at l) 32 e i h)).0;
      directions = λ i h. (said l i (every_at (canonical_at l) 32 e i h)).1;
    }

pub tested : (l : List ℕ) → Canonical l → every 32 (canonical_at l) ≡ true
unfolding canonical_at
tested l q =
    every_all (canonical_at l) 32 (λ i h. rw (le-leb (word l (start_of i)) 3 (q.states i h), le-leb (word l (start_of i + 1)) 1 (q.directions i h), le-leb (word l (kept_states_at + i)) 3 (q.kept_states i h)) refl)
