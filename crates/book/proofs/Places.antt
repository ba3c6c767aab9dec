-- The places of a book: what stands at a code after a place was set or a sheet came in, and which codes have places.
-- Assumes nothing.
use mathlib.Core.Path.{◌≡◌, refl, ap}
use mathlib.Core.Bool.{Bool, true, false, cond, ◌&&◌}
use mathlib.Core.List.{List, map}
use mathlib.Core.Logic.{◌≢◌}
use mathlib.Core.Option.{none, some}
use Prim.Native.Nat.{ℕ, zero, suc, ◌<◌, ◌≤◌}
use native.Mathlib.Decide.{dec_lt}
use native.Mathlib.Omega.{arith}
use lib.Dec.{eqb, leb}
use lib.ListN.{length, get_or, set, replicate, length-set, get_or-map, get_or-eq_default}
use lib.Seq.{get_or-set_same, get_or-set_other}
use borrow.Author.Tests.{leb-true, le-leb, eqb-true, eqb-false, ne_eqb}
use Rattle.laws.proofs.Never.{never}
use Rattle.laws.proofs.Every.{and_left, and_right}
use Rattle.refusal.specs.declared.Check.TheVariants.{Pass}
use Rattle.refusal.proofs.Checks.{unless_passes}
use Rattle.benchmark.specs.declared.Benchmarks.{Benchmarks}
use Rattle.tariff.specs.Tariff.{record_length, tariff_of, valid_tariff, record_check}
use Rattle.book.specs.declared.Place.{Place}
use Rattle.book.specs.declared.Book.{Book}
use Rattle.book.specs.Calls.{Record}
use Rattle.book.specs.Checks.{Holding, inside}
use Rattle.book.specs.Book.{empty, fresh, beyond, place_of, set_place, held, under, Reachable}
use Rattle.book.specs.Settling.{HasPlace}

-- a code that passes refusal 6 is 1 to 32
pub code_range : (k : ℕ) → inside k ≡ true → (1 ≤ k) × (k ≤ 32)
code_range k e = (leb-true 1 k (and_left (leb 1 k) (leb k 32) e), leb-true k 32 (and_right (leb 1 k) (leb k 32) e))

pub in_range : (k : ℕ) → 1 ≤ k → k ≤ 32 → inside k ≡ true
in_range k h l = rw (le-leb 1 k h, le-leb k 32 l)

-- what stands at code j after place k was set
module _ {A : Type 0} (f : Place → A) (ps : List Place) (p : Place) (size : length ps ≡ 32) where
  at_suc : (i j : ℕ) → i < 32 → (t : Bool) → eqb (suc i) (suc j) ≡ t
      → f (get_or (set ps i p) j beyond) ≡ cond t (f p) (f (get_or ps j beyond))
  at_suc i j h true e =
      let same : j ≡ i = omega (arith, eqb-true (suc i) (suc j) e) in
      rw same (ap f (get_or-set_same ps i p beyond (omega arith)))
  at_suc i j h false e =
      let other : j ≢ i = omega (arith, eqb-false (suc i) (suc j) e) in
      ap f (get_or-set_other ps i j p beyond other)

  pub at_set : (k j : ℕ) → (1 ≤ k) × (k ≤ 32) → f (place_of (set_place ps k p) j) ≡ cond (eqb k j) (f p) (f (place_of ps j))
  at_set zero j h = absurd (omega arith)
  at_set (suc i) zero h = rw (ne_eqb (suc i) 0 (λ e. omega arith))
  at_set (suc i) (suc j) h = at_suc i j (omega arith) (eqb (suc i) (suc j)) refl

pub length_set_place : (ps : List Place) (k : ℕ) (p : Place) → length (set_place ps k p) ≡ length ps
length_set_place ps zero p = refl
length_set_place ps (suc i) p = length-set ps i p

-- what stands at a code after a sheet came in
pub at_map : (f : Benchmarks) (ps : List Place) (k : ℕ) → place_of (map (under f) ps) k ≡ under f (place_of ps k)
at_map f ps zero = refl
at_map f ps (suc i) = get_or-map (under f) ps i beyond

-- what a fresh book reads at a code
empties : {A : Type 0} (f : Place → A) → f empty ≡ f beyond → (n i : ℕ) → f (get_or (replicate n empty) i beyond) ≡ f beyond
empties f e zero i = refl
empties f e (suc n) zero = e
empties f e (suc n) (suc i) = empties f e n i

pub fresh_place : {A : Type 0} (f : Place → A) → f empty ≡ f beyond → (k : ℕ) → f (place_of fresh.places k) ≡ f beyond
fresh_place f e zero = refl
fresh_place f e (suc i) = empties f e 32 i

-- a code with a tariff is one of the 32
pub held_inside : (ps : List Place) (k : ℕ) (h : Holding) → length ps ≡ 32 → held (place_of ps k) ≡ some h → inside k ≡ true
held_inside ps zero h l e = never (cc)
held_inside ps (suc i) h l e = go (dec_lt i 32)
  where
    go : Dec (i < 32) → inside (suc i) ≡ true
    go (yes k) = in_range (suc i) (omega arith) (omega arith)
    go (no k) =
        let out : get_or ps i beyond ≡ beyond = get_or-eq_default ps beyond (omega arith) in
        let gone : held (get_or ps i beyond) ≡ none = ap held out in
        never (cc)

-- a book has, at the index of a code, the place that stands there
pub has_there : {b : Book} → Reachable b → (k i : ℕ) → (i < 32) × (inside k ≡ true → suc i ≡ k)
    → HasPlace b k i (get_or b.places i beyond) b.loaded b.benchmarks
has_there r k i h = record { reachable = r; within = h.0; index = h.1; place = refl; is_loaded = refl; has_figures = refl }

-- a record that passes refusal 8 has 27 numbers, and its tariff is valid
parts : (x : Record) → record_check x ≡ Pass → (eqb (length x) record_length && valid_tariff (tariff_of x)) ≡ true
unfolding record_check
parts x e = (unless_passes (eqb (length x) record_length && valid_tariff (tariff_of x)) 8 Pass e).0

pub record_length_lem : (x : Record) → record_check x ≡ Pass → length x ≡ record_length
record_length_lem x e = eqb-true (length x) record_length (and_left (eqb (length x) record_length) (valid_tariff (tariff_of x)) (parts x e))

pub record_valid : (x : Record) → record_check x ≡ Pass → valid_tariff (tariff_of x) ≡ true
record_valid x e = and_right (eqb (length x) record_length) (valid_tariff (tariff_of x)) (parts x e)
