-- Laws of a test made at each number below n. The invariant of a loop that makes it is `every i f ≡ true`.
-- Assumes nothing.
use mathlib.Core.Path.{◌≡◌, refl, sym, ◌∙◌}
use mathlib.Core.Bool.{Bool, true, false, ◌&&◌}
use Prim.Native.Nat.{ℕ, zero, suc, ◌+◌, ◌<◌}
use native.Mathlib.Decide.{dec_le}
use native.Mathlib.Numerals.{add-one}
use native.Mathlib.Omega.{arith}
use mathlib.Core.List.{List}
use Rattle.std.proofs.Common.{zero-add}
use lib.ListN.{length}
use denote.Param.Members.{Mut}
use Rattle.std.specs.declared.ops.Range.{Range}
use Rattle.std.specs.Bool.{MatchBool}
use Rattle.std.specs.Fn.{Called}
use Rattle.std.specs.Iterator.{YieldsThen}
use Rattle.std.specs.List.{FoldsTo, AllWithin, HoldsAt, range_with_len}
use Rattle.std.specs.Option.{MatchOption}
use Rattle.std.specs.Prelude.{Option}
use Rattle.std.proofs.iter.Yields.{nat_range_steps}
use Rattle.std.proofs.lemmas.Iterator.{cases_from_all, YieldsList-from_range}
use Rattle.std.proofs.lemmas.List.FromFn.{length-range_with_len, get_or-range_with_len}
use Rattle.laws.specs.Notions.{every}

-- the parts of a test that holds
pub and_left : (a b : Bool) → (a && b) ≡ true → a ≡ true
and_left true b e = refl
and_left false b e = e

pub and_right : (a b : Bool) → (a && b) ≡ true → b ≡ true
and_right true b e = e
and_right false b e = absurd (let z : ◌≡◌ {A = ℕ} 0 1 = cc in omega arith)

pub and_both : (a b : Bool) → a ≡ true → b ≡ true → (a && b) ≡ true
and_both a b p q = rw (p, q)

-- one number more
pub every_more : (f : ℕ → Bool) (i : ℕ) → every i f ≡ true → f i ≡ true → every (i + 1) f ≡ true
unfolding every
every_more f i e h = rw (add-one, e, h)

-- it holds at each number
pub every_at : (f : ℕ → Bool) (n : ℕ) → every n f ≡ true → (i : ℕ) → i < n → f i ≡ true
unfolding every
every_at f zero e i h = absurd (omega arith)
every_at f (suc n) e i h =
    elim (dec_le n i) [
      | yes k ↦ (let q : i ≡ n = omega arith in rw q (and_right (every n f) (f n) e))
      | no k ↦ every_at f n (and_left (every n f) (f n) e) i (omega arith)
    ]

-- where it fails at one number, it does not hold
pub every_not : (f : ℕ → Bool) (n i : ℕ) → i < n → f i ≡ false → every n f ≡ false
every_not f n i h k = go (every n f) refl
  where
    go : (t : Bool) → every n f ≡ t → every n f ≡ false
    go false e = e
    go true e = absurd (let q : true ≡ false = sym (every_at f n e i h) ∙ k in let z : ◌≡◌ {A = ℕ} 0 1 = cc in omega arith)

-- and where it holds at each number, it holds
pub every_all : (f : ℕ → Bool) (n : ℕ) → ((i : ℕ) → i < n → f i ≡ true) → every n f ≡ true
unfolding every
every_all f zero h = refl
every_all f (suc n) h = rw (every_all f n (λ i k. h i (omega arith)), h n (omega arith))

-- two tests that answer alike at each number below n
pub every_alike : (f g : ℕ → Bool) (n : ℕ) → ((i : ℕ) → i < n → f i ≡ g i) → every n f ≡ every n g
unfolding every
every_alike f g zero h = refl
every_alike f g (suc n) h = rw (every_alike f g n (λ i k. h i (omega arith)), h n (omega arith))

-- `all` over the numbers below n, where the closure says of each what the test says
every_cases :
    (f : ℕ → Bool) (n : ℕ) (r : Bool)
    → MatchBool r (AllWithin (λ i. f i ≡ true) (range_with_len 0 n) 0 (length (range_with_len 0 n))) ((k : ℕ) × (k < length (range_with_len 0 n)) × HoldsAt (λ i. f i ≡ false) (range_with_len 0 n) k)
    → r ≡ every n f
every_cases f n true m =
    sym (every_all f n (λ i h. rw (get_or-range_with_len 0 n i 0 h, zero-add) at (m i 0 (omega arith) (rw length-range_with_len h))))
every_cases f n false m =
    let h : m.0 < n = rw length-range_with_len at m.1 in
    sym (every_not f n m.0 h (rw (get_or-range_with_len 0 n m.0 0 h, zero-add) at (m.2 0)))

pub every_from_all :
    {F : Type 0} {g : Mut F (ℕ × Unit {0}) Bool} {s : Range ℕ} (f : ℕ → Bool) (n : ℕ) (u : Range ℕ) (k : F) (r : Bool)
    → (xs : List ℕ) × (o : Option ℕ) × (j : F) × YieldsThen nat_range_steps s xs o u × FoldsTo (λ p x q. Called g p (x, tt) true q) k xs j × MatchOption o (r ≡ true) (λ x. (r ≡ false) × ((h : F) × Called g j (x, tt) false h))
    → s ≡ record { start = 0; end = n } → ((x : ℕ) (b : Bool) (q : F) → Called g k (x, tt) b q → (q ≡ k) × (b ≡ f x)) → r ≡ every n f
every_from_all f n u k r ran e h =
    every_cases f n r
    (cases_from_all u k r (λ i. f i ≡ true) (λ i. f i ≡ false) ran (YieldsList-from_range 0 n n e (omega arith)) (λ x q c. ((h x true q c).0, sym (h x true q c).1)) (λ x q c. sym (h x false q c).1))
