-- Differences of charges: a comparison of two differences is one of two sums, each side moved across.
-- Assumes nothing.
use mathlib.Core.Path.{◌≡◌, refl, sym, ◌∙◌, ap}
use mathlib.Core.Bool.{Bool, true, false}
use Prim.Native.Nat.{ℕ, zero, suc, ◌+◌, ◌-◌, ◌<◌, ◌≤◌}
use native.Mathlib.Omega.{arith}
use lib.Dec.{ltb, lt→ltb, ltb→lt}
use lib.IntN.{pos, negsuc, ◌-ℤ◌}
use lib.Signed.{lt_z, ◌<ℤ◌, ◌≤ℤ◌, lt_z_yes, lt_z_no}
use borrow.Author.Tests.{ltb-true, ltb-false, lt-ltb, le-ltb}

-- a - b, by which of the two is less
less : (a b : ℕ) → a < b → pos a -ℤ pos b ≡ negsuc (b - suc a)
less a zero h = absurd (omega arith)
less a (suc b) h = rw (lt-ltb a (suc b) h)

pub no_less : (a b : ℕ) → b ≤ a → pos a -ℤ pos b ≡ pos (a - b)
no_less a zero h = let e : a + 0 ≡ a - 0 = omega arith in ap pos e
no_less a (suc b) h = rw (le-ltb a (suc b) h)

-- a test of two numbers by what is known of them
same : (a b c d : ℕ) → (a < b → c < d) → (b ≤ a → d ≤ c) → ltb a b ≡ ltb c d
same a b c d f g = go (ltb a b) refl
  where
    go : (t : Bool) → ltb a b ≡ t → ltb a b ≡ ltb c d
    go true e = e ∙ sym (lt-ltb c d (f (ltb-true a b e)))
    go false e = e ∙ sym (le-ltb c d (g (ltb-false a b e)))

-- a - b < c - d exactly when a + d < c + b
pub crossed : (a b c d : ℕ) → lt_z (pos a -ℤ pos b) (pos c -ℤ pos d) ≡ ltb (a + d) (c + b)
crossed a b c d = go (ltb a b) refl (ltb c d) refl
  where
    go : (s : Bool) → ltb a b ≡ s → (t : Bool) → ltb c d ≡ t → lt_z (pos a -ℤ pos b) (pos c -ℤ pos d) ≡ ltb (a + d) (c + b)
    go true p true q =
        let h : a < b = ltb-true a b p in
        let k : c < d = ltb-true c d q in
        rw (less a b h, less c d k) (same (d - suc c) (b - suc a) (a + d) (c + b) (λ l. omega arith) (λ l. omega arith))
    go true p false q =
        let h : a < b = ltb-true a b p in
        let k : d ≤ c = ltb-false c d q in
        rw (less a b h, no_less c d k) (sym (lt-ltb (a + d) (c + b) (omega arith)))
    go false p true q =
        let h : b ≤ a = ltb-false a b p in
        let k : c < d = ltb-true c d q in
        rw (no_less a b h, less c d k) (sym (le-ltb (a + d) (c + b) (omega arith)))
    go false p false q =
        let h : b ≤ a = ltb-false a b p in
        let k : d ≤ c = ltb-false c d q in
        rw (no_less a b h, no_less c d k) (same (a - b) (c - d) (a + d) (c + b) (λ l. omega arith) (λ l. omega arith))

-- a difference is above 0 exactly when it is taken from the greater
pub above : (a b : ℕ) → lt_z (pos 0) (pos a -ℤ pos b) ≡ ltb b a
above a b = go (ltb b a) refl
  where
    go : (t : Bool) → ltb b a ≡ t → lt_z (pos 0) (pos a -ℤ pos b) ≡ ltb b a
    go true e =
        let h : b < a = ltb-true b a e in
        rw (no_less a b (omega arith)) (same 0 (a - b) b a (λ l. omega arith) (λ l. omega arith))
    go false e = less_or (ltb a b) refl
      where
        less_or : (t : Bool) → ltb a b ≡ t → lt_z (pos 0) (pos a -ℤ pos b) ≡ ltb b a
        less_or true q = rw (less a b (ltb-true a b q)) (sym e)
        less_or false q =
            let h : b ≤ a = ltb-false a b q in
            rw (no_less a b h) (same 0 (a - b) b a (λ l. omega arith) (λ l. omega arith))

-- so differences are compared by sums
pub difference_less : (a b c d : ℕ) → a + d < c + b → (pos a -ℤ pos b) <ℤ (pos c -ℤ pos d)
difference_less a b c d h = lt_z_yes (rw (crossed a b c d) (lt→ltb (a + d) (c + b) h))

pub difference_at_most : (a b c d : ℕ) → a + d ≤ c + b → (pos a -ℤ pos b) ≤ℤ (pos c -ℤ pos d)
difference_at_most a b c d h = lt_z_no (rw (crossed c d a b, le-ltb (c + b) (a + d) h) tt)

pub difference_above : (a b : ℕ) → b < a → pos 0 <ℤ (pos a -ℤ pos b)
difference_above a b h = lt_z_yes (rw (above a b) (lt→ltb b a h))

pub above_difference : (a b : ℕ) → pos 0 <ℤ (pos a -ℤ pos b) → b < a
above_difference a b h = ltb→lt b a (rw (above a b) at h.lt)
