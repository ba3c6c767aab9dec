-- Laws of what is read and written, and of turns.
-- Assumes nothing.
use mathlib.Core.Path.{◌≡◌, sym, ◌∙◌, ap, subst}
use mathlib.Core.Bool.{Bool, true, false, cond}
use mathlib.Core.List.{List}
use Prim.Native.Nat.{ℕ, zero, suc, ◌+◌, ◌-◌, ◌<◌, ◌≤◌}
use native.Mathlib.Omega.{arith}
use lib.IntN.{ℤ, pos, negsuc}
use lib.ListN.{length}
use Rattle.input.specs.declared.Input.{Input}
use Rattle.input.specs.Input.{Holds, Moved, is_left, stopped, AfterRead, after_write}
use Rattle.input.proofs.Kept.{stopped_holds}
use Rattle.taking.specs.declared.Desk.{Desk}
use Rattle.desk.specs.Desk.{Reads, Flushes, Turns, Steady, Turned, turn_more}

-- what an input has, whether or not the desk goes on, it has after the answers were written out
pub flushed : (P : Input → Type 0) {i r : Input} → Flushes i r → P i → P (stopped i) → P r
flushed P {i} f h k = subst P (sym f.input) (go f.written)
  where
    go : (t : Bool) → P (after_write t i)
    go true = h
    go false = k

pub flushed_holds : {i r : Input} {n : ℕ} → Flushes i r → Holds i n → Holds r n
flushed_holds {n = n} f h = flushed (λ x. Holds x n) f h (stopped_holds h)

-- what is read stays within the buffer
pub reads_within : (i : Input) (before : List ℕ) (r : Input) (after : List ℕ) → Reads i before r after → i.to < length before
    → (r.from ≡ i.from) × (r.to ≤ length before)
reads_within i before r after k h = go k.got k.moved k.handled
  where
    closes : (t : Bool) → cond t (i.to + 1) i.to ≤ length before
    closes true = omega arith
    closes false = omega arith

    go : (got : ℤ) → Moved (length k.into - i.to) got → AfterRead got i k.into r after → (r.from ≡ i.from) × (r.to ≤ length before)
    go (negsuc n) m e = (ap (λ x. x.from) e.0, omega (arith, ap (λ x. x.to) e.0))
    go (pos zero) m e = (ap (λ x. x.from) e.input, omega (arith, ap (λ x. x.to) e.input, closes (is_left i)))
    go (pos (suc n)) m e = (ap (λ x. x.from) e.0, omega (arith, m, k.size, ap (λ x. x.to) e.0))

-- a steady desk, by other names of the lengths
pub steady_as : {d : Desk} {i j n m o p : ℕ} → i ≡ j → n ≡ m → o ≡ p → Steady d i n o → Steady d j m p
steady_as a b c s =
    record {
      reachable = s.reachable;
      holds = record { ordered = s.holds.ordered; inside = omega (arith, s.holds.inside) };
      waiting = omega (arith, s.waiting);
      input_size = sym a ∙ s.input_size;
      numbers_size = sym b ∙ s.numbers_size;
      out_size = sym c ∙ s.out_size;
    }

-- one turn more, where they are counted down from m
pub turned_more : {d₀ d d' : Desk} {input₀ out₀ input out input' out' : List ℕ} {m left : ℕ} → left ≤ m → 0 < left
    → Turned d₀ input₀ out₀ (m - left) d input out → d.input.on ≡ true → Turns d input out d' input' out'
    → Turned d₀ input₀ out₀ (m - (left - 1)) d' input' out'
turned_more {m = m} {left} h k t on u = let e : m - (left - 1) ≡ m - left + 1 = omega arith in rw e (turn_more t on u)
