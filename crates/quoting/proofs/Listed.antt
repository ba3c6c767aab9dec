-- The list of months that QUOTE takes: the tests of its length and of each month, and what a list is that passes them.
-- Assumes nothing.
use mathlib.Core.Path.{◌≡◌, sym, ◌∙◌, ap, subst}
use mathlib.Core.Bool.{Bool, true, false, ◌&&◌, and-false}
use mathlib.Core.List.{List}
use Prim.Native.Nat.{ℕ, ◌<◌, ◌≤◌}
use native.Mathlib.Decide.{dec_lt}
use native.Mathlib.Omega.{arith}
use lib.Dec.{leb, eqb}
use Rattle.std.specs.Prelude.{MatchBool}
use Rattle.std.specs.List.{AllWithin, HoldsAt}
use lib.ListN.{length, get_or, get_or-eq_default}
use borrow.Author.Tests.{leb-true, le-leb, lt-leb, eqb-true, eq-eqb}
use Rattle.laws.specs.Notions.{every}
use Rattle.laws.proofs.Every.{every_at, every_all, every_not, and_left, and_right}
use Rattle.benchmark.specs.declared.Benchmarks.{Benchmarks}
use Rattle.cap.specs.declared.CellNumbers.{CellNumbers}
use Rattle.cap.specs.Cap.{Months}
use Rattle.verdict.specs.Cells.{Cell, cell_numbers}
use Rattle.quoting.specs.Quote.{months_allowed}

-- month j is at most 10,000
abbrev pub small : List ℕ → ℕ → Bool
small months j = leb (get_or months j 0) 10000

-- of a list of t months, what `all` finds of each month is the whole test
pub each_small : (t : ℕ) (months : List ℕ) (r : Bool) → length months ≡ t
    → MatchBool r (AllWithin (λ m. m ≤ 10000) months 0 (length months)) ((k : ℕ) × (k < length months) × HoldsAt (λ m. 10000 < m) months k)
    → r ≡ months_allowed t months
unfolding months_allowed
each_small t months true h m =
    rw (eq-eqb (length months) t h) (sym (every_all (small months) (length months) (λ i k. le-leb _ _ (m i 0 (omega arith) k))))
each_small t months false h m =
    rw (eq-eqb (length months) t h) (sym (every_not (small months) (length months) m.0 m.1 (lt-leb _ _ (m.2 0))))

-- a list that 13 allows is one of t months
pub months_within : (t : ℕ) (months : List ℕ) → months_allowed t months ≡ true → Months t months
unfolding months_allowed
months_within t months e = (eqb-true (length months) t (and_left _ _ e), λ i. go i (dec_lt i (length months)))
  where
    go : (i : ℕ) → Dec (i < length months) → get_or months i 0 ≤ 10000
    go i (yes h) =
        leb-true (get_or months i 0) 10000 (every_at (small months) (length months) (and_right (eqb (length months) t) _ e) i h)
    go i (no h) = omega (arith, get_or-eq_default months 0 {n = i} (omega arith))

-- as many as the numbers of a cell have
pub months_for : (f : Benchmarks) (a standing : ℕ) (c : Cell) (e : CellNumbers) → e ≡ cell_numbers f a standing c
    → (months : List ℕ) → months_allowed f.months months ≡ true → Months e.months months
unfolding cell_numbers
months_for f a standing c e is months h = subst (λ (d : CellNumbers). Months d.months months) (sym is) (months_within f.months months h)
