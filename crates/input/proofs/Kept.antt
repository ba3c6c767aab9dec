-- Laws of what is kept of the input, and of what is left of it.
-- Assumes nothing.
use mathlib.Core.Path.{◌≡◌, refl, sym, ap}
use mathlib.Core.Bool.{Bool, true, false, cond, ◌||◌}
use mathlib.Core.List.{List}
use Prim.Native.Nat.{ℕ, ◌-◌, ◌≤◌}
use native.Mathlib.Omega.{arith}
use lib.Dec.{ltb}
use borrow.Author.Tests.{ltb-false}
use Rattle.std.proofs.lemmas.Bool.{or_parts}
use Rattle.lines.specs.Words.{longest_line}
use Rattle.input.specs.declared.Input.{Input}
use Rattle.input.specs.Input.{Holds, Keeps, stopped}

-- what is kept of an unfinished line is no longer than a line may be
pub kept_short : (i : Input) (before : List ℕ) (r : Input) (after : List ℕ) → Keeps i before r after → r.to ≤ longest_line
kept_short i before r after k = go r.cut k.long (ap (λ x. x.to) k.input)
  where
    go : (t : Bool) → t ≡ (i.cut || ltb longest_line (i.to - i.from)) → r.to ≡ cond t 0 (i.to - i.from) → r.to ≤ longest_line
    go true e f = omega arith
    go false e f = omega (arith, ltb-false longest_line (i.to - i.from) (or_parts i.cut (ltb longest_line (i.to - i.from)) (sym e)).1)

-- an input that does not go on has the same bounds
pub stopped_holds : {i : Input} {n : ℕ} → Holds i n → Holds (stopped i) n
stopped_holds h = record { ordered = h.ordered; inside = h.inside }
