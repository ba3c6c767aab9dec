-- `cap::corner` meets its contract: a corner is a step of the tiers or their end, and none is past the end.
-- Assumes nothing.
use mathlib.Core.Path.{sym, ◌∙◌}
use Prim.Native.Nat.{◌-◌}
use native.Mathlib.Omega.{arith}
use Rattle.cap.proofs.Runs.{step_corner, end_corner, corner_below}
use Rattle.cap.proofs.corner.Goals as goal

pub returns-then-i-t : goal.returns-then-i-t
returns-then-i-t c =
    let t = c.args.t in
    let e = sym (step_corner c.args.end (t.n - 1) t.steps c.args.i (omega (arith, c.if-i-t.true))) in
    (c.from.ensures ∙ e, omega (arith, c.from.ensures, e, corner_below c.args.end t c.requires.0 c.args.i))

pub returns-else-i-t : goal.returns-else-i-t
returns-else-i-t c =
    let t = c.args.t in
    (sym (end_corner c.args.end (t.n - 1) t.steps c.args.i (omega (arith, c.if-i-t.false)) (omega (arith, c.requires.0.step_count, c.requires.1))), omega arith)
