-- `sheet::terms_fit` meets its contract: `all` tells whether the terms of each of the four places fit.
-- Assumes nothing.
use mathlib.Core.Path.{◌≡◌}
use mathlib.Core.Bool.{Bool, true}
use mathlib.Core.List.{List}
use Prim.Native.Nat.{ℕ, ◌<◌}
use Rattle.std.proofs.Common.{rules, arith}
use Rattle.std.specs.Bool.{Decides}
use Rattle.std.proofs.iter.runs.Sources.{ranges}
use Rattle.laws.specs.Notions.{every}
use Rattle.laws.proofs.Chains.{is_every}
use Rattle.sheet.specs.Sheet.{four_fit, terms_fit}
use Rattle.sheet.proofs.terms_fit.Goals as goal

fours_fit : (s : List ℕ) (r : Bool) → Decides r ((f : ℕ) → f < 4 → four_fit s f ≡ true) → r ≡ every 4 (four_fit s)
fours_fit s r d = is_every (four_fit s) (λ f. four_fit s f ≡ true) 4 r (λ f h. (λ e. e, λ e. e)) d

pub returns-then-paac_fits : goal.returns-then-paac_fits
unfolding terms_fit
returns-then-paac_fits c = let e = fours_fit c.args.part.now c.all.result (search (rules, ranges)) in grind arith

pub returns-else-paac_fits : goal.returns-else-paac_fits
unfolding terms_fit
returns-else-paac_fits c = let e = fours_fit c.args.part.now c.all.result (search (rules, ranges)) in grind arith
