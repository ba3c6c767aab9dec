-- `setting::all_judged` meets its contract. The invariant: the places passed are judged, and the others as they were.
-- Assumes nothing.
use mathlib.Core.Path.{◌≡◌, sym, ◌∙◌}
use native.Mathlib.Omega.{arith}
use lib.ListN.{length}
use Rattle.laws.proofs.Filled.{map_filled}
use Rattle.book.specs.Book.{beyond, under}
use borrow.Author.Rules.{rules}
use Rattle.setting.proofs.all_judged.Goals as goal

pub returns : goal.returns
returns c =
    let lp = c.loop-i in
    let l : length c.args.places ≡ 32 = search rules in
    map_filled (under c.args.figures) beyond c.args.places lp.next (lp.invariant.1 ∙ sym l) (λ j h. lp.invariant.2 j (omega (arith, l, c.loop-i-test.false)))
