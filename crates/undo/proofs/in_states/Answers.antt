-- `undo::in_states` meets its contract. The invariant: the places passed are in the states that they had, and the others as they were.
-- Assumes nothing.
use mathlib.Core.Path.{◌≡◌, sym, ◌∙◌}
use native.Mathlib.Omega.{arith}
use lib.ListN.{length}
use Rattle.laws.proofs.Filled.{zip_filled}
use Rattle.book.specs.declared.State.TheVariants.{Empty}
use Rattle.book.specs.declared.Stood.{Stood}
use Rattle.book.specs.Book.{with_state, beyond, stood_as}
use borrow.Author.Rules.{rules}
use Rattle.undo.proofs.in_states.Goals as goal

pub returns : goal.returns
returns c =
    let lp = c.loop-i in
    let l : length c.args.places ≡ 32 = search rules in
    let m : length c.args.states ≡ 32 = search rules in
    zip_filled (λ (s : Stood). with_state s.state) (stood_as Empty) beyond c.args.states c.args.places lp.next (m ∙ sym l) (lp.invariant.1 ∙ sym l)
    (λ j h. lp.invariant.2 j (omega (arith, l, c.loop-i-test.false)))
