-- `standing::same_states` meets its contract. The invariant: the states passed are the same.
-- Assumes nothing.
use mathlib.Core.Path.{◌≡◌, refl, sym, ◌∙◌}
use native.Mathlib.Omega.{arith}
use lib.ListN.{length}
use lib.Seq.{ext_get_or}
use Rattle.book.specs.declared.State.TheVariants.{Empty}
use Rattle.book.specs.Book.{stood_as}
use borrow.Author.Rules.{rules}
use Rattle.standing.proofs.same_states.Goals as goal

pub returns : goal.returns
returns c =
    let lp = c.loop-at in
    let l : length c.args.a ≡ 32 = search rules in
    let m : length c.args.b ≡ 32 = search rules in
    (λ z. ext_get_or (stood_as Empty) _ _ (l ∙ sym m) (λ j h. lp.invariant.1 j (omega (arith, l, c.loop-at-test.false))), λ e. refl)
