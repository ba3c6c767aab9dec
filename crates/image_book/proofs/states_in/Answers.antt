-- `image_book::states_in` meets its contract.
-- Assumes nothing.
use Rattle.std.proofs.Common.{rules}
use Rattle.book.specs.declared.State.TheVariants.{Empty}
use Rattle.book.specs.Book.{stood_as}
use Rattle.image_book.proofs.Whole.{are_states}
use Rattle.image_book.proofs.states_in.Goals as goal

pub returns : goal.returns
returns c =
    let all = c.map.ensures.items in
    are_states _ _ all.long (λ i h. let made = all.at i 0 (stood_as Empty) h in search rules)
