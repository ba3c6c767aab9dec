-- `setting::states_of` meets its contract: the closure's answers are the states.
-- Assumes nothing.
use Rattle.std.proofs.Common.{rules, ◌≡◌, sym, ◌∙◌, length}
use native.Mathlib.Omega.{arith}
use Rattle.laws.proofs.Filled.{map_filled}
use Rattle.book.specs.declared.Place.{Place}
use Rattle.book.specs.declared.State.TheVariants.{Empty}
use Rattle.book.specs.Book.{beyond, stood_as}
use Rattle.setting.proofs.states_of.Goals as goal

pub returns : goal.returns
returns c =
    let l : length c.args.places ≡ 32 = search rules in
    map_filled (λ (p : Place). stood_as p.state) beyond c.args.places c.map.result (c.map.ensures.items.long ∙ sym l)
    (λ j h. let each = c.map.ensures.items.at j beyond (stood_as Empty) (omega (arith, l)) in search rules)
