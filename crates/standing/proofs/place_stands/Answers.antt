-- `standing::place_stands` meets its contract.
-- Assumes nothing.
use mathlib.Core.Path.{◌≡◌, ◌∙◌, ap}
use lib.ListN.{length}
use Rattle.tariff.specs.Tariff.{valid_tariff}
use Rattle.book.specs.Book.{tariff_in}
use Rattle.standing.proofs.Recorded.{recorded_exactly}
use Rattle.standing.proofs.Opening.{in_state}
use borrow.Author.Rules.{rules}
use Rattle.standing.proofs.place_stands.Goals as goal

pub returns-in-Draft : goal.returns-in-Draft
returns-in-Draft c =
    let p = c.args.p in
    let l : length p.rates ≡ 4 = search rules in
    let m : length p.steps ≡ 4 = search rules in
    let n : length p.regional ≡ 14 = search rules in
    λ s h. in_state _ p _ c.in-Draft.is _ (recorded_exactly (tariff_in p) l m n _ (c.is_valid.ensures ∙ ap valid_tariff c.tariff_in-x.ensures))
