-- `standing::may_open` meets its contract.
-- Assumes nothing.
use mathlib.Core.Path.{◌≡◌, refl, sym, ◌∙◌, ap, subst}
use lib.ListN.{length}
use Rattle.tariff.specs.Tariff.{valid_tariff}
use Rattle.verdict.specs.Cells.{first_over}
use Rattle.verdict.specs.Rulings.{Finds}
use Rattle.book.specs.Book.{tariff_in}
use Rattle.standing.proofs.Told.{fails, held, both}
use Rattle.standing.proofs.Recorded.{recorded_exactly}
use Rattle.standing.proofs.Opening.{opens_exactly}
use borrow.Author.Rules.{rules}
use Rattle.standing.proofs.may_open.Goals as goal

-- the tariff is one that PUT accepts exactly where it is valid
pub returns-then-not-is_valid : goal.returns-then-not-is_valid
returns-then-not-is_valid c =
    let p = c.args.p in
    let l : length p.rates ≡ 4 = search rules in
    let m : length p.steps ≡ 4 = search rules in
    let n : length p.regional ≡ 14 = search rules in
    let recorded = recorded_exactly (tariff_in p) l m n _ (c.is_valid.ensures ∙ ap valid_tariff c.tariff_in-x.ensures) in
    λ s h. fails _ recorded c.if-not-is_valid.true (λ q. q.0)

pub returns-then-p : goal.returns-then-p
returns-then-p c =
    let p = c.args.p in
    let l : length p.rates ≡ 4 = search rules in
    let m : length p.steps ≡ 4 = search rules in
    let n : length p.regional ≡ 14 = search rules in
    let recorded = recorded_exactly (tariff_in p) l m n _ (c.is_valid.ensures ∙ ap valid_tariff c.tariff_in-x.ensures) in
    λ s h. opens_exactly p _ _ s h c.if-not-loaded.false (held _ recorded c.if-not-is_valid.false) _ (λ z d. both _ c.if-p.true d) (λ q. refl)

pub returns-in-Nowhere : goal.returns-in-Nowhere
returns-in-Nowhere c =
    let p = c.args.p in
    let l : length p.rates ≡ 4 = search rules in
    let m : length p.steps ≡ 4 = search rules in
    let n : length p.regional ≡ 14 = search rules in
    let recorded = recorded_exactly (tariff_in p) l m n _ (c.is_valid.ensures ∙ ap valid_tariff c.tariff_in-x.ensures) in
    let none_over = ap (first_over _) (sym c.tariff_in-x.ensures) ∙ subst (Finds _ _) c.in-Nowhere.is c.first_over-found.ensures in
    λ s h. opens_exactly p _ _ s h c.if-not-loaded.false (held _ recorded c.if-not-is_valid.false) _ (λ z d. none_over) (λ q. refl)
