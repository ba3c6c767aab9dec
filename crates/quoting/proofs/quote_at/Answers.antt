-- `quoting::quote_at` meets its contract: behind its checks the tariff of the place is valid, and the numbers read are those of its cell.
-- Assumes nothing.
use mathlib.Core.Path.{◌≡◌, sym, ◌∙◌, ap, ap₂}
use native.Mathlib.Omega.{arith}
use Rattle.laws.proofs.Every.{and_left, and_right}
use Rattle.tariff.specs.Tariff.{valid_tariff}
use Rattle.verdict.specs.Cells.{cell, tariff_numbers}
use Rattle.book.specs.Checks.{figures_of}
use Rattle.book.specs.Book.{tariff_in, sheet_in}
use Rattle.stands.proofs.Placed.{place_lawful, figures_there}
use Rattle.quoting.specs.Quote.{cell_allowed, months_allowed}
use Rattle.quoting.proofs.Ranges.{cell_within}
use Rattle.quoting.proofs.Listed.{months_for}
use Rattle.queries.proofs.Answers.{hands_on, passed_on}
use Rattle.quoting.proofs.Answers.{Passes, passes, sides, quote_there}
use Rattle.quoting.proofs.quote_at.Goals as goal

pub returns-in_default : goal.returns-in_default
returns-in_default c b i there =
    let a = c.args in
    hands_on _ _ _ _ _ _ (quote_there there a.desk a.region a.method a.months.now) c.check_at-checked.ensures c.in_default.is c.refused.ensures

pub numbers_of-e-requires : goal.numbers_of-e-requires
numbers_of-e-requires c =
    let a = c.args in
    -- past the checks
    let passed : Passes a.p a.loaded a.figures.months a.region a.method a.months.now =
    passes c.requires.2 a.desk a.region a.method _ (sym c.check_at-checked.ensures ∙ c.in-Pass.is) in
    let x = c.tariff_in-x.ensures in
    let w = cell_within _ _ _ (and_left (cell_allowed (tariff_in a.p) a.region a.method) _ passed.allows) in
    (place_lawful c.requires.2 passed.loaded, ap valid_tariff x ∙ passed.valid, omega (arith, w.0), w.1)

pub sides_of-sides-requires : goal.sides_of-sides-requires
sides_of-sides-requires c =
    let a = c.args in
    -- past the checks
    let passed : Passes a.p a.loaded a.figures.months a.region a.method a.months.now =
    passes c.requires.2 a.desk a.region a.method _ (sym c.check_at-checked.ensures ∙ c.in-Pass.is) in
    let listed = and_right (cell_allowed (tariff_in a.p) _ _) (months_allowed _ _) passed.allows in
    let x = c.tariff_in-x.ensures in
    (c.numbers_of-e.ensures.1, ap valid_tariff x ∙ passed.valid, months_for _ _ _ _ _ c.numbers_of-e.ensures.0 _ listed)

pub returns : goal.returns
returns c b i there =
    let a = c.args in
    -- past the checks
    let passed : Passes a.p a.loaded a.figures.months a.region a.method a.months.now =
    passes c.requires.2 a.desk a.region a.method _ (sym c.check_at-checked.ensures ∙ c.in-Pass.is) in
    let x : c.tariff_in-x.result ≡ tariff_in a.p = c.tariff_in-x.ensures in
    let same : c.numbers_of-e.result ≡ tariff_numbers (figures_of (sheet_in b)) (tariff_in a.p) (cell a.region a.method) =
    c.numbers_of-e.ensures.0
    ∙ ap₂ (λ f y. tariff_numbers f y (cell a.region a.method)) (figures_there there passed.loaded) x in
    sides a.months.now _ _ _ _ _ _ c.sides_of-sides.ensures.0 c.sides_of-sides.ensures.1 same x
    ∙ passed_on _ _ _ _ (quote_there there a.desk a.region a.method a.months.now) c.check_at-checked.ensures c.in-Pass.is
