-- `queries::maximum` meets its contract: behind 13, 17 and 10 it works with the numbers of the cell.
-- Assumes nothing.
use mathlib.Core.Path.{◌≡◌, sym, ◌∙◌, ap, ap₂}
use mathlib.Core.Bool.{true, ◌&&◌}
use Prim.Native.Nat.{ℕ, ◌*◌}
use native.Mathlib.Omega.{arith}
use lib.Dec.{leb}
use Rattle.refusal.specs.declared.Check.TheVariants.{Pass}
use Rattle.refusal.specs.Checks.{unless, first}
use Rattle.refusal.proofs.Checks.{unless_passes, first_passes}
use Rattle.cap.specs.declared.CellNumbers.{CellNumbers}
use Rattle.cap.specs.Cap.{maximum}
use Rattle.stands.proofs.InForce.{figures_are, figures_lawful}
use Rattle.desks.specs.Desks.{may_query}
use Rattle.queries.specs.Queries.{Telling, maximum_charge, in_ranges}
use Rattle.verdict.specs.Cells.{cell, cell_numbers}
use Rattle.queries.proofs.Ranges.{within}
use Rattle.queries.proofs.Answers.{hands_on, passed_on, maximum_answer}
use Rattle.queries.proofs.maximum.Goals as goal

pub returns-in_default : goal.returns-in_default
returns-in_default c =
    -- the checks, one after the other
    let checks : let a = c.args in c.first-checked.result ≡ first (first (unless (in_ranges a.region a.arrangement a.method && leb a.total 120000) 13 Pass) (unless (may_query a.desk a.region) 17 Pass)) (unless a.b.loaded 10 Pass) = c.first-checked.ensures ∙ ap₂ first c.asked_check-asked.ensures c.sheet_check.ensures in
    let a = c.args in
    hands_on _ _ _ _ _ _ (maximum_answer a.b a.desk a.region a.arrangement a.method a.total) checks c.in_default.is c.refused.ensures

pub numbers_in-e-requires : goal.numbers_in-e-requires
numbers_in-e-requires c =
    -- the checks, one after the other
    let checks : let a = c.args in c.first-checked.result ≡ first (first (unless (in_ranges a.region a.arrangement a.method && leb a.total 120000) 13 Pass) (unless (may_query a.desk a.region) 17 Pass)) (unless a.b.loaded 10 Pass) = c.first-checked.ensures ∙ ap₂ first c.asked_check-asked.ensures c.sheet_check.ensures in
    -- past them
    let passed : let a = c.args in ((in_ranges a.region a.arrangement a.method && leb a.total 120000) ≡ true) × (a.b.loaded ≡ true) =
    let both = first_passes _ _ (sym checks ∙ c.in-Pass.is) in
    ((unless_passes _ 13 Pass (first_passes _ _ both.0).0).0, (unless_passes _ 10 Pass both.1).0) in
    let w = within _ _ _ _ passed.0 in
    (figures_lawful c.args.b c.requires passed.1, w.arrangement, omega arith, w.region, w.method)

pub returns : goal.returns
returns c =
    -- the checks, one after the other
    let checks : let a = c.args in c.first-checked.result ≡ first (first (unless (in_ranges a.region a.arrangement a.method && leb a.total 120000) 13 Pass) (unless (may_query a.desk a.region) 17 Pass)) (unless a.b.loaded 10 Pass) = c.first-checked.ensures ∙ ap₂ first c.asked_check-asked.ensures c.sheet_check.ensures in
    -- past them
    let passed : let a = c.args in ((in_ranges a.region a.arrangement a.method && leb a.total 120000) ≡ true) × (a.b.loaded ≡ true) =
    let both = first_passes _ _ (sym checks ∙ c.in-Pass.is) in
    ((unless_passes _ 13 Pass (first_passes _ _ both.0).0).0, (unless_passes _ 10 Pass both.1).0) in
    let a = c.args in
    let most = c.maximum_of-most.ensures.0 ∙ ap (maximum c.numbers_in-e.result) c.wide.ensures in
    ap (λ (n : ℕ). maximum_charge (record { number = n; denominator = 12 * c.numbers_in-e.result.m })) most
    ∙ ap {B = Telling} (λ (d : CellNumbers). maximum_charge (record { number = maximum d a.total; denominator = 12 * d.m }))
    (c.numbers_in-e.ensures.0 ∙ ap (λ c. cell_numbers c a.arrangement 0 (cell a.region a.method)) (figures_are a.b c.requires passed.1))
    ∙ passed_on _ _ _ _ (maximum_answer a.b a.desk a.region a.arrangement a.method a.total) checks c.in-Pass.is
