-- `image_queries::maximum` meets its contract.
-- Assumes nothing.
use mathlib.Core.Path.{◌≡◌, refl, sym, ◌∙◌, ap, subst}
use mathlib.Core.Bool.{true}
use mathlib.Core.List.{List}
use Prim.Native.Nat.{ℕ, ◌*◌}
use native.Mathlib.Omega.{arith}
use lib.Dec.{leb}
use Rattle.refusal.specs.declared.Check.{Check}
use Rattle.refusal.specs.declared.Check.TheVariants.{Pass}
use Rattle.cap.specs.declared.CellNumbers.{CellNumbers}
use Rattle.cap.specs.Cap.{maximum}
use Rattle.cap.specs.Corners.{Fits}
use Rattle.verdict.specs.Cells.{cell, cell_numbers}
use Rattle.book.specs.declared.Book.{Book}
use Rattle.queries.specs.Queries.{Telling, maximum_of, maximum_charge}
use Rattle.queries.proofs.Ranges.{Within, within}
use Rattle.image.specs.Image.{book_in}
use Rattle.image.proofs.Reading.{image_size}
use Rattle.image_queries.specs.Reading.{asked_in}
use Rattle.image_queries.specs.Tells.{TellsFraction}
use Rattle.image_queries.proofs.Told.{refuted, not_reached, refuses, gives}
use Rattle.image_queries.proofs.InForce.{asked_numbered, asked_passes, maximum_in_lem, figures_told, cell_fits}
use Rattle.image_queries.proofs.maximum.Goals as goal

-- past the checks
passed : (l : List ℕ) (desk r a p n : ℕ) (k : Check) → k ≡ asked_in l desk r a p (leb n 120000) → k ≡ Pass
    → Within r a p (leb n 120000) × ((book_in l).loaded ≡ true)
passed l desk r a p n k by e =
    let both = asked_passes l desk r a p n (leb n 120000) (sym by ∙ e) in
    (within _ _ _ _ both.0, both.1)

-- Each of these goals lies behind the test that the words are an image.
pub asked_of-checked-requires : goal.asked_of-checked-requires
asked_of-checked-requires c = image_size c.args.image.now (sym c.is_image.ensures ∙ c.if-not-is_image.false)

pub numbers_at-e-requires : goal.numbers_at-e-requires
numbers_at-e-requires c =
    let a = c.args in
    let w = (passed a.image.now a.desk a.region a.arrangement a.method a.total _ c.asked_of-checked.ensures c.in-Pass.is).0 in
    (image_size a.image.now (sym c.is_image.ensures ∙ c.if-not-is_image.false), w.arrangement, w.region, w.method)

pub returns-then-not-fits : goal.returns-then-not-fits
returns-then-not-fits c =
    let a = c.args in
    let l = a.image.now in
    let asks = λ (b : Book). maximum_of b a.desk a.region a.arrangement a.method a.total in
    let past = passed l a.desk a.region a.arrangement a.method a.total _ c.asked_of-checked.ensures c.in-Pass.is in
    let w = past.0 in
    let fails = refuted _ _ c.fits.ensures.1 c.if-not-fits.true in
    subst (TellsFraction l asks) (sym c.no_fraction-then-not-fits.ensures)
    (not_reached l asks _ _ (sym c.is_image.ensures ∙ c.if-not-is_image.false)
    (λ from. fails (subst Fits (sym c.numbers_at-e.ensures) (cell_fits l from past.1 a.region a.arrangement a.method 0 w.region w.arrangement w.method (omega arith)))) (refl, refl))

pub returns-in-Refuse : goal.returns-in-Refuse
returns-in-Refuse c =
    let a = c.args in
    let l = a.image.now in
    let asks = λ (b : Book). maximum_of b a.desk a.region a.arrangement a.method a.total in
    subst (TellsFraction l asks) (sym c.no_fraction-in-Refuse.ensures)
    (refuses l asks _ _ (sym c.is_image.ensures ∙ c.if-not-is_image.false) _ _ (λ from. maximum_in_lem l a.desk a.region a.arrangement a.method a.total) _ (sym c.asked_of-checked.ensures ∙ c.in-Refuse.is)
    (asked_numbered l a.desk a.region a.arrangement a.method a.total (leb a.total 120000)) (refl, refl))

pub returns-else-not-fits : goal.returns-else-not-fits
returns-else-not-fits c =
    let a = c.args in
    let l = a.image.now in
    let asks = λ (b : Book). maximum_of b a.desk a.region a.arrangement a.method a.total in
    let past = passed l a.desk a.region a.arrangement a.method a.total _ c.asked_of-checked.ensures c.in-Pass.is in
    let most = c.maximum_of-most.ensures.0 ∙ ap (maximum c.numbers_at-e.result) c.wide.ensures in
    gives l asks _ _ (sym c.is_image.ensures ∙ c.if-not-is_image.false) _ _ (λ from. maximum_in_lem l a.desk a.region a.arrangement a.method a.total) (sym c.asked_of-checked.ensures ∙ c.in-Pass.is)
    (λ from. ap (λ (n : ℕ). maximum_charge (record { number = n; denominator = 12 * c.numbers_at-e.result.m })) most
    ∙ ap {B = Telling} (λ (d : CellNumbers). maximum_charge (record { number = maximum d a.total; denominator = 12 * d.m }))
    (c.numbers_at-e.ensures ∙ ap (λ f. cell_numbers f a.arrangement 0 (cell a.region a.method)) (figures_told l from past.1)))
