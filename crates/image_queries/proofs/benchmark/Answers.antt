-- `image_queries::benchmark` meets its contract.
-- Assumes nothing.
use mathlib.Core.Path.{◌≡◌, refl, sym, ◌∙◌, ap, subst}
use mathlib.Core.List.{List}
use mathlib.Core.Bool.{true}
use Prim.Native.Nat.{ℕ, ◌+◌}
use native.Mathlib.Omega.{arith}
use lib.Dec.{ltb}
use lib.IntN.{pos}
use borrow.Author.Tests.{ltb-true}
use Rattle.refusal.specs.declared.Check.{Check}
use Rattle.refusal.specs.declared.Check.TheVariants.{Pass}
use Rattle.book.specs.declared.Book.{Book}
use Rattle.queries.specs.Queries.{benchmark_of, benchmark_charge}
use Rattle.queries.proofs.Ranges.{Within, within}
use Rattle.image.specs.Layout.{charges_at}
use Rattle.image.specs.Image.{word, book_in}
use Rattle.image.proofs.Reading.{image_size}
use Rattle.image_queries.specs.Reading.{asked_in}
use Rattle.image_queries.specs.Tells.{TellsCharge}
use Rattle.image_queries.proofs.Told.{refuses, gives}
use Rattle.image_queries.proofs.InForce.{asked_numbered, asked_passes, benchmark_in, charge_told}
use Rattle.image_queries.proofs.benchmark.Goals as goal

-- past the checks
passed : (l : List ℕ) (desk r a p n : ℕ) (k : Check) → k ≡ asked_in l desk r a p (ltb n 2) → k ≡ Pass
    → Within r a p (ltb n 2) × ((book_in l).loaded ≡ true)
passed l desk r a p n k by e =
    let both = asked_passes l desk r a p n (ltb n 2) (sym by ∙ e) in
    (within _ _ _ _ both.0, both.1)

-- Each of these goals lies behind the test that the words are an image.
pub asked_of-checked-requires : goal.asked_of-checked-requires
asked_of-checked-requires c = image_size c.args.image.now (sym c.is_image.ensures ∙ c.if-not-is_image.false)

pub bounds-image-at : goal.bounds-image-at
bounds-image-at c =
    omega (arith, c.figure_index-at.ensures.1, image_size c.args.image.now (sym c.is_image.ensures ∙ c.if-not-is_image.false))

pub returns-in-Refuse : goal.returns-in-Refuse
returns-in-Refuse c =
    let a = c.args in
    let l = a.image.now in
    let asks = λ (b : Book). benchmark_of b a.desk a.region a.arrangement a.method a.level in
    subst (TellsCharge l asks) (sym c.no_charge-in-Refuse.ensures)
    (refuses l asks _ _ (sym c.is_image.ensures ∙ c.if-not-is_image.false) _ _ (λ from. benchmark_in l a.desk a.region a.arrangement a.method a.level) _ (sym c.asked_of-checked.ensures ∙ c.in-Refuse.is)
    (asked_numbered l a.desk a.region a.arrangement a.method a.level (ltb a.level 2)) refl)

pub returns-in-Pass : goal.returns-in-Pass
returns-in-Pass c =
    let a = c.args in
    let l = a.image.now in
    let asks = λ (b : Book). benchmark_of b a.desk a.region a.arrangement a.method a.level in
    let past = passed l a.desk a.region a.arrangement a.method a.level _ c.asked_of-checked.ensures c.in-Pass.is in
    let w = past.0 in
    gives l asks _ _ (sym c.is_image.ensures ∙ c.if-not-is_image.false) _ _ (λ from. benchmark_in l a.desk a.region a.arrangement a.method a.level) (sym c.asked_of-checked.ensures ∙ c.in-Pass.is)
    (λ from. ap benchmark_charge (ap (λ (k : ℕ). pos (word l (charges_at + k))) c.figure_index-at.ensures.0
    ∙ charge_told l from past.1 a.region a.arrangement a.method a.level w.region w.arrangement w.method (ltb-true a.level 2 w.fourth)))
