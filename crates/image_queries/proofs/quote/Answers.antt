-- `image_queries::quote` meets its contract.
-- Assumes nothing.
use mathlib.Core.Path.{◌≡◌, refl, sym, ◌∙◌, ap, ap₂, subst}
use mathlib.Core.List.{List}
use Prim.Native.Nat.{ℕ, ◌<◌}
use native.Mathlib.Omega.{arith}
use Rattle.laws.proofs.Every.{and_left, and_right}
use Rattle.refusal.specs.declared.Check.{Check}
use Rattle.refusal.specs.declared.Check.TheVariants.{Pass}
use Rattle.tariff.specs.declared.Tariff.{Tariff}
use Rattle.tariff.specs.Tariff.{valid_tariff}
use Rattle.cap.specs.Corners.{Fits}
use Rattle.verdict.specs.Cells.{cell, cell_numbers, tariff_numbers}
use Rattle.book.specs.declared.Place.{Place}
use Rattle.book.specs.declared.Book.{Book}
use Rattle.book.specs.Book.{tariff_in}
use Rattle.stands.specs.Stands.{HoldsValid}
use Rattle.quoting.specs.Quote.{cell_allowed, months_allowed, quote_of}
use Rattle.quoting.specs.Reading.{check_at}
use Rattle.quoting.proofs.Ranges.{cell_within}
use Rattle.quoting.proofs.Answers.{Passes, sides}
use Rattle.image.specs.Layout.{loaded_at, months_at, start_of}
use Rattle.image.specs.Image.{word, flag_of, place_at, figures_in}
use Rattle.image.proofs.Reading.{image_size}
use Rattle.image_tests.proofs.Reachable.{holds_there}
use Rattle.image_queries.specs.Tells.{TellsQuotation}
use Rattle.image_queries.proofs.Told.{refuted, not_reached, refuses, gives}
use Rattle.image_queries.proofs.InForce.{loaded_in, figures_told, cell_fits}
use Rattle.image_queries.proofs.Placed.{quote_numbered, quote_passes, quote_in, months_in_lem}
use Rattle.image_queries.proofs.quote.Goals as goal

-- the place of the code, as the code comes to it: `p` is read at `at`, the start of the place at index `i`
module _ (l : List ℕ) (i at : ℕ) (starts : at ≡ start_of i) (p : Place) (read : p ≡ place_at l at) where
  place_is : p ≡ place_at l (start_of i)
  place_is = read ∙ ap (place_at l) starts

  -- its tariff, and the numbers of the cell
  tariff-is : (x : Tariff) → x ≡ tariff_in p → x ≡ tariff_in (place_at l (start_of i))
  tariff-is x e = e ∙ ap tariff_in place_is

  -- the checks on it
  module _ (desk code r m : ℕ) (months : List ℕ) (k : Check)
      (by : k ≡ check_at desk code p (flag_of (word l loaded_at)) (word l months_at) r m months) where
    checks : k ≡ check_at desk code (place_at l (start_of i)) (flag_of (word l loaded_at)) (word l months_at) r m months
    checks =
        by ∙ ap (λ (q : Place). check_at desk code q (flag_of (word l loaded_at)) (word l months_at) r m months) place_is

    -- past them: the tariff is valid, and cell and months are allowed
    passed : HoldsValid (place_at l at) → k ≡ Pass → Passes (place_at l (start_of i)) (flag_of (word l loaded_at)) (word l months_at) r m months
    passed h e =
        quote_passes desk code (place_at l (start_of i)) (flag_of (word l loaded_at)) (word l months_at) r m months
        (subst (λ (n : ℕ). HoldsValid (place_at l n)) starts h) (sym checks ∙ e)

    in_cell : HoldsValid (place_at l at) → k ≡ Pass → (r < 14) × (m < 2)
    in_cell h e = cell_within (tariff_in (place_at l (start_of i))) r m (and_left _ _ (passed h e).allows)

-- Each of these goals lies behind the test that the words are an image.
pub place_at-p-requires : goal.place_at-p-requires
place_at-p-requires c =
    omega (arith, c.start_of-at.ensures.1, image_size c.args.image.now (sym c.is_image.ensures ∙ c.if-not-is_image.false))

pub bounds-image-1 : goal.bounds-image-1
bounds-image-1 c = omega (arith, image_size c.args.image.now (sym c.is_image.ensures ∙ c.if-not-is_image.false))

pub bounds-image-216 : goal.bounds-image-216
bounds-image-216 c = omega (arith, image_size c.args.image.now (sym c.is_image.ensures ∙ c.if-not-is_image.false))

pub holds_valid-requires : goal.holds_valid-requires
holds_valid-requires c =
    omega (arith, c.start_of-at.ensures.1, image_size c.args.image.now (sym c.is_image.ensures ∙ c.if-not-is_image.false))

pub returns-then-not-holds_valid : goal.returns-then-not-holds_valid
returns-then-not-holds_valid c =
    let a = c.args in
    let l = a.image.now in
    let asks = λ (b : Book). quote_of b a.desk a.code a.region a.method a.months.now in
    let fails = refuted _ _ c.holds_valid.ensures.1 c.if-not-holds_valid.true in
    subst (TellsQuotation l asks) (sym c.no_quotation-then-not-holds_valid.ensures)
    (not_reached l asks _ _ (sym c.is_image.ensures ∙ c.if-not-is_image.false)
    (λ from. fails (subst (λ (k : ℕ). HoldsValid (place_at l k)) (sym c.start_of-at.ensures.0) (holds_there l from c.index_of.result c.index_of.ensures.0))) (refl, refl))

pub standing_in-standing-requires : goal.standing_in-standing-requires
standing_in-standing-requires c =
    let a = c.args in
    let l = a.image.now in
    let i = c.index_of.result in
    let starts = c.start_of-at.ensures.0 in
    let read = c.place_at-p.ensures in
    let holds = c.holds_valid.ensures.0 c.if-not-holds_valid.false in
    let past = passed l i _ starts _ read a.desk a.code a.region a.method a.months.now _ c.check_at-checked.ensures holds c.in-Pass.is in
    (ap valid_tariff (tariff-is l i _ starts _ read _ c.tariff_in-x.ensures) ∙ past.valid, (in_cell l i _ starts _ read a.desk a.code a.region a.method a.months.now _ c.check_at-checked.ensures holds c.in-Pass.is).0)

pub numbers_at-e-requires : goal.numbers_at-e-requires
numbers_at-e-requires c =
    let a = c.args in
    let l = a.image.now in
    let holds = c.holds_valid.ensures.0 c.if-not-holds_valid.false in
    let cells = in_cell l c.index_of.result _ c.start_of-at.ensures.0 _ c.place_at-p.ensures a.desk a.code a.region a.method a.months.now _ c.check_at-checked.ensures holds c.in-Pass.is in
    (image_size l (sym c.is_image.ensures ∙ c.if-not-is_image.false), c.arrangement_of.ensures.1, cells.0, cells.1)

pub returns-then-not-fits : goal.returns-then-not-fits
returns-then-not-fits c =
    let a = c.args in
    let l = a.image.now in
    let i = c.index_of.result in
    let starts = c.start_of-at.ensures.0 in
    let read = c.place_at-p.ensures in
    let asks = λ (b : Book). quote_of b a.desk a.code a.region a.method a.months.now in
    let holds = c.holds_valid.ensures.0 c.if-not-holds_valid.false in
    let past = passed l i _ starts _ read a.desk a.code a.region a.method a.months.now _ c.check_at-checked.ensures holds c.in-Pass.is in
    let cells = in_cell l i _ starts _ read a.desk a.code a.region a.method a.months.now _ c.check_at-checked.ensures holds c.in-Pass.is in
    let fails = refuted _ _ c.fits.ensures.1 c.if-not-fits.true in
    subst (TellsQuotation l asks) (sym c.no_quotation-then-not-fits.ensures)
    (not_reached l asks _ _ (sym c.is_image.ensures ∙ c.if-not-is_image.false)
    (λ from. fails (subst Fits (sym c.numbers_at-e.ensures) (cell_fits l from (loaded_in l ∙ past.loaded) a.region c.arrangement_of.result a.method c.standing_in-standing.result cells.0 c.arrangement_of.ensures.1 cells.1 c.standing_in-standing.ensures.1))) (refl, refl))

pub sides_of-sides-requires : goal.sides_of-sides-requires
sides_of-sides-requires c =
    let a = c.args in
    let l = a.image.now in
    let i = c.index_of.result in
    let starts = c.start_of-at.ensures.0 in
    let read = c.place_at-p.ensures in
    let holds = c.holds_valid.ensures.0 c.if-not-holds_valid.false in
    let past = passed l i _ starts _ read a.desk a.code a.region a.method a.months.now _ c.check_at-checked.ensures holds c.in-Pass.is in
    let listed = and_right (cell_allowed (tariff_in (place_at l (start_of i))) a.region a.method) (months_allowed _ _) past.allows in
    (c.fits.ensures.0 c.if-not-fits.false, ap valid_tariff (tariff-is l i _ starts _ read _ c.tariff_in-x.ensures) ∙ past.valid, months_in_lem l _ _ _ _ c.numbers_at-e.ensures _ listed)

pub returns-in-Refuse : goal.returns-in-Refuse
returns-in-Refuse c =
    let a = c.args in
    let l = a.image.now in
    let i = c.index_of.result in
    let asks = λ (b : Book). quote_of b a.desk a.code a.region a.method a.months.now in
    let checked = checks l i _ c.start_of-at.ensures.0 _ c.place_at-p.ensures a.desk a.code a.region a.method a.months.now _ c.check_at-checked.ensures in
    subst (TellsQuotation l asks) (sym c.no_quotation-in-Refuse.ensures)
    (refuses l asks _ _ (sym c.is_image.ensures ∙ c.if-not-is_image.false) _ _ (λ from. quote_in l a.code i c.index_of.ensures.0 c.index_of.ensures.1 from a.desk a.region a.method a.months.now) _ (sym checked ∙ c.in-Refuse.is)
    (quote_numbered a.desk a.code (place_at l (start_of i)) (flag_of (word l loaded_at)) (word l months_at) a.region a.method a.months.now) (refl, refl))

pub returns-else-not-fits : goal.returns-else-not-fits
returns-else-not-fits c =
    let a = c.args in
    let l = a.image.now in
    let i = c.index_of.result in
    let starts = c.start_of-at.ensures.0 in
    let read = c.place_at-p.ensures in
    let asks = λ (b : Book). quote_of b a.desk a.code a.region a.method a.months.now in
    let holds = c.holds_valid.ensures.0 c.if-not-holds_valid.false in
    let checked = checks l i _ starts _ read a.desk a.code a.region a.method a.months.now _ c.check_at-checked.ensures in
    let past = passed l i _ starts _ read a.desk a.code a.region a.method a.months.now _ c.check_at-checked.ensures holds c.in-Pass.is in
    let x = tariff-is l i _ starts _ read _ c.tariff_in-x.ensures in
    let here = cell a.region a.method in
    let numbers : c.numbers_at-e.result ≡ tariff_numbers (figures_in l) (tariff_in (place_at l (start_of i))) here =
    c.numbers_at-e.ensures
    ∙ ap₂ (λ (j k : ℕ). cell_numbers (figures_in l) j k here) c.arrangement_of.ensures.0 c.standing_in-standing.ensures.0
    ∙ ap (λ (y : Tariff). tariff_numbers (figures_in l) y here) x in
    gives l asks _ _ (sym c.is_image.ensures ∙ c.if-not-is_image.false) _ _ (λ from. quote_in l a.code i c.index_of.ensures.0 c.index_of.ensures.1 from a.desk a.region a.method a.months.now) (sym checked ∙ c.in-Pass.is)
    (λ from. sides a.months.now _ _ _ _ _ _ c.sides_of-sides.ensures.0 c.sides_of-sides.ensures.1
    (numbers ∙ ap (λ f. tariff_numbers f (tariff_in (place_at l (start_of i))) here) (figures_told l from (loaded_in l ∙ past.loaded))) x)
