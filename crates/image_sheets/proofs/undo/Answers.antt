-- `image_sheets::undo` meets its contract.
-- Assumes nothing.
use mathlib.Core.Path.{◌≡◌, refl, sym, ◌∙◌}
use mathlib.Core.Bool.{true}
use native.Mathlib.Omega.{arith}
use borrow.Author.Tests.{eq-eqb, ne_eqb}
use Rattle.refusal.specs.declared.Check.TheVariants.{Pass}
use Rattle.refusal.proofs.Checks.{unless_passes}
use Rattle.desks.specs.Desks.{is_full}
use Rattle.book.specs.Calls.{UNDO, by}
use Rattle.image.specs.Image.{is_image}
use Rattle.image.proofs.Reading.{image_size}
use Rattle.image_sheets.proofs.Calls.{call_refused, call_outside, call_made}
use Rattle.image_sheets.proofs.Back.{kept_flag, undo_answer_lem}
use Rattle.image_sheets.proofs.undo.Goals as goal

-- past the first test the words are an image; past the second the desk has all fourteen regions
pub returns-in_default : goal.returns-in_default
returns-in_default c =
    let is_one : is_image c.args.image.now ≡ true = sym c.is_image.ensures ∙ c.if-not-is_image.false in
    let a = c.args in
    call_outside (by a.desk UNDO) a.image.now is_one _ refl _ _ _ c.full_check-full.ensures c.in_default.is c.number_of_check.ensures

pub bounds-image-218 : goal.bounds-image-218
bounds-image-218 c =
    let is_one : is_image c.args.image.now ≡ true = sym c.is_image.ensures ∙ c.if-not-is_image.false in
    omega (arith, image_size _ is_one)

pub returns-then-image-ne1 : goal.returns-then-image-ne1
returns-then-image-ne1 c =
    let is_one : is_image c.args.image.now ≡ true = sym c.is_image.ensures ∙ c.if-not-is_image.false in
    let is-full-desk : is_full c.args.desk ≡ true = (unless_passes _ 17 Pass (sym c.full_check-full.ensures ∙ c.in-Pass.is)).0 in
    let a = c.args in
    let l = a.image.now in
    call_refused (by a.desk UNDO) l is_one 15
    (undo_answer_lem a.desk _ _ is-full-desk (kept_flag l ∙ ne_eqb _ _ c.if-image-ne1.true))

pub take_back-requires : goal.take_back-requires
take_back-requires c =
    let is_one : is_image c.args.image.now ≡ true = sym c.is_image.ensures ∙ c.if-not-is_image.false in
    (image_size _ is_one, kept_flag _ ∙ eq-eqb _ _ c.if-image-ne1.false)

pub returns : goal.returns
returns c =
    let is_one : is_image c.args.image.now ≡ true = sym c.is_image.ensures ∙ c.if-not-is_image.false in
    let is-full-desk : is_full c.args.desk ≡ true = (unless_passes _ 17 Pass (sym c.full_check-full.ensures ∙ c.in-Pass.is)).0 in
    let a = c.args in
    let l = a.image.now in
    call_made (by a.desk UNDO) l is_one _
    (undo_answer_lem a.desk _ _ is-full-desk (kept_flag l ∙ eq-eqb _ _ c.if-image-ne1.false)) c.take_back.ensures
