-- `image_sheets::refusal_of` meets its contract. Each way in which the tests end.
-- Assumes nothing.
use mathlib.Core.Path.{◌≡◌, sym, ◌∙◌}
use mathlib.Core.Bool.{true}
use Rattle.refusal.specs.declared.Check.TheVariants.{Pass}
use Rattle.refusal.proofs.Checks.{unless_passes}
use Rattle.desks.specs.Desks.{is_full}
use Rattle.image.specs.Image.{is_image}
use Rattle.image.proofs.Reading.{image_size}
use Rattle.image_sheets.proofs.Calls.{not_both}
use Rattle.image_sheets.proofs.Tested.{ends_invalid}
use Rattle.image_sheets.proofs.refusal_of.Goals as goal

-- past the first test the words are an image; past the second the desk has all fourteen regions
pub all_valid-requires : goal.all_valid-requires
all_valid-requires c =
    let is_one : is_image c.args.image.now ≡ true = sym c.is_image.ensures ∙ c.if-not-is_image.false in
    image_size _ is_one

pub returns-then-not-all_valid : goal.returns-then-not-all_valid
returns-then-not-all_valid c =
    let is_one : is_image c.args.image.now ≡ true = sym c.is_image.ensures ∙ c.if-not-is_image.false in
    let is-full-desk : is_full c.args.desk ≡ true = (unless_passes _ 17 Pass (sym c.full_check-full.ensures ∙ c.in-Pass.is)).0 in
    let a = c.args in
    ends_invalid a.image.now a.desk a.check is_one is-full-desk
    (λ v. not_both _ c.if-not-all_valid.true (c.all_valid.ensures.1 v))
