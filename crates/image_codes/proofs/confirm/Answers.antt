-- `image_codes::confirm` meets its contract: its place is read, settled and stored as open.
-- Assumes nothing.
use mathlib.Core.Path.{◌≡◌, refl, sym, ◌∙◌, ap}
use mathlib.Core.Bool.{true}
use native.Mathlib.Omega.{arith}
use Rattle.book.specs.Calls.{CONFIRM, by}
use Rattle.book.specs.Book.{Reachable}
use Rattle.book.specs.Promises.{Does}
use Rattle.book.specs.Settling.{settled_in}
use Rattle.codes.specs.declared.CodeAct.TheVariants.{Confirm}
use Rattle.codes.proofs.Places.{acts}
use Rattle.image.specs.Layout.{loaded_at, start_of}
use Rattle.image.specs.Image.{word, flag_of, place_at, figures_in, book_in, is_image}
use Rattle.image.proofs.Reading.{image_size}
use Rattle.image_codes.proofs.Calls.{has_place}
use Rattle.image_codes.proofs.Opening.{handed_on}
use Rattle.image_codes.proofs.confirm.Goals as goal

pub place_at-p-requires : goal.place_at-p-requires
place_at-p-requires c =
    let l = c.args.image.now in
    let one : is_image l ≡ true = sym c.is_image.ensures ∙ c.if-not-is_image.false in
    omega (arith, c.start_of.ensures.1, image_size l one)

pub hand_on-requires : goal.hand_on-requires
hand_on-requires c =
    let l = c.args.image.now in
    let one : is_image l ≡ true = sym c.is_image.ensures ∙ c.if-not-is_image.false in
    (image_size l one, c.index_of-i.ensures.0, omega arith)

pub returns : goal.returns
returns c =
    let l = c.args.image.now in
    let one : is_image l ≡ true = sym c.is_image.ensures ∙ c.if-not-is_image.false in
    let i = c.index_of-i.result in
    let place : c.place_at-p.result ≡ place_at l (start_of i) = c.place_at-p.ensures ∙ ap (place_at l) c.start_of.ensures.0 in
    let does : Reachable (book_in l) → Does (book_in l) (by c.args.desk (CONFIRM c.args.code)) (settled_in (book_in l) i c.confirm_at-settled.result) =
    λ from. (let h = has_place l c.args.code i _ c.index_of-i.ensures place (flag_of (word l loaded_at)) (figures_in l) refl refl from in acts h c.args.desk Confirm c.confirm_at-settled.result c.confirm_at-settled.ensures) in
    handed_on c.args.desk c.args.code Confirm tt l _ i c.place_at-p.result (flag_of (word l loaded_at)) (figures_in l) c.confirm_at-settled.result c.hand_on.result
    one c.index_of-i.ensures.0 place c.confirm_at-settled.ensures does c.hand_on.ensures
