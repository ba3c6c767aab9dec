-- `image_codes::direct` meets its contract: its place is read, settled and stored under a direction.
-- Assumes nothing.
use mathlib.Core.Path.{◌≡◌, refl, sym, ◌∙◌, ap}
use mathlib.Core.Bool.{true}
use native.Mathlib.Omega.{arith}
use Rattle.book.specs.Calls.{DIRECT, by}
use Rattle.book.specs.Book.{with_direction, Reachable}
use Rattle.book.specs.Promises.{Does}
use Rattle.book.specs.Settling.{accepted_by, settled_in}
use Rattle.image.specs.Layout.{loaded_at, start_of}
use Rattle.image.specs.Image.{word, flag_of, place_at, figures_in, book_in, is_image}
use Rattle.image.proofs.Reading.{image_size}
use Rattle.image_codes.proofs.Calls.{has_place, settled_place, refused_on, accepted_on}
use Rattle.image_codes.proofs.direct.Goals as goal

pub place_at-p-requires : goal.place_at-p-requires
place_at-p-requires c =
    let l = c.args.image.now in
    let one : is_image l ≡ true = sym c.is_image.ensures ∙ c.if-not-is_image.false in
    omega (arith, c.start_of.ensures.1, image_size l one)

pub returns-then-not-accepted_by : goal.returns-then-not-accepted_by
returns-then-not-accepted_by c =
    let l = c.args.image.now in
    let one : is_image l ≡ true = sym c.is_image.ensures ∙ c.if-not-is_image.false in
    let i = c.index_of-i.result in
    let place : c.place_at-p.result ≡ place_at l (start_of i) = c.place_at-p.ensures ∙ ap (place_at l) c.start_of.ensures.0 in
    let does : Reachable (book_in l) → Does (book_in l) (by c.args.desk (DIRECT c.args.code)) (settled_in (book_in l) i c.direct_at-settled.result) =
    λ from. (let h = has_place l c.args.code i _ c.index_of-i.ensures place (flag_of (word l loaded_at)) (figures_in l) refl refl from in c.direct_at-settled.ensures.1 _ _ _ _ h) in
    refused_on _ _ _ _ one does _ c.number_of.ensures (sym c.accepted_by.ensures ∙ c.if-not-accepted_by.true)

pub store_direction-requires : goal.store_direction-requires
store_direction-requires c =
    let l = c.args.image.now in
    let one : is_image l ≡ true = sym c.is_image.ensures ∙ c.if-not-is_image.false in
    (image_size l one, c.index_of-i.ensures.0)

pub returns : goal.returns
returns c =
    let l = c.args.image.now in
    let one : is_image l ≡ true = sym c.is_image.ensures ∙ c.if-not-is_image.false in
    let i = c.index_of-i.result in
    let place : c.place_at-p.result ≡ place_at l (start_of i) = c.place_at-p.ensures ∙ ap (place_at l) c.start_of.ensures.0 in
    let does : Reachable (book_in l) → Does (book_in l) (by c.args.desk (DIRECT c.args.code)) (settled_in (book_in l) i c.direct_at-settled.result) =
    λ from. (let h = has_place l c.args.code i _ c.index_of-i.ensures place (flag_of (word l loaded_at)) (figures_in l) refl refl from in c.direct_at-settled.ensures.1 _ _ _ _ h) in
    -- accepted
    let taken : accepted_by c.direct_at-settled.result.reply ≡ true = sym c.accepted_by.ensures ∙ c.if-not-accepted_by.false in
    accepted_on _ _ _ _ one does _ _ c.index_of-i.ensures.0 taken c.store_direction.ensures (settled_place _ _ _ _ _ c.direct_at-settled.ensures.0 taken ∙ ap with_direction place)
