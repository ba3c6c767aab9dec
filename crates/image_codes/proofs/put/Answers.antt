-- `image_codes::put` meets its contract: its place is read, settled and stored with the record, which has 27 numbers where it is accepted.
-- Assumes nothing.
use mathlib.Core.Path.{◌≡◌, refl, sym, ◌∙◌, ap}
use mathlib.Core.Bool.{true}
use native.Mathlib.Omega.{arith}
use lib.ListN.{length}
use Rattle.tariff.specs.Tariff.{record_length}
use Rattle.book.specs.Calls.{PUT, by}
use Rattle.book.specs.Book.{Reachable}
use Rattle.book.specs.Promises.{Does}
use Rattle.book.specs.Settling.{accepted_by, settled_in}
use Rattle.image.specs.Layout.{loaded_at, start_of}
use Rattle.image.specs.Image.{word, flag_of, place_at, figures_in, book_in, is_image}
use Rattle.image.proofs.Reading.{image_size}
use Rattle.image_codes.proofs.Calls.{has_place, settled_place, put_length, refused_on, accepted_on}
use Rattle.image_codes.proofs.put.Goals as goal

pub place_at-p-requires : goal.place_at-p-requires
place_at-p-requires c =
    let l = c.args.image.now in
    let one : is_image l ≡ true = sym c.is_image.ensures ∙ c.if-not-is_image.false in
    omega (arith, c.start_of.ensures.1, image_size l one)

pub returns-then-not-accepted_by : goal.returns-then-not-accepted_by
returns-then-not-accepted_by c =
    let l = c.args.image.now in
    let one : is_image l ≡ true = sym c.is_image.ensures ∙ c.if-not-is_image.false in
    let i = c.index_of-i.result in
    let place : c.place_at-p.result ≡ place_at l (start_of i) = c.place_at-p.ensures ∙ ap (place_at l) c.start_of.ensures.0 in
    let does : Reachable (book_in l) → Does (book_in l) (by c.args.desk (PUT c.args.code c.args.x.now)) (settled_in (book_in l) i c.put_at-drafted.result) =
    λ from. (let h = has_place l c.args.code i _ c.index_of-i.ensures place (flag_of (word l loaded_at)) (figures_in l) refl refl from in c.put_at-drafted.ensures.1 _ _ _ _ h) in
    refused_on _ _ _ _ one does _ c.number_of.ensures (sym c.accepted_by.ensures ∙ c.if-not-accepted_by.true)

pub store_draft-requires : goal.store_draft-requires
store_draft-requires c =
    let l = c.args.image.now in
    let one : is_image l ≡ true = sym c.is_image.ensures ∙ c.if-not-is_image.false in
    let taken : accepted_by c.put_at-drafted.result.reply ≡ true = sym c.accepted_by.ensures ∙ c.if-not-accepted_by.false in
    let full : length c.args.x.now ≡ record_length = put_length c.args.desk c.args.code _ _ c.args.x.now _ c.put_at-drafted.ensures.0 taken in
    (image_size l one, c.index_of-i.ensures.0, full)

pub returns : goal.returns
returns c =
    let l = c.args.image.now in
    let one : is_image l ≡ true = sym c.is_image.ensures ∙ c.if-not-is_image.false in
    let i = c.index_of-i.result in
    let place : c.place_at-p.result ≡ place_at l (start_of i) = c.place_at-p.ensures ∙ ap (place_at l) c.start_of.ensures.0 in
    let does : Reachable (book_in l) → Does (book_in l) (by c.args.desk (PUT c.args.code c.args.x.now)) (settled_in (book_in l) i c.put_at-drafted.result) =
    λ from. (let h = has_place l c.args.code i _ c.index_of-i.ensures place (flag_of (word l loaded_at)) (figures_in l) refl refl from in c.put_at-drafted.ensures.1 _ _ _ _ h) in
    -- accepted
    let taken : accepted_by c.put_at-drafted.result.reply ≡ true = sym c.accepted_by.ensures ∙ c.if-not-accepted_by.false in
    accepted_on _ _ _ _ one does _ _ c.index_of-i.ensures.0 taken c.store_draft.ensures (settled_place _ _ _ _ _ c.put_at-drafted.ensures.0 taken)
