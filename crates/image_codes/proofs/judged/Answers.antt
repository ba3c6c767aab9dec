-- `image_codes::judged` meets its contract: what the tests let pass is settled and handed on, and what they do not is no reachable book.
-- Assumes nothing.
use mathlib.Core.Path.{◌≡◌, refl, sym, ◌∙◌, ap, subst}
use mathlib.Core.Bool.{true}
use Prim.Native.Nat.{◌≤◌}
use native.Mathlib.Omega.{arith}
use Rattle.benchmark.specs.Lawful.{Lawful}
use Rattle.book.specs.Calls.{by}
use Rattle.book.specs.Book.{Reachable}
use Rattle.book.specs.Promises.{Does}
use Rattle.book.specs.Settling.{settled_in}
use Rattle.stands.specs.Stands.{HoldsValid}
use Rattle.codes.specs.Codes.{act_on}
use Rattle.image.specs.Layout.{loaded_at, start_of}
use Rattle.image.specs.Image.{word, flag_of, place_at, book_in, is_image}
use Rattle.image.proofs.Reading.{image_size}
use Rattle.image_tests.proofs.Reachable.{figures_there, holds_there}
use Rattle.image_codes.specs.Opening.{HandedOn}
use Rattle.image_codes.proofs.Calls.{has_place}
use Rattle.image_codes.proofs.Opening.{no_book_opens, state_small, clash, handed_on}
use Rattle.image_codes.proofs.judged.Goals as goal

pub bounds-image-1 : goal.bounds-image-1
bounds-image-1 c =
    let l = c.args.image.now in
    let one : is_image l ≡ true = sym c.is_image.ensures ∙ c.if-not-is_image.false in
    omega (arith, image_size l one)

pub figures_in-figures-requires : goal.figures_in-figures-requires
figures_in-figures-requires c =
    let l = c.args.image.now in
    let one : is_image l ≡ true = sym c.is_image.ensures ∙ c.if-not-is_image.false in
    image_size l one

pub returns-then-not-figures_serve : goal.returns-then-not-figures_serve
returns-then-not-figures_serve c =
    let l = c.args.image.now in
    no_book_opens _ l _ c.plain-then-not-figures_serve.ensures
    (λ e from. clash _ (c.figures_serve.ensures.1 (λ q. subst Lawful (sym c.figures_in-figures.ensures) (figures_there l from q))) c.if-not-figures_serve.true)

pub holds_valid-requires : goal.holds_valid-requires
holds_valid-requires c =
    let l = c.args.image.now in
    let one : is_image l ≡ true = sym c.is_image.ensures ∙ c.if-not-is_image.false in
    omega (arith, c.start_of-at.ensures.1, image_size l one)

pub returns-then-not-holds_valid : goal.returns-then-not-holds_valid
returns-then-not-holds_valid c =
    let l = c.args.image.now in
    no_book_opens _ l _ c.plain-then-not-holds_valid.ensures
    (λ e from. clash _ (c.holds_valid.ensures.1 (subst (λ n. HoldsValid (place_at l n)) (sym c.start_of-at.ensures.0) (holds_there l from c.index_of-i.result c.index_of-i.ensures.0))) c.if-not-holds_valid.true)

pub place_at-p-requires : goal.place_at-p-requires
place_at-p-requires c =
    let l = c.args.image.now in
    let one : is_image l ≡ true = sym c.is_image.ensures ∙ c.if-not-is_image.false in
    omega (arith, c.start_of-at.ensures.1, image_size l one)

pub hand_on-requires : goal.hand_on-requires
hand_on-requires c =
    let l = c.args.image.now in
    let one : is_image l ≡ true = sym c.is_image.ensures ∙ c.if-not-is_image.false in
    (image_size l one, c.index_of-i.ensures.0, subst (λ n. n ≤ 3) (sym c.state_after.ensures) (state_small c.args.act))

pub returns : goal.returns
returns c =
    let l = c.args.image.now in
    let one : is_image l ≡ true = sym c.is_image.ensures ∙ c.if-not-is_image.false in
    let i = c.index_of-i.result in
    let place : c.place_at-p.result ≡ place_at l (start_of i) = c.place_at-p.ensures ∙ ap (place_at l) c.start_of-at.ensures.0 in
    let does : Reachable (book_in l) → Does (book_in l) (by c.args.desk (act_on c.args.act c.args.code)) (settled_in (book_in l) i c.settle-settled.result) =
    λ from. c.settle-settled.ensures.1 (book_in l) i
    (has_place l c.args.code i _ c.index_of-i.ensures place (flag_of (word l loaded_at)) _ refl c.figures_in-figures.ensures from) in
    handed_on c.args.desk c.args.code c.args.act c.requires l c.hand_on.new.image i c.place_at-p.result (flag_of (word l loaded_at)) _ c.settle-settled.result c.hand_on.result
    one c.index_of-i.ensures.0 place c.settle-settled.ensures.0 does
    (subst (λ n. HandedOn l i n c.settle-settled.result c.hand_on.result c.hand_on.new.image) c.state_after.ensures c.hand_on.ensures)
