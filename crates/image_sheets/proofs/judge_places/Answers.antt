-- `image_sheets::judge_places` meets its contract. The invariant: the states of the places passed are those under the figures, and all else is as it was.
-- Assumes nothing.
use mathlib.Core.Path.{◌≡◌, sym, ◌∙◌, ap, subst}
use native.Mathlib.Omega.{arith}
use Rattle.book.specs.declared.Place.{Place}
use Rattle.book.specs.Book.{under}
use Rattle.stands.specs.Stands.{HoldsValid}
use Rattle.image.specs.Layout.{start_of}
use Rattle.image.specs.Image.{state_number, place_at}
use Rattle.image_sheets.proofs.States.{states_more, place_ahead}
use Rattle.image_sheets.proofs.judge_places.Goals as goal

-- the place that is judged is as it was: those before it alone were written
pub judged-next-requires : goal.judged-next-requires
judged-next-requires c =
    let place_read : c.place_at.result ≡ place_at c.args.image.now (start_of c.loop-i.i) =
    c.place_at.ensures ∙ ap (place_at c.loop-i.image) c.start_of-at.ensures.0 ∙ place_ahead c.loop-i.invariant c.loop-i.i (omega arith) in
    (c.requires.1, subst HoldsValid (sym place_read) (c.requires.2 c.loop-i.i (omega arith)))

pub loop-i-preserved : goal.loop-i-preserved
loop-i-preserved c =
    let place_read : c.place_at.result ≡ place_at c.args.image.now (start_of c.loop-i.i) =
    c.place_at.ensures ∙ ap (place_at c.loop-i.image) c.start_of-at.ensures.0 ∙ place_ahead c.loop-i.invariant c.loop-i.i (omega arith) in
    states_more _ _ _ _ _ (λ k. state_number (under c.args.figures (place_at c.args.image.now (start_of k))).state) c.loop-i.invariant c.start_of-at.ensures.0 (omega arith)
    (c.state_number.ensures ∙ ap (λ (p : Place). state_number p.state) (c.judged-next.ensures ∙ ap (under c.args.figures) place_read))

pub returns : goal.returns
returns c = let end : c.loop-i.i ≡ 32 = omega arith in rw end at c.loop-i.invariant
