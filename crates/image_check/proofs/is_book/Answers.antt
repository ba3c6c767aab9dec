-- `image_check::is_book` meets its contract.
-- Assumes nothing.
use mathlib.Core.Path.{sym, ◌∙◌, subst}
use Rattle.book.specs.Book.{Reachable}
use Rattle.laws.proofs.Never.{never}
use Rattle.image.proofs.Reading.{image_size}
use Rattle.image_check.proofs.is_book.Goals as goal

pub returns-then-not-is_image : goal.returns-then-not-is_image
returns-then-not-is_image c = (λ e. never (cc), λ q. sym c.if-not-is_image.true ∙ c.is_image.ensures ∙ q.is_image_lem)

pub is_canonical-requires : goal.is_canonical-requires
is_canonical-requires c = image_size _ (sym c.is_image.ensures ∙ c.if-not-is_image.false)

pub returns-then-not-is_canonical : goal.returns-then-not-is_canonical
returns-then-not-is_canonical c = (λ e. never (cc), λ q. sym c.if-not-is_canonical.true ∙ c.is_canonical.ensures.1 q.canonical)

pub book_in-b-requires : goal.book_in-b-requires
book_in-b-requires c = image_size _ (sym c.is_image.ensures ∙ c.if-not-is_image.false)

pub returns : goal.returns
returns c =
    let is = c.book_in-b.ensures in (
      λ e. record {
        is_image_lem = sym c.is_image.ensures ∙ c.if-not-is_image.false;
        canonical = c.is_canonical.ensures.0 c.if-not-is_canonical.false;
        reachable = subst Reachable is (c.stands.ensures.0 e);
      },
      λ q. c.stands.ensures.1 (subst Reachable (sym is) q.reachable),
    )
