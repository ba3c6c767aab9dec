-- `image_book::places_in` meets its contract.
-- Assumes nothing.
use Rattle.std.proofs.Common.{rules}
use Rattle.book.specs.Book.{beyond}
use Rattle.image.specs.Layout.{start_of}
use Rattle.image.specs.Image.{place_at}
use Rattle.image_book.proofs.Whole.{made_each, are_places}
use Rattle.image_book.proofs.places_in.Goals as goal

pub returns : goal.returns
returns c =
    let all = c.from_fn.ensures.items in
    are_places _ _ all.long (λ i. made_each _ _ (λ j. place_at c.args.image.now (start_of j)) (λ j y q k. search rules) _ 32 all i beyond)
