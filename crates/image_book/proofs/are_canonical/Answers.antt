-- `image_book::are_canonical` meets its contract.
-- Assumes nothing.
use Rattle.std.proofs.Common.{rules, tests, ◌∙◌, refl}
use Rattle.std.proofs.lemmas.Iterator.{YieldsList-from_range}
use Rattle.std.proofs.lemmas.Iterator.Search.{all_from_yields_List}
use Rattle.image.proofs.Each.{every_listed}
use Rattle.image_book.specs.Testing.{canonical_at}
use Rattle.image_book.proofs.are_canonical.Goals as goal

pub returns : goal.returns
returns c =
    all_from_yields_List (canonical_at c.args.image.now) _ _ _ c.all.ensures.ran (YieldsList-from_range 0 32 32 refl refl) (λ x b q k. search (rules, tests)) ∙ every_listed _ 32
