-- `desks::covers` meets its contract: of a desk, every region is tested.
-- Assumes nothing.
use Rattle.std.proofs.Common.{refl, rules}
use borrow.Author.Tests.{tests}
use Rattle.laws.proofs.Every.{every_from_all}
use Rattle.desks.specs.Desks.{covers}
use Rattle.desks.proofs.covers.Goals as goal

pub returns-then-is_desk : goal.returns-then-is_desk
unfolding covers
returns-then-is_desk c = rw (← c.if-is_desk.ensures) (every_from_all _ 14 _ _ _ c.all.ensures.ran refl (λ x b q k. search (rules, tests)))
