-- `tariff::regions_fit` meets its contract: its test of a region is the definition's.
-- Assumes nothing.
use borrow.Author.Tests.{tests}
use Rattle.std.proofs.Common.{refl, rules}
use Rattle.laws.proofs.Every.{every_from_all}
use Rattle.tariff.specs.Tariff.{region_fits, standing_in}
use Rattle.tariff.proofs.regions_fit.Goals as goal

pub returns : goal.returns
unfolding region_fits standing_in
returns c = every_from_all _ 14 _ _ _ c.all.ensures.ran refl (λ x b q k. search (rules, tests))
