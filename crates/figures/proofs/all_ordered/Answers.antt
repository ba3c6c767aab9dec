-- `figures::all_ordered` meets its contract: its test of a pair is the definition's.
-- Assumes nothing.
use Rattle.std.proofs.Common.{refl, rules}
use borrow.Author.Tests.{tests}
use Rattle.laws.proofs.Every.{every_from_all}
use Rattle.benchmark.specs.Benchmark.{ordered}
use Rattle.figures.proofs.all_ordered.Goals as goal

pub returns : goal.returns
unfolding ordered
returns c = every_from_all _ 56 _ _ _ c.all.ensures.ran refl (λ x b q k. search (rules, tests))
