-- `quoting::months_allowed` meets its contract: of a list of t months, each is tested.
-- Assumes nothing.
use Rattle.std.proofs.Common.{rules, ◌<◌, ◌≤◌}
use Rattle.std.proofs.lemmas.Iterator.{cases_from_all, YieldsList-from_slice}
use borrow.Author.Tests.{tests}
use Rattle.quoting.proofs.Listed.{each_small}
use Rattle.quoting.proofs.months_allowed.Goals as goal

pub returns-then-months-t : goal.returns-then-months-t
returns-then-months-t c =
    each_small _ _ _ c.if-months-t.true (cases_from_all _ _ _ (λ m. m ≤ 10000) (λ m. 10000 < m) c.all.ensures.ran (YieldsList-from_slice c.args.months.now cc) (λ x q k. search (rules, tests)) (λ x q k. search (rules, tests)))
