-- `rebates::fails` meets its contract: each answer rewrites with the tests that led there.
-- Assumes nothing.
use mathlib.Core.Path.{refl, sym, ◌∙◌, ap}
use mathlib.Core.Bool.{not}
use borrow.Author.Tests.{eq-eqb, ne_eqb, le-leb, lt-leb}
use Rattle.rebates.specs.Rebates.{fails19, fails18}
use Rattle.rebates.proofs.There.{directed_there}
use Rattle.rebates.proofs.fails.Goals as goal

pub returns-then-place-ge-PLACES_MOST : goal.returns-then-place-ge-PLACES_MOST
unfolding fails19
returns-then-place-ge-PLACES_MOST c b i there = rw (eq-eqb _ _ c.if-number-eq19.true, le-leb _ _ c.if-place-ge-PLACES_MOST.true)

pub returns-then-number-eq19 : goal.returns-then-number-eq19
unfolding fails19
returns-then-number-eq19 c b i there = rw (eq-eqb _ _ c.if-number-eq19.true, lt-leb _ _ c.if-place-ge-PLACES_MOST.false) (c.refused.ensures b i _ there refl)

pub returns : goal.returns
unfolding fails18
returns c b i there = rw (ne_eqb _ _ c.if-number-eq19.false) (ap not (c.open_directed.ensures ∙ sym (directed_there there)))
