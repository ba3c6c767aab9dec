-- `queries::benchmark` meets its contract: behind 13, 17 and 10 it reads the figure at its index.
-- Assumes nothing.
use mathlib.Core.Path.{◌≡◌, sym, ◌∙◌, ap, ap₂}
use mathlib.Core.Bool.{true, ◌&&◌}
use Prim.Native.Nat.{ℕ}
use lib.IntN.{pos}
use lib.ListN.{get_or}
use lib.Dec.{ltb}
use borrow.Author.Tests.{ltb-true}
use Rattle.refusal.specs.declared.Check.TheVariants.{Pass}
use Rattle.refusal.specs.Checks.{unless, first}
use Rattle.refusal.proofs.Checks.{unless_passes, first_passes}
use Rattle.desks.specs.Desks.{may_query}
use Rattle.queries.specs.Queries.{benchmark_charge, in_ranges}
use Rattle.queries.proofs.InForce.{charge_is}
use Rattle.queries.proofs.Ranges.{within}
use Rattle.queries.proofs.Answers.{hands_on, passed_on, benchmark_answer}
use Rattle.queries.proofs.benchmark.Goals as goal

pub returns-in_default : goal.returns-in_default
returns-in_default c =
    -- the checks, one after the other
    let checks : let a = c.args in c.first-checked.result ≡ first (first (unless (in_ranges a.region a.arrangement a.method && ltb a.level 2) 13 Pass) (unless (may_query a.desk a.region) 17 Pass)) (unless a.b.loaded 10 Pass) = c.first-checked.ensures ∙ ap₂ first c.asked_check-asked.ensures c.sheet_check.ensures in
    let a = c.args in
    hands_on _ _ _ _ _ _ (benchmark_answer a.b a.desk a.region a.arrangement a.method a.level) checks c.in_default.is c.refused.ensures

pub returns : goal.returns
returns c =
    -- the checks, one after the other
    let checks : let a = c.args in c.first-checked.result ≡ first (first (unless (in_ranges a.region a.arrangement a.method && ltb a.level 2) 13 Pass) (unless (may_query a.desk a.region) 17 Pass)) (unless a.b.loaded 10 Pass) = c.first-checked.ensures ∙ ap₂ first c.asked_check-asked.ensures c.sheet_check.ensures in
    -- past them
    let passed : let a = c.args in ((in_ranges a.region a.arrangement a.method && ltb a.level 2) ≡ true) × (a.b.loaded ≡ true) =
    let both = first_passes _ _ (sym checks ∙ c.in-Pass.is) in
    ((unless_passes _ 13 Pass (first_passes _ _ both.0).0).0, (unless_passes _ 10 Pass both.1).0) in
    let a = c.args in
    let w = within _ _ _ _ passed.0 in
    let read = c.wide.ensures ∙ ap (λ (k : ℕ). get_or a.b.benchmarks.charges k 0) c.figure_index-at.ensures.0 in
    ap benchmark_charge (ap pos read ∙ charge_is a.b c.requires passed.1 a.region a.arrangement a.method a.level w.region w.arrangement w.method (ltb-true a.level 2 w.fourth))
    ∙ passed_on _ _ _ _ (benchmark_answer a.b a.desk a.region a.arrangement a.method a.level) checks c.in-Pass.is
