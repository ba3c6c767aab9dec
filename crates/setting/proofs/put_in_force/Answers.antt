-- `setting::put_in_force` meets its contract: what the sheet comes to is stored.
-- Assumes nothing.
use mathlib.Core.Path.{refl, sym, ◌∙◌}
use mathlib.Core.Bool.{true}
use Rattle.benchmark.proofs.Lawful.{passed_count}
use Rattle.benchmark.specs.Benchmark.{set_check}
use Rattle.book.specs.Calls.{sheet_at, SET, call}
use Rattle.book.proofs.Steps.{refuses, accepts}
use Rattle.stands.proofs.InForce.{holds_at}
use Rattle.setting.proofs.put_in_force.Goals as goal

pub judge-judged-requires : goal.judge-judged-requires
judge-judged-requires c = holds_at c.args.b c.requires

pub returns-in_default : goal.returns-in_default
returns-in_default c =
    let s = sheet_at c.args.fields.now c.args.period in
    rw c.answered.ensures (refuses c.args.b (call (SET s)) (set_check s.fields s.period) refl _ _ c.judge-judged.ensures.checks c.in_default.is)

pub fields_of-copy-requires : goal.fields_of-copy-requires
fields_of-copy-requires c =
    passed_count c.args.fields.now c.args.period (sym c.judge-judged.ensures.checks ∙ c.in-Pass.is)

pub returns : goal.returns
returns c =
    let passes = c.in-Pass.is in
    let s = sheet_at c.args.fields.now c.args.period in
    rw c.answered-2.ensures
    (accepts c.args.b (call (SET s)) (set_check s.fields s.period) refl _ c.judge-judged.ensures.checks passes _
    (λ i. record { loaded = true; fields = c.fields_of-copy.ensures i; period = c.args.period; benchmarks = c.judge-judged.ensures.works passes i; places = c.judge-judged.ensures.places passes i; kept = c.kept_of-next.ensures i }))
