-- `image_sheets::set` meets its contract.
-- Assumes nothing.
use mathlib.Core.Path.{sym, ◌∙◌, subst}
use Rattle.benchmark.specs.Benchmark.{set_check}
use Rattle.book.specs.Calls.{sheet_at}
use Rattle.image.proofs.Reading.{image_size}
use Rattle.image_sheets.specs.Stages.{Refuses}
use Rattle.image_sheets.proofs.Tested.{sheet_refusal, figures_passed, set_refused, set_made}
use Rattle.image_sheets.proofs.set.Goals as goal

-- the tests, with SET's checks on the sheet
pub refusal_of-refusal-requires : goal.refusal_of-refusal-requires
refusal_of-refusal-requires c =
    let a = c.args in
    λ n e. sheet_refusal a.fields.now a.period n (sym c.work_out-worked.ensures.0 ∙ e)

pub returns-then-refusal-ne0 : goal.returns-then-refusal-ne0
returns-then-refusal-ne0 c =
    let tested : Refuses c.args.image.now c.args.desk (set_check c.args.fields.now c.args.period) c.refusal_of-refusal.result =
    subst (λ k. Refuses c.args.image.now c.args.desk k c.refusal_of-refusal.result) c.work_out-worked.ensures.0 c.refusal_of-refusal.ensures in
    let a = c.args in
    set_refused a.image.now a.desk (sheet_at a.fields.now a.period) _ tested c.if-refusal-ne0.true

pub put_in_force-requires : goal.put_in_force-requires
put_in_force-requires c =
    let tested : Refuses c.args.image.now c.args.desk (set_check c.args.fields.now c.args.period) c.refusal_of-refusal.result =
    subst (λ k. Refuses c.args.image.now c.args.desk k c.refusal_of-refusal.result) c.work_out-worked.ensures.0 c.refusal_of-refusal.ensures in
    let zero = c.if-refusal-ne0.false in
    let t = tested in
    let passes = t.passes zero in
    let a = c.args in
    (image_size _ (t.image zero), passes, figures_passed a.fields.now a.period _ c.work_out-worked.ensures.1 passes, t.valid zero)

pub returns : goal.returns
returns c =
    let tested : Refuses c.args.image.now c.args.desk (set_check c.args.fields.now c.args.period) c.refusal_of-refusal.result =
    subst (λ k. Refuses c.args.image.now c.args.desk k c.refusal_of-refusal.result) c.work_out-worked.ensures.0 c.refusal_of-refusal.ensures in
    let a = c.args in
    set_made a.image.now a.desk (sheet_at a.fields.now a.period) _ tested _ c.if-refusal-ne0.false c.put_in_force.ensures
