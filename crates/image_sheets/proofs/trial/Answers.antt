-- `image_sheets::trial` meets its contract.
-- Assumes nothing.
use mathlib.Core.Path.{sym, ◌∙◌, ap, subst}
use mathlib.Core.List.{map}
use Rattle.benchmark.specs.Benchmark.{set_check}
use Rattle.benchmark.specs.Lawful.{Lawful}
use Rattle.benchmark.proofs.Lawful.{lawful}
use Rattle.book.specs.Calls.{sheet_at}
use Rattle.book.specs.Book.{under}
use Rattle.trial.specs.Trial.{codes_where}
use Rattle.trial.specs.Places.{fell_from}
use Rattle.image.specs.Image.{places_in}
use Rattle.image.proofs.Reading.{image_size}
use Rattle.image_sheets.specs.Stages.{Refuses}
use Rattle.image_sheets.proofs.Tested.{sheet_refusal, figures_passed}
use Rattle.image_sheets.proofs.Telling.{tells_refusal, tells_falling}
use Rattle.image_sheets.proofs.trial.Goals as goal

-- the tests, with SET's checks on the sheet
pub refusal_of-refusal-requires : goal.refusal_of-refusal-requires
refusal_of-refusal-requires c =
    let a = c.args in
    λ n e. sheet_refusal a.fields.now a.period n (sym c.work_out-worked.ensures.0 ∙ e)

pub returns-then-refusal-ne0 : goal.returns-then-refusal-ne0
returns-then-refusal-ne0 c =
    let tested : Refuses c.args.image.now c.args.desk (set_check c.args.fields.now c.args.period) c.refusal_of-refusal.result =
    subst (λ k. Refuses c.args.image.now c.args.desk k c.refusal_of-refusal.result) c.work_out-worked.ensures.0 c.refusal_of-refusal.ensures in
    let a = c.args in
    tells_refusal a.image.now a.desk (sheet_at a.fields.now a.period) _ tested c.if-refusal-ne0.true

pub fallen-requires : goal.fallen-requires
fallen-requires c =
    let tested : Refuses c.args.image.now c.args.desk (set_check c.args.fields.now c.args.period) c.refusal_of-refusal.result =
    subst (λ k. Refuses c.args.image.now c.args.desk k c.refusal_of-refusal.result) c.work_out-worked.ensures.0 c.refusal_of-refusal.ensures in
    let zero = c.if-refusal-ne0.false in
    let t = tested in
    let passes = t.passes zero in
    let a = c.args in (
      image_size _ (t.image zero),
      subst Lawful (sym (figures_passed a.fields.now a.period _ c.work_out-worked.ensures.1 passes)) (lawful a.fields.now a.period passes),
      t.valid zero,
    )

pub returns : goal.returns
returns c =
    let tested : Refuses c.args.image.now c.args.desk (set_check c.args.fields.now c.args.period) c.refusal_of-refusal.result =
    subst (λ k. Refuses c.args.image.now c.args.desk k c.refusal_of-refusal.result) c.work_out-worked.ensures.0 c.refusal_of-refusal.ensures in
    let t = tested in
    let a = c.args in
    let l = a.image.now in
    tells_falling l a.desk (sheet_at a.fields.now a.period) _ t c.if-refusal-ne0.false _
    (c.fallen.ensures
    ∙ ap (λ f. codes_where (fell_from (places_in l) (map (under f) (places_in l)))) (figures_passed a.fields.now a.period _ c.work_out-worked.ensures.1 (t.passes c.if-refusal-ne0.false)))
