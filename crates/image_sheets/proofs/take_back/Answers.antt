-- `image_sheets::take_back` meets its contract. What is kept of a reachable book is one that stands, so the figures worked out are those of its sheet.
-- Assumes nothing.
use mathlib.Core.Path.{◌≡◌, refl, ◌∙◌, ap₂}
use native.Mathlib.Omega.{arith}
use Rattle.sheet.specs.Sheet.{field_count}
use Rattle.benchmark.specs.Benchmark.{benchmarks_of, set_check}
use Rattle.figures.specs.Working.{worked_if}
use Rattle.image.specs.Layout.{kept_fields_at, kept_period_at}
use Rattle.image.specs.Image.{words}
use Rattle.image.proofs.Reading.{part_is_words}
use Rattle.image_sheets.proofs.Back.{taken_back}
use Rattle.image_sheets.proofs.take_back.Goals as goal

pub returns : goal.returns
returns c =
    let st = c in
    let l = st.args.image.now in
    let fields : _ ≡ words kept_fields_at field_count l = part_is_words kept_fields_at kept_period_at field_count l refl (omega (arith, st.requires.0)) in
    taken_back l _ _ _ _ _ c.states_back.ensures c.copy.ensures c.write_figures.ensures c.clear.ensures
    (c.work_out-worked.ensures.1 ∙ ap₂ (λ s q. worked_if (set_check s q) (benchmarks_of s q)) fields c.period_at-period.ensures) st.requires.1
