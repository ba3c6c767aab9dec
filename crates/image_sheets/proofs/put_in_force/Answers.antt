-- `image_sheets::put_in_force` meets its contract. Each stage leaves what the next one needs.
-- Assumes nothing.
use mathlib.Core.Path.{sym, ◌∙◌, subst}
use mathlib.Core.Logic.{inr}
use Rattle.benchmark.specs.Lawful.{Lawful}
use Rattle.benchmark.proofs.Lawful.{lawful, passed_count}
use Rattle.book.specs.Calls.{sheet_at}
use Rattle.image_sheets.proofs.Valid.{valid_alike}
use Rattle.image_sheets.proofs.Replaced.{replaced}
use Rattle.image_sheets.proofs.put_in_force.Goals as goal

pub judge_places-requires : goal.judge_places-requires
judge_places-requires c = (
  c.keep.ensures.size ∙ c.requires.0,
  subst Lawful (sym c.requires.2) (lawful c.args.fields.now c.args.period c.requires.1),
  valid_alike _ _ (λ j h. c.keep.ensures.outside j (inr h)) c.requires.3,
)

pub write_sheet-requires : goal.write_sheet-requires
write_sheet-requires c =
    (c.judge_places.ensures.size ∙ c.keep.ensures.size ∙ c.requires.0, passed_count c.args.fields.now c.args.period c.requires.1)

pub returns : goal.returns
returns c =
    replaced c.args.image.now _ _ _ (sheet_at c.args.fields.now c.args.period) c.args.figures c.keep.ensures c.judge_places.ensures c.write_sheet.ensures c.requires.2
