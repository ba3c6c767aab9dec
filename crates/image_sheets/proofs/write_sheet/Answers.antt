-- `image_sheets::write_sheet` meets its contract.
-- Assumes nothing.
use native.Mathlib.Omega.{arith}
use Rattle.book.specs.Calls.{sheet_at}
use Rattle.image.specs.Layout.{loaded_at}
use Rattle.image.proofs.Writing.{written_one}
use Rattle.image_sheets.proofs.Parts.{sheet_written}
use Rattle.image_sheets.proofs.write_sheet.Goals as goal

pub returns : goal.returns
returns c =
    sheet_written _ _ _ _ _ (sheet_at c.args.fields.now c.args.period) c.args.figures c.requires.1
    (written_one c.args.image.now loaded_at 1 (omega (arith, c.requires.0))) c.write.ensures c.write-2.ensures c.write_figures.ensures
