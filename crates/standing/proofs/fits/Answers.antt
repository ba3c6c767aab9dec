-- `standing::fits` meets its contract.
-- Assumes nothing.
use mathlib.Core.Path.{refl, sym, subst}
use mathlib.Core.Bool.{true, false}
use Rattle.benchmark.specs.Lawful.{Lawful}
use Rattle.benchmark.proofs.Lawful.{lawful}
use Rattle.book.specs.Book.{sheet_in}
use Rattle.standing.proofs.Told.{held, decides, both}
use Rattle.standing.proofs.Fitting.{with_fits, without_fits, each_as}
use Rattle.standing.proofs.fits.Goals as goal

pub places_stand-requires : goal.places_stand-requires
places_stand-requires c =
    let w = held _ c.sheet_stands.ensures c.if-not-sheet_stands.false in
    λ z. subst Lawful (sym w.1) (lawful _ _ w.0)

pub returns-then-b : goal.returns-then-b
returns-then-b c =
    let w = held _ c.sheet_stands.ensures c.if-not-sheet_stands.false in
    let loaded = c.if-b.true in
    let b = c.args.b in
    decides _ (c.places_stand.ensures (sheet_in b) (λ z. w.1)) (with_fits b loaded w) (each_as b true loaded)

pub returns : goal.returns
returns c =
    let w = held _ c.no_sheet.ensures c.if-not-no_sheet.false in
    let none = c.if-b.false in
    let b = c.args.b in
    decides _ (c.places_stand-2.ensures (sheet_in b) (λ z. both _ z refl)) (without_fits b none w) (each_as b false none)
