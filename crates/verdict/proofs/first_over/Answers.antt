-- `verdict::first_over` meets its contract. The invariant of each loop: no cell before the one at hand exceeds.
-- Assumes nothing.
use Rattle.std.proofs.Common.{arith, refl, sym, ◌∙◌}
use Rattle.cap.proofs.Decided.{exceeds?}
use Rattle.cap.proofs.Comparing.{is_decided}
use Rattle.verdict.specs.Cells.{first_below}
use Rattle.verdict.proofs.Walk.{cell_read, not_method, in_cell, passed, region_ends, region_passed, walked, over_cell}
use Rattle.verdict.proofs.first_over.Goals as goal
use Rattle.verdict.proofs.first_over.Goals.{then-has-2+else-exceeds, else-has-2, then-has+else-loop-method-test, else-has}

pub loop-region-init : goal.loop-region-init
unfolding first_below
loop-region-init c = refl

-- the numbers that were read are those of the cell at hand, in which the corners are the tariff's
pub exceeds-requires : goal.exceeds-requires
exceeds-requires c =
    let read =
    cell_read c.args.b c.args.x c.requires.0 c.requires.1 _ _ _ c.loop-region-test.true c.loop-method-test.true c.arrangement_of-arrangement.ensures.0
    _ c.standing_in-standing.ensures.0 _ (c.cell_numbers-e.ensures c.args.b refl refl refl refl refl) _ _ c.from.ensures c.corners_of-k.ensures in
    (c.requires.1, read.1, read.2)

-- so the answer is that of the cell
pub loop-method-preserved : goal.loop-method-preserved
loop-method-preserved c =
    passed c.args.b c.args.x c.loop-region.region c.loop-method.method c.loop-method.invariant
    (elim c.if-has-2.branch [
      | then-has-2+else-exceeds w ↦ (
          let read =
          cell_read c.args.b c.args.x c.requires.0 c.requires.1 _ _ _ c.loop-region-test.true c.loop-method-test.true c.arrangement_of-arrangement.ensures.0
          _ c.standing_in-standing.ensures.0 _ (w.cell_numbers-e.ensures c.args.b refl refl refl refl refl) _ _ c.from.ensures c.corners_of-k.ensures in
          in_cell c.args.b c.args.x _ _ c.loop-method-test.true (sym c.has.ensures ∙ c.if-has.true) (sym c.has-in-loop-method.ensures ∙ w.if-has-2.true) _ read.0 _ (is_decided (exceeds? _ _) _ w.exceeds.ensures.0 w.exceeds.ensures.1)
          ∙ w.if-exceeds.false)
      | else-has-2 w ↦ not_method c.args.b c.args.x c.loop-region.region c.loop-method.method c.loop-method-test.true (sym c.has-in-loop-method.ensures ∙ w.if-has-2.false)
    ])

pub loop-region-preserved : goal.loop-region-preserved
loop-region-preserved c =
    elim c.if-has.branch [
      | then-has+else-loop-method-test w ↦ region_ends c.args.b c.args.x c.loop-region.region w.loop-method.method (omega arith) w.loop-method-test.false w.loop-method.invariant
      | else-has w ↦ region_passed c.args.b c.args.x c.loop-region.region (sym c.has.ensures ∙ w.if-has.false) c.loop-region.invariant
    ]

pub returns-after-loop-region : goal.returns-after-loop-region
returns-after-loop-region c = walked c.args.b c.args.x c.loop-region.region (omega arith) c.loop-region-test.false c.loop-region.invariant

pub returns-then-exceeds : goal.returns-then-exceeds
returns-then-exceeds c =
    let read =
    cell_read c.args.b c.args.x c.requires.0 c.requires.1 _ _ _ c.loop-region-test.true c.loop-method-test.true c.arrangement_of-arrangement.ensures.0
    _ c.standing_in-standing.ensures.0 _ (c.cell_numbers-e.ensures c.args.b refl refl refl refl refl) _ _ c.from.ensures c.corners_of-k.ensures in
    let decides = in_cell c.args.b c.args.x _ _ c.loop-method-test.true (sym c.has.ensures ∙ c.if-has.true) (sym c.has-in-loop-method.ensures ∙ c.if-has-2.true) _ read.0 _ (is_decided (exceeds? _ _) _ c.exceeds.ensures.0 c.exceeds.ensures.1) in
    over_cell c.args.b c.args.x _ _ c.loop-region-test.true c.loop-method-test.true c.loop-method.invariant (decides ∙ c.if-exceeds.true)
