-- `verdict::verdict_of` meets its contract: what the walk found, with the months that the cap gives for it.
-- Assumes nothing.
use Rattle.std.proofs.Common.{sym, subst}
use Rattle.laws.proofs.Lists.{noughts}
use Rattle.cap.specs.declared.CellNumbers.{CellNumbers}
use Rattle.cap.specs.Cap.{Exceeds}
use Rattle.cap.specs.Corners.{Carries}
use Rattle.verdict.specs.Cells.{cell}
use Rattle.verdict.proofs.Meaning.{first_exceeds}
use Rattle.verdict.proofs.Walk.{opens_verdict, over_verdict}
use Rattle.verdict.proofs.verdict_of.Goals as goal

pub numbers_of-e-requires : goal.numbers_of-e-requires
numbers_of-e-requires c =
    let o = (first_exceeds c.args.b c.args.x (cell c.in-Over.region c.in-Over.method) c.in-Over.ensures).0 in
    (c.requires.0, c.requires.1, o.0, o.1)

pub worst_case-worst-requires : goal.worst_case-worst-requires
worst_case-worst-requires c =
    let f = first_exceeds c.args.b c.args.x (cell c.in-Over.region c.in-Over.method) c.in-Over.ensures in
    (c.requires.1, c.numbers_of-e.ensures.1, subst (λ (e : CellNumbers). Exceeds e c.args.x) (sym c.numbers_of-e.ensures.0) f.1)

pub returns-in-Nowhere : goal.returns-in-Nowhere
returns-in-Nowhere c =
    record {
      is_verdict = opens_verdict c.args.b c.args.x c.cell_count.result c.in-Nowhere.ensures c.cell_count.ensures;
      rest = λ i l. noughts 12 i;
    }

pub returns-in-Over : goal.returns-in-Over
returns-in-Over c =
    let carries = subst (λ (e : CellNumbers). Carries e c.args.x c.worst_case-worst.result) c.numbers_of-e.ensures.0 c.worst_case-worst.ensures in
    let v = over_verdict c.args.b c.args.x _ _ c.worst_case-worst.result c.in-Over.ensures carries in
    record { is_verdict = v.0; rest = v.1 }
