use Rattle.std.proofs.lemmas.Bool.{not-false}
use Rattle.desk.specs.Desk.{reads}
use Rattle.desk.proofs.fill.Goals as goal

pub returns-clause-fills : goal.returns-clause-fills
returns-clause-fills g c = reads (not-false _ c.if-not-i.false) c.if-i.false c.if-i-2.false _ _ c.keep.ensures c.read_more.ensures
