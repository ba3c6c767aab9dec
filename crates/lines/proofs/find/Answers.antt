use Rattle.std.proofs.Common.{◌∙◌, ◌+◌, ap}
use Rattle.lines.proofs.Splitting.{found}
use Rattle.lines.proofs.find.Goals as goal

pub returns-clause-value : goal.returns-clause-value
returns-clause-value c = ap (λ k. c.args.from + k) (c.unwrap_or.ensures ∙ found c.args.b _ _ c.memchr.ensures)
