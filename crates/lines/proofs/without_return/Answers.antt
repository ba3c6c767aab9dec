use Rattle.std.proofs.Common.{arith}
use Rattle.lines.proofs.Splitting.{return_off, no_return, no_line}
use Rattle.lines.proofs.without_return.Goals as goal
use Rattle.lines.proofs.without_return.Goals.{else-from-to-via-then-from-to+else-s-to-eq13, else-from-to-via-else-from-to}

pub returns-then-s-to-eq13-clause-s_value : goal.returns-then-s-to-eq13-clause-s_value
returns-then-s-to-eq13-clause-s_value c = return_off c.args.s.now c.args.from c.args.to c.if-from-to.true (omega arith) c.if-s-to-eq13.true

pub returns-else-from-to-clause-s_value : goal.returns-else-from-to-clause-s_value
returns-else-from-to-clause-s_value c =
    elim c.else-from-to.branch [
      | else-from-to-via-then-from-to+else-s-to-eq13 w ↦ no_return c.args.s.now c.args.from c.args.to w.if-from-to.true (omega arith) w.if-s-to-eq13.false
      | else-from-to-via-else-from-to w ↦ no_line c.args.s.now c.args.from c.args.to w.if-from-to.false
    ]
