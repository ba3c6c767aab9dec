-- `protocol::say_line` meets its contract: a line that is too long, or what is said to it without its carriage return.
-- Assumes nothing.
use mathlib.Core.Path.{refl}
use native.Mathlib.Omega.{arith}
use Rattle.lines.specs.Words.{between}
use Rattle.lines.proofs.Parts.{length_between}
use Rattle.protocol.proofs.Lines.{cut_line, long_line_lem, short_line}
use Rattle.protocol.proofs.say_line.Goals as goal

pub returns-then-cut : goal.returns-then-cut
returns-then-cut c = λ b reach. rw (cut_line b c.args.l _ (between c.args.input.now c.args.from c.args.to) c.if-cut.true) (record { book = refl; reachable = reach; text = c.put_too_long.ensures })

pub returns-then-to-from-gt16384 : goal.returns-then-to-from-gt16384
returns-then-to-from-gt16384 c = λ b reach.
    let size = length_between c.args.input.now c.args.from c.args.to c.requires.1 in
    rw (long_line_lem b c.args.l c.args.cut (between c.args.input.now c.args.from c.args.to) c.if-cut.false (omega (arith, size))) (record { book = refl; reachable = reach; text = c.put_too_long-then-to-from-gt16384.ensures })

pub returns : goal.returns
returns c = λ b reach.
    let size = length_between c.args.input.now c.args.from c.args.to c.requires.1 in
    rw (short_line b c.args.l c.args.cut (between c.args.input.now c.args.from c.args.to) c.if-cut.false (omega (arith, size)))
    (rw c.without_return-end.ensures.s_value at (c.say.ensures b reach))
