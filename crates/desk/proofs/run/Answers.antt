use Rattle.std.proofs.Common.{sym, arith}
use Rattle.book.proofs.Reached.{fresh_reachable}
use Rattle.desk.specs.Desk.{none_yet}
use Rattle.desk.proofs.Turning.{steady_as, turned_more}
use Rattle.desk.proofs.run.Goals as goal

pub loop-turns-init : goal.loop-turns-init
loop-turns-init g c = (
  rw c.start-d.ensures
      record {
        reachable = fresh_reachable;
        holds = record { ordered = omega arith; inside = omega arith };
        waiting = omega arith;
        input_size = c.requires.0;
        numbers_size = c.requires.1;
        out_size = c.requires.2;
      },
  omega arith,
  rw c.start-d.ensures none_yet,
)

pub loop-turns-preserved : goal.loop-turns-preserved
loop-turns-preserved g c = (
  steady_as c.loop-turns.auto.input c.loop-turns.auto.numbers c.loop-turns.auto.out c.turn-d.ensures.steady,
  omega (arith, c.loop-turns.invariant.1),
  turned_more c.loop-turns.invariant.1 (omega (arith, c.loop-turns-test.true)) c.loop-turns.invariant.2 c.if-d.true c.turn-d.ensures.turns,
)
