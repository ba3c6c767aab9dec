use Rattle.std.proofs.Common.{arith}
use Rattle.texts.specs.Texts.{spaced}
use Rattle.texts.proofs.Writing.{puts_behind, puts_byte, spaced_more, puts_none}
use Rattle.texts.proofs.put_numbers.Goals as goal

pub loop-n-init : goal.loop-n-init
unfolding spaced
loop-n-init c = (omega arith, puts_none _ _ (omega arith))

pub loop-n-preserved : goal.loop-n-preserved
loop-n-preserved c =
    let w = c.put_number-next in (
      omega (arith, w.ensures.upper_bound),
      rw (spaced_more c.args.numbers.now c.loop-n.n-index (omega arith)) (puts_behind (puts_byte 32 (omega arith) c.loop-n.invariant.1) w.ensures.puts),
    )
