use Rattle.std.proofs.Common.{length, refl, ap, arith, rules}
use Rattle.texts.proofs.Decimal.{decimal_small, decimal_two, decimal_hundred, length_hundred}
use Rattle.texts.proofs.Writing.{puts_behind}
use Rattle.texts.proofs.+digits_at.Goals as goal

-- a number of three digits or more is the digits of its hundredth part, and its last two digits behind them
pub digits_at-next-requires : goal.digits_at-next-requires
digits_at-next-requires t c = (search rules, omega (arith, length_hundred c.args.n (omega arith)))

pub two_at-requires-clause-at_in_bounds : goal.two_at-requires-clause-at_in_bounds
two_at-requires-clause-at_in_bounds t c = omega (arith, c.digits_at-next.ensures.ends, length_hundred c.args.n (omega arith))

pub returns-then-n-ge100 : goal.returns-then-n-ge100
returns-then-n-ge100 t c = rw (decimal_hundred c.args.n (omega arith)) (puts_behind c.digits_at-next.ensures c.two_at.ensures)

-- one of two digits is these
pub two_at-requires-then-n-ge10-clause-at_in_bounds :
    goal.two_at-requires-then-n-ge10-clause-at_in_bounds
two_at-requires-then-n-ge10-clause-at_in_bounds t c = omega (arith, ap length (decimal_two c.args.n (omega arith) (omega arith)))

pub returns-then-n-ge10 : goal.returns-then-n-ge10
returns-then-n-ge10 t c = rw (decimal_two c.args.n (omega arith) (omega arith)) c.two_at-then-n-ge10.ensures

-- one below 10 is its one digit
pub bounds-out-at : goal.bounds-out-at
bounds-out-at t c = omega (arith, ap length (decimal_small c.args.n (omega arith)))

pub returns-else-n-ge10 : goal.returns-else-n-ge10
returns-else-n-ge10 t c =
    let e = decimal_small c.args.n (omega arith) in
    rw e (record { ends = search rules; within = omega (arith, ap length e); holds = refl })
