use Rattle.std.proofs.Common.{arith}
use Rattle.texts.proofs.Decimal.{digits_64}
use Rattle.texts.proofs.put_number.Goals as goal

-- a number of 64 bits has 20 digits at most
pub digits_at-requires : goal.digits_at-requires
digits_at-requires c = omega (arith, digits_64 c.args.n c.ranges.n.fits)

pub returns-clause-upper_bound : goal.returns-clause-upper_bound
returns-clause-upper_bound c = omega (arith, c.digits_at.ensures.ends, digits_64 c.args.n c.ranges.n.fits)
