use Rattle.errors.proofs.put_arity.Goals as goal

pub returns-in-AtLeast : goal.returns-in-AtLeast
returns-in-AtLeast c = rw c.in-AtLeast.is c.put_count-in-AtLeast.ensures
