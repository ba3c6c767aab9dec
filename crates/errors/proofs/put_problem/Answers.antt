use Rattle.texts.proofs.Writing.{puts_behind}
use Rattle.errors.proofs.put_problem.Goals as goal

pub returns-in-NotANumber : goal.returns-in-NotANumber
returns-in-NotANumber c = rw c.in-NotANumber.is (puts_behind c.put_error-next.ensures.puts c.put_not_a_number.ensures)

pub returns-in-WrongCount : goal.returns-in-WrongCount
returns-in-WrongCount c = rw c.in-WrongCount.is (puts_behind c.put_error-next-in-WrongCount.ensures.puts c.put_wrong_count.ensures)
