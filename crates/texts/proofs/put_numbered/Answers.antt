use Rattle.texts.proofs.Writing.{puts_behind}
use Rattle.texts.proofs.put_numbered.Goals as goal

pub returns-clause-puts : goal.returns-clause-puts
returns-clause-puts c = puts_behind (puts_behind c.put_text-behind_text.ensures c.put_number-behind_number.ensures.puts) c.put_text.ensures
