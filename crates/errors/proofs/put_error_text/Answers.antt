use Rattle.texts.proofs.Writing.{puts_behind}
use Rattle.errors.proofs.put_error_text.Goals as goal

pub returns : goal.returns
returns c = puts_behind c.put_error-next.ensures.puts c.put_text.ensures
