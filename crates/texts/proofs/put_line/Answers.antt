use Rattle.texts.specs.Texts.{line_of}
use Rattle.texts.proofs.Writing.{puts_behind}
use Rattle.texts.proofs.put_line.Goals as goal

pub returns : goal.returns
unfolding line_of
returns c = puts_behind (puts_behind c.put_text-behind_word.ensures c.put_numbers-behind_numbers.ensures.puts) c.put_text.ensures
