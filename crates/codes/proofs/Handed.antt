-- A reachable book may be handed to any call on a code.
-- Assumes nothing.
use Rattle.book.specs.declared.Book.{Book}
use Rattle.book.specs.Book.{Reachable}
use Rattle.codes.specs.declared.CodeAct.{CodeAct}
use Rattle.codes.specs.declared.CodeAct.TheVariants.{Open, Close, Drop, Ask, Confirm}
use Rattle.codes.specs.Codes.{Handed}

pub handed : {b : Book} → Reachable b → (a : CodeAct) → Handed a b
handed r Open = r
handed r Close = tt
handed r Drop = tt
handed r Ask = r
handed r Confirm = tt
