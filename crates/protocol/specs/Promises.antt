-- What the functions of this crate promise.
-- Assumes nothing.
use Rattle.std.specs.Prelude.{◌≡◌, List, ℕ, ◌≤◌, length, take}
use Rattle.book.specs.declared.Book.{Book}
use Rattle.book.specs.Calls.{UNDO, by}
use Rattle.book.specs.Book.{Reachable}
use Rattle.texts.specs.Writing.{Puts}
use Rattle.naming.specs.declared.Word.{Word}
use Rattle.naming.specs.declared.Word.TheVariants as word
use Rattle.naming.specs.Naming.{arity, RightCount}
use Rattle.protocol.specs.declared.Question.{Question}
use Rattle.protocol.specs.declared.Question.TheVariants.{Of, Rebate}
use Rattle.protocol.specs.declared.Said.{Said}
use Rattle.protocol.specs.declared.Said.TheVariants.{Answer, Set, Undo, On, Tells}
use Rattle.protocol.specs.Lines.{Response, step_line, call_line}

-- a line was answered as it is meant: the book after it, which is again one that calls leave, and the text of its answer
pub record Answered (line : Response) (b : Book) (before : List ℕ) (at next : ℕ) (after : List ℕ) : Type 0 where
  pub book : b ≡ line.book
  pub reachable : Reachable b
  pub text : Puts before at line.text next after

-- the word of a call that leaves the book as it is
abbrev pub asking : Question → Word
asking (Of q) = word.Tells q
asking Rebate = word.Rebate

-- a line is a desk's call that is still to be done, with the first n numbers; nothing is written yet
abbrev pub ToDo : Word → (n desk : ℕ) (b : Book) (line : Response) (before after numbers : List ℕ) → Type 0
ToDo w n desk b line before after numbers = (line ≡ call_line b desk w (take n numbers)) × (n ≤ length numbers) × RightCount (arity w) n × (after ≡ before)

-- a line is answered, with the book as it was; or it is a call
abbrev pub Says : Said → (b : Book) (line : Response) (at : ℕ) (before after numbers : List ℕ) → Type 0
Says (Answer next) b line at before after numbers = Answered line b before at next after
Says (Set n desk) b line at before after numbers = ToDo word.Set n desk b line before after numbers
Says (Undo desk) b line at before after numbers = (line ≡ step_line b (by desk UNDO)) × (after ≡ before)
Says (On s n desk) b line at before after numbers = ToDo (word.On s) n desk b line before after numbers
Says (Tells q n desk) b line at before after numbers = ToDo (asking q) n desk b line before after numbers
