-- What was done is what its line asks for.
-- Assumes nothing.
use mathlib.Core.Path.{◌≡◌, refl}
use mathlib.Core.List.{List}
use Prim.Native.Nat.{ℕ}
use Rattle.book.specs.declared.Book.{Book}
use Rattle.book.specs.declared.Done.{Done}
use Rattle.book.specs.Calls as call
use Rattle.book.specs.Book.{Reachable}
use Rattle.book.specs.Promises.{answer_of, Does}
use Rattle.book.proofs.Reached.{does_reachable}
use Rattle.queries.specs.Queries.{Telling}
use Rattle.texts.specs.Writing.{Puts}
use Rattle.naming.specs.declared.Query.{Query}
use Rattle.naming.specs.declared.Word.TheVariants.{Tells}
use Rattle.answers.specs.Answers.{answer_text, told_text}
use Rattle.protocol.specs.Lines.{told_of, step_line, call_line}
use Rattle.protocol.specs.Promises.{Answered}

-- a step that was done is what its line asks for
pub step_done : (b : Book) (c : call.Call) (did : Done) (before : List ℕ) (at next : ℕ) (after : List ℕ) → Does b c did → Reachable b
    → Puts before at (answer_text (answer_of did.reply did.months)) next after → Answered (step_line b c) did.book before at next after
step_done b c did before at next after does r w =
    record {
      book = does.leaves;
      reachable = does_reachable r does;
      text = rw (← does.answers) w;
    }

-- a query that was told is what its line asks for
pub told_done : (b : Book) (desk : ℕ) (q : Query) (ns : List ℕ) (t : Telling) (before : List ℕ) (at next : ℕ) (after : List ℕ) → Reachable b → t ≡ told_of b desk q ns
    → Puts before at (told_text t) next after → Answered (call_line b desk (Tells q) ns) b before at next after
told_done b desk q ns t before at next after r e w = record { book = refl; reachable = r; text = rw e at w }
