-- `replay::run` meets its contract: the book that is returned is the one that the definitions leave, and demand 3 holds of that one.
-- Assumes nothing.
use mathlib.Core.Path.{sym, subst}
use Rattle.book.specs.Book.{fresh, answers_of}
use Rattle.book.proofs.Reached.{fresh_reachable}
use Rattle.claim.specs.Claim.{Demand3}
use Rattle.claim.proofs.Demand3.{demand3}
use Rattle.replay.proofs.run.Goals as goal

pub run_from-requires : goal.run_from-requires
run_from-requires c = rw c.fresh_book.ensures fresh_reachable

pub returns : goal.returns
returns c = λ cs e m.
    let w = rw c.fresh_book.ensures at (c.run_from.ensures cs e m) in
    (subst (Demand3 cs (answers_of fresh cs)) (sym w.0) (demand3 cs), w.1)
