-- `slatewhim::slatewhim_rebates` meets its contract: what is no book stays as it is, and on a book the run is the one of crate accounts.
-- Assumes nothing.
use mathlib.Core.Path.{sym, subst}
use Rattle.book.specs.Book.{Reachable}
use Rattle.image.proofs.Reading.{image_size}
use Rattle.slatewhim.proofs.Running.{no_run, did_run}
use Rattle.slatewhim.proofs.slatewhim_rebates.Goals as goal

pub book_in-b-requires : goal.book_in-b-requires
book_in-b-requires c = image_size _ (c.is_book.ensures.0 c.if-is_book.true).is_image_lem

pub run-answer-requires : goal.run-answer-requires
run-answer-requires c = subst Reachable (sym c.book_in-b.ensures) (c.is_book.ensures.0 c.if-is_book.true).reachable

pub returns-then-is_book : goal.returns-then-is_book
returns-then-is_book c =
    did_run c.args.book.now c.args.desk c.args.accounts.now (c.is_book.ensures.0 c.if-is_book.true) c.book_in-b.result c.book_in-b.ensures c.run-answer.result
    c.run-answer.new.accounts c.run-answer.ensures _ c.ran_of.ensures

pub returns : goal.returns
returns c = no_run c.args.book.now c.args.desk c.args.accounts.now c.is_book.result c.is_book.ensures.1 c.if-is_book.false _ c.no_run.ensures
