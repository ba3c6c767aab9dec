-- `speed::Desk::set_and_undo` leaves a book that some list of calls leaves: SET does, and so does UNDO.
-- Assumes nothing.
use Rattle.book.proofs.Reached.{does_reachable}
use Rattle.speed.proofs.Desk.set_and_undo.Goals as goal

pub invariant_of-self : goal.invariant_of-self
invariant_of-self c = does_reachable (does_reachable c.self.invariant c.set-did.ensures) c.undo-did.ensures
