-- `speed::Desk::settle` leaves a book that some list of calls leaves: with the place stored, what is kept for UNDO is as the call leaves it.
-- Assumes nothing.
use Rattle.std.proofs.Common.{sym, ◌∙◌}
use Rattle.book.proofs.Places.{has_there}
use Rattle.stands.proofs.Placed.{gone_reachable, stays_reachable}
use Rattle.codes.proofs.Places.{may_judge}
use Rattle.speed.proofs.Desk.settle.Goals as goal

pub settle-did-requires : goal.settle-did-requires
settle-did-requires c = may_judge (has_there c.self.invariant _ _ c.index_of-at.ensures) c.args.act

pub invariant_of-self : goal.invariant_of-self
invariant_of-self c =
    let does = c.settle-did.ensures.1 _ _ (has_there c.self.invariant _ _ c.index_of-at.ensures) in
    gone_reachable _ c.self.invariant _ _ c.settle-did.result does _ c.nothing_kept-self-inside.ensures (sym c.ends_undo.ensures ∙ c.if-ends_undo.true)

pub invariant_of-self-else-ends_undo : goal.invariant_of-self-else-ends_undo
invariant_of-self-else-ends_undo c =
    let does = c.settle-did.ensures.1 _ _ (has_there c.self.invariant _ _ c.index_of-at.ensures) in
    stays_reachable _ c.self.invariant _ _ c.settle-did.result does (sym c.ends_undo.ensures ∙ c.if-ends_undo.false)
