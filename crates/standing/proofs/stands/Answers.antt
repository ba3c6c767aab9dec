-- `standing::stands` meets its contract.
-- Assumes nothing.
use Rattle.stands.proofs.Kept.{reachable_stands, reachable_fits}
use Rattle.stands.proofs.Exactly.{reachable_exactly}
use Rattle.standing.proofs.Told.{fails, held, decides, both}
use Rattle.standing.proofs.stands.Goals as goal

pub returns-then-not-fits : goal.returns-then-not-fits
returns-then-not-fits c = fails _ c.fits.ensures c.if-not-fits.true (reachable_fits _)

pub returns-then-kept : goal.returns-then-kept
returns-then-kept c =
    let any = c.if-kept.true in
    let b = c.args.b in
    let fits = held _ c.fits.ensures c.if-not-fits.false in
    decides _ c.is_step.ensures
    (λ q. (reachable_exactly b).1 (record { fits = fits; nothing_kept_lem = λ l. both _ any l; step_kept = λ l. q }))
    (λ r. (reachable_stands b r).step_kept any)

pub returns : goal.returns
returns c =
    let none = c.if-kept.false in
    let b = c.args.b in
    let fits = held _ c.fits.ensures c.if-not-fits.false in
    decides _ c.is_nothing.ensures
    (λ q. (reachable_exactly b).1 (record { fits = fits; nothing_kept_lem = λ l. q; step_kept = λ l. both _ l none }))
    (λ r. (reachable_stands b r).nothing_kept_lem none)
