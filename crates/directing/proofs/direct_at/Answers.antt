-- `directing::direct_at` meets its contract: its checks settle the place.
-- Assumes nothing.
use mathlib.Core.Path.{◌∙◌, ap, ap₂}
use mathlib.Core.Bool.{true}
use Rattle.refusal.specs.Checks.{first}
use Rattle.book.specs.Book.{place_with}
use Rattle.book.specs.Settling.{held_check}
use Rattle.book.proofs.OnePlace.{by_checks}
use Rattle.directing.specs.Directing.{direct_checks}
use Rattle.directing.proofs.Answers.{directs_there}
use Rattle.directing.proofs.direct_at.Goals as goal

pub returns : goal.returns
returns c =
    let a = c.args in
    let checks = c.first-checked.ensures ∙ ap₂ first c.full_check-full.ensures (c.held_check-draft.ensures ∙ ap (held_check a.code a.p.state) c.open_check-shut.ensures) in
    let s = by_checks (direct_checks a.desk a.code a.p) _ _ _ _ _ c.settled_by.ensures checks (c.place_with-directed.ensures ∙ ap (place_with a.p.state true) c.tariff_in.ensures) in
    (s, λ b i loaded figures h. directs_there h a.desk _ s)
