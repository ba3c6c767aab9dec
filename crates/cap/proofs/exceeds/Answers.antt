-- `cap::exceeds` meets its contract: the comparison at the worst months decides.
-- Assumes nothing.
use mathlib.Core.Path.{sym, ◌∙◌}
use Rattle.cap.proofs.Decided.{exceeds?}
use Rattle.cap.proofs.Comparing.{compares, decided_yes, yes_decided}
use Rattle.cap.proofs.exceeds.Goals as goal

pub returns : goal.returns
returns c =
    let a = c.args in
    let d = compares a.e a.x c.compared-worst.result c.compared-worst.ensures in
    (λ t. decided_yes (exceeds? a.e a.x) (sym d ∙ t), λ h. d ∙ yes_decided (exceeds? a.e a.x) h)
