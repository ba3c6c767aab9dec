-- `opening::open_as` meets its contract: its checks come first; past them a draft under a direction goes to its new
-- state. Of another the place holds a valid draft and the figures are lawful, so the walk's ruling is the verdict, handed on with the draft in its new
-- state or with 11 and its months.
-- Assumes nothing.
use mathlib.Core.Path.{◌≡◌, sym, ◌∙◌, ap}
use Rattle.tariff.specs.Tariff.{valid_tariff}
use Rattle.opening.specs.Opening.{usable_check, open_rest}
use Rattle.opening.proofs.Passed.{open_passed}
use Rattle.opening.proofs.open_as.Goals as goal

pub verdict_of-ruling-requires : goal.verdict_of-ruling-requires
verdict_of-ruling-requires c =
    let a = c.args in
    -- the checks, one after the other
    let checks : c.usable_check-checked.result ≡ usable_check a.desk a.code a.p (open_rest a.p.state a.loaded) = cc in
    -- past them
    let passed = open_passed a.desk a.code a.p a.loaded c.requires.1 (sym checks ∙ c.in-Pass.is) in
    (c.requires.0 passed.1, ap valid_tariff c.tariff_in.ensures ∙ passed.0)
