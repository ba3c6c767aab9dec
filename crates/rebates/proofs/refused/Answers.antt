-- `rebates::refused` meets its contract: it makes the checks of QUOTE, for a number of months that has places.
-- Assumes nothing.
use Rattle.std.proofs.Common.{sym, ◌∙◌, ap}
use Rattle.rebates.specs.Rebates.{is_refused}
use Rattle.rebates.proofs.There.{too_many, refused_by}
use Rattle.rebates.proofs.refused.Goals as goal

pub returns-then-count-gt12 : goal.returns-then-count-gt12
returns-then-count-gt12 c b i f there e = sym (ap is_refused (too_many b c.args.desk c.args.a c.if-count-gt12.true))

pub returns-in_default : goal.returns-in_default
returns-in_default c b i f there e =
    refused_by c.args.desk c.args.a there c.if-count-gt12.false c.args.t e _ (sym c.check_at-checked.ensures ∙ c.in_default.is)

pub returns : goal.returns
returns c b i f there e =
    refused_by c.args.desk c.args.a there c.if-count-gt12.false c.args.t e _ (sym c.check_at-checked.ensures ∙ c.in-Pass.is)
