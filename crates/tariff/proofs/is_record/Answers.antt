-- `tariff::is_record` meets its contract.
-- Assumes nothing.
use mathlib.Core.Path.{◌∙◌, ap}
use Rattle.tariff.specs.Tariff.{valid_tariff}
use Rattle.tariff.proofs.is_record.Goals as goal

pub returns : goal.returns
returns c = c.is_valid.ensures ∙ ap valid_tariff c.tariff_of.ensures
