-- `tariff::check` meets its contract. The record is refused by its length, or by what `is_valid` says of its tariff.
-- Assumes nothing.
use borrow.Author.Tests.{eq-eqb, ne_eqb}
use Rattle.tariff.specs.Tariff.{record_length, record_check}
use Rattle.tariff.proofs.check.Goals as goal

pub returns-then-x-ne-RECORD_LENGTH : goal.returns-then-x-ne-RECORD_LENGTH
unfolding record_check
returns-then-x-ne-RECORD_LENGTH c = rw (ne_eqb _ record_length c.if-x-ne-RECORD_LENGTH.true)

pub returns-then-is_valid : goal.returns-then-is_valid
unfolding record_check
returns-then-is_valid c =
    rw (eq-eqb _ record_length c.if-x-ne-RECORD_LENGTH.false, ← c.tariff_of.ensures, ← c.is_valid.ensures, c.if-is_valid.true)

pub returns-else-is_valid : goal.returns-else-is_valid
unfolding record_check
returns-else-is_valid c =
    rw (eq-eqb _ record_length c.if-x-ne-RECORD_LENGTH.false, ← c.tariff_of.ensures, ← c.is_valid.ensures, c.if-is_valid.false)
