-- How the code goes about DIRECT: its checks as one.
-- Assumes nothing.
use Rattle.std.specs.Prelude.{ℕ}
use Rattle.refusal.specs.declared.Check.{Check}
use Rattle.refusal.specs.declared.Check.TheVariants.{Pass}
use Rattle.refusal.specs.Checks.{unless, first}
use Rattle.desks.specs.Desks.{is_full}
use Rattle.book.specs.declared.Place.{Place}
use Rattle.book.specs.Settling.{open_check, held_check}

-- "17 comes first, then 6, 9 and 7"
abbrev pub direct_checks : ℕ → ℕ → Place → Check
direct_checks desk k p = first (unless (is_full desk) 17 Pass) (held_check k p.state (open_check p.state))
