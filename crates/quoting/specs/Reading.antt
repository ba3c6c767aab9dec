-- How the code goes about the checks of QUOTE: on the place of the code, with whether a sheet is loaded and its number of months beside it. Only
-- the code's own functions are promised in these words; specs/Quote.antt does without them.
-- Assumes nothing.
use Rattle.std.specs.Prelude.{Bool, ◌&&◌, List, ℕ}
use Rattle.refusal.specs.declared.Check.{Check}
use Rattle.refusal.specs.declared.Check.TheVariants.{Pass}
use Rattle.refusal.specs.Checks.{unless, first}
use Rattle.tariff.specs.declared.Tariff.{Tariff}
use Rattle.desks.specs.Desks.{may_use}
use Rattle.book.specs.declared.Place.{Place}
use Rattle.book.specs.Book.{tariff_in}
use Rattle.book.specs.Settling.{held_check}
use Rattle.quoting.specs.Quote.{cell_allowed, months_allowed}

-- 13 and then 17: a tariff, in a cell, with months of which there are to be t
abbrev pub quote_check : (desk t : ℕ) → Tariff → ℕ → ℕ → List ℕ → Check
quote_check desk t x r m months =
    first (unless (cell_allowed x r m && months_allowed t months) 13 Pass) (unless (may_use desk x.regions) 17 Pass)

-- 6, 9, 10, 13 and 17
abbrev pub check_at : (desk k : ℕ) → Place → (loaded : Bool) (t : ℕ) → ℕ → ℕ → List ℕ → Check
check_at desk k p loaded t r m months =
    held_check k p.state (first (unless loaded 10 Pass) (quote_check desk t (tariff_in p) r m months))
