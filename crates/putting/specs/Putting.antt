-- How the code goes about PUT: its checks as one.
-- Assumes nothing.
use Rattle.std.specs.Prelude.{Bool, ◌||◌, ℕ}
use Rattle.refusal.specs.declared.Check.{Check}
use Rattle.refusal.specs.declared.Check.TheVariants.{Pass}
use Rattle.refusal.specs.Checks.{unless, first}
use Rattle.tariff.specs.Tariff.{record_check}
use Rattle.desks.specs.Desks.{is_full}
use Rattle.book.specs.declared.Place.{Place}
use Rattle.book.specs.Calls.{Record}
use Rattle.book.specs.Checks.{covers_draft, may_put}
use Rattle.book.specs.Book.{held}
use Rattle.book.specs.Settling.{code_check, open_check}

-- 17, of the draft that the place holds, if it holds one
abbrev pub draft_may : ℕ → Place → Bool
draft_may desk p = is_full desk || covers_draft desk (held p)

-- 6, 7, 8 and this
abbrev pub draft_checks : ℕ → ℕ → Place → Record → Check
draft_checks desk k p x =
    first (code_check k) (first (open_check p.state) (first (record_check x) (unless (draft_may desk p) 17 Pass)))

-- 6, 7, 8 and 17, of the new tariff, too
abbrev pub put_checks : ℕ → ℕ → Place → Record → Check
put_checks desk k p x =
    first (code_check k) (first (open_check p.state) (first (record_check x) (unless (may_put desk (held p) x) 17 Pass)))
