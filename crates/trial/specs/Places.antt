-- What falls, place by place, as the code looks at it.
-- Assumes nothing.
use Rattle.std.specs.Prelude.{Bool, ◌&&◌, List, ℕ}
use Rattle.book.specs.declared.Place.{Place}
use Rattle.book.specs.Checks.{is_open}
use Rattle.book.specs.Book.{place_of, held}
use Rattle.trial.specs.Trial.{is_draft}

-- a place holds an open tariff, and then a draft
abbrev pub fell : (before after : Place) → Bool
fell before after = is_open (held before) && is_draft (held after)

abbrev pub fell_from : (before after : List Place) → ℕ → Bool
fell_from before after k = fell (place_of before k) (place_of after k)
