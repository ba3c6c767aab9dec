-- "Trial of a sheet", M-100 of document 02: what TRIAL answers, said by SET.
-- Assumes nothing.
use Rattle.std.specs.Prelude.{Bool, false, not, ◌&&◌, ℕ, suc}
use Rattle.std.proofs.Math.Option.{Option, none, some}
use Rattle.laws.specs.Notions.{set_of}
use Rattle.book.specs.declared.Book.{Book}
use Rattle.book.specs.Calls.{Sheet, SET, by, refusal_number}
use Rattle.book.specs.Checks.{Holding, is_open}
use Rattle.book.specs.Book.{book_readings, step}
use Rattle.queries.specs.Queries.{Telling, refused, falling}

-- what is held is a draft
abbrev pub is_draft : Option Holding → Bool
is_draft none = false
is_draft (some h) = not h.is_open

-- code k falls from one book to another: it is open in the one and a draft in the other
abbrev pub falls : (before after : Book) → ℕ → Bool
falls before after k = is_open ((book_readings before).held k) && is_draft ((book_readings after).held k)

-- "a set of codes, bit code - 1 for each"
abbrev pub codes_where : (ℕ → Bool) → ℕ
codes_where f = set_of 32 (λ i. f (suc i))

-- a refusal where there is one, and else what is told
abbrev pub told_unless : Option ℕ → Telling → Telling
told_unless none told = told
told_unless (some n) told = refused n

-- TRIAL (sheet, period), of a desk: "a set of codes, bit code - 1 for each tariff that would become a draft. On a copy of the book SET must give
-- the same outcome, refusals 1 to 5 included", and M-107's 17, first in both
unfoldable pub trial_of : Book → (desk : ℕ) → Sheet → Telling
trial_of b desk s =
    let set = step b (by desk (SET s)) in told_unless (refusal_number set.answer) (falling (codes_where (falls b set.book)))
