-- The rebate run of M-108 of document 02: "At the end of the period, the run takes a lent list of accounts, each with code, region, method, a
-- number of months and twelve places for them, and writes into each account the rebate due."
-- Assumes nothing.
use Rattle.std.specs.Prelude.{Bool, true, false, not, cond, ◌&&◌, ◌||◌, List, [], ◌∷◌, map, ℕ, suc, ◌+◌, ◌*◌, leb, take}
use Rattle.std.proofs.Math.Option.{Option, none, some}
use Rattle.laws.specs.Notions.{sum}
use Rattle.laws.specs.Least.{least}
use Rattle.refusal.specs.Checks.{need}
use Rattle.charge.specs.Most.{months_most}
use Rattle.cap.specs.declared.CellNumbers.{CellNumbers}
use Rattle.cap.specs.Cap.{scale}
use Rattle.verdict.specs.Cells.{cell, tariff_numbers}
use Rattle.book.specs.declared.Book.{Book}
use Rattle.book.specs.Calls.{Sheet}
use Rattle.book.specs.Checks.{Holding, figures_of}
use Rattle.book.specs.Book.{in_force, book_readings}
use Rattle.queries.specs.Queries.{Quotation, Telling, refused, benchmark_charge, maximum_charge, quotation, falling}
use Rattle.quoting.specs.Quote.{quote_of}
use Rattle.rebates.specs.declared.Account.{Account}

-- the months of an account: as many of its places as its number of months says
abbrev pub months_in : Account → List ℕ
months_in a = take a.count a.months

-- what QUOTE tells a desk of an account. More months than there are places for are no list of t months: QUOTE's 13
unfoldable pub quoted_of : Book → (desk : ℕ) → Account → Telling
quoted_of b desk a =
    need refused (leb a.count months_most) 13 (quote_of b desk a.code a.region a.method (months_in a))

abbrev pub is_refused : Telling → Bool
is_refused (refused n) = true
is_refused (benchmark_charge mills) = false
is_refused (maximum_charge f) = false
is_refused (quotation q) = false
is_refused (falling codes) = false

-- "19, an account that QUOTE would refuse (17 included) or one at place 1,000,000 or later, counted from 0"
abbrev pub places_most : ℕ
places_most = 1000000

unfoldable pub fails19 : Book → (desk place : ℕ) → Account → Bool
fails19 b desk place a = leb places_most place || is_refused (quoted_of b desk a)

-- "18, tariff not open under a direction"
abbrev pub open_directed : Option Holding → Bool
open_directed none = false
open_directed (some h) = h.is_open && h.is_directed

unfoldable pub fails18 : Book → (place : ℕ) → Account → Bool
fails18 b place a = not (open_directed ((book_readings b).held a.code))

-- "both give the first such account's place": the first place of a list, counted from i, whose account fails a test
unfoldable pub first_from : (ℕ → Account → Bool) → ℕ → List Account → Option ℕ
first_from fails i [] = none
first_from fails i (a ∷ l) = cond (fails i a) (some i) (first_from fails (suc i) l)

abbrev pub first_place : (ℕ → Account → Bool) → List Account → Option ℕ
first_place fails l = first_from fails 0 l

-- "charge less maximum in mills, rounded up, or 0": the least whole number of mills that, with the maximum, is not below the charge. Both
-- figures of a quotation are scaled, and so are the mills. No rebate is above the charge (proofs/Rounded.antt, `rebate_least`)
unfoldable pub rebate_of : (scale : ℕ) → Quotation → ℕ
rebate_of scale q = least q.charge (λ mills. leb q.charge (q.maximum + mills * scale))

-- the scale of what QUOTE tells of an account: that of the numbers of its cell, for the tariff of its code and the sheet in force
abbrev pub numbers_for : Sheet → Holding → Account → CellNumbers
numbers_for s h a = tariff_numbers (figures_of s) h.tariff (cell a.region a.method)

abbrev pub scale_with : Option Sheet → Option Holding → Account → ℕ
scale_with none h a = 0
scale_with (some s) none a = 0
scale_with (some s) (some h) a = scale (numbers_for s h a)

unfoldable pub scale_for : Book → Account → ℕ
scale_for b a = scale_with (in_force b) ((book_readings b).held a.code) a

-- "the rebate due"; an account that QUOTE refuses is due none
abbrev pub due_by : Telling → (scale : ℕ) → ℕ
due_by (refused n) scale = 0
due_by (benchmark_charge mills) scale = 0
due_by (maximum_charge f) scale = 0
due_by (quotation q) scale = rebate_of scale q
due_by (falling codes) scale = 0

unfoldable pub due_of : Book → (desk : ℕ) → Account → ℕ
due_of b desk a = due_by (quoted_of b desk a) (scale_for b a)

-- "writes into each account the rebate due"; "No other part of an account changes"
abbrev pub with_rebate : ℕ → Account → Account
with_rebate mills a =
    record { code = a.code; region = a.region; method = a.method; count = a.count; months = a.months; rebate = mills }

abbrev pub repaid : Book → (desk : ℕ) → Account → Account
repaid b desk a = with_rebate (due_of b desk a) a

-- "The total in the answer is the sum of these over the list."
unfoldable pub total_of : Book → (desk : ℕ) → List Account → ℕ
total_of b desk l = sum (map (due_of b desk) l)

-- what the run answers: the total, or a refusal with "the first such account's place"
pub data RunAnswer : Type 0 where
  accepted : (total : ℕ) → RunAnswer
  refused_at : (number place : ℕ) → RunAnswer

abbrev pub is_accepted : RunAnswer → Bool
is_accepted (accepted total) = true
is_accepted (refused_at number place) = false

-- a refusal where there is such a place, and else what comes next
abbrev pub unless_at : Option ℕ → (number : ℕ) → RunAnswer → RunAnswer
unless_at none number next = next
unless_at (some place) number next = refused_at number place

-- "19 tested over the whole list before 18"
unfoldable pub run_of : Book → (desk : ℕ) → List Account → RunAnswer
run_of b desk l =
    unless_at (first_place (fails19 b desk) l) 19 (unless_at (first_place (fails18 b) l) 18 (accepted (total_of b desk l)))

-- the list that the run leaves: "nothing is written if the run is refused"
unfoldable pub after_run : Book → (desk : ℕ) → List Account → List Account
after_run b desk l = cond (is_accepted (run_of b desk l)) (map (repaid b desk) l) l
