-- The claim of the two books (document 02, M-107) is about something: the books after sheet S, and after sheet S with another network cost in
-- region 1, are alike for the desk of region 0, and the desk of region 1 is told different figures.
-- Assumes nothing.
use Rattle.std.specs.Prelude.{◌≡◌, [], ◌∷◌, ◌≢◌, pos}
use Rattle.book.specs.declared.Book.{Book}
use Rattle.book.specs.Calls.{Sheet, SET}
use Rattle.book.specs.Book.{in_force, Reachable}
use Rattle.queries.specs.Queries.{refused, benchmark_charge, benchmark_of}
use Rattle.alike.specs.Alike.{Alike}
use Rattle.worked.specs.Worked.{quarter, book_of}
use Rattle.worked_refusals.specs.Refusals.{with_field}

-- field 41, NC of region 1 for single-rate at nil, is 2,000,000 in sheet S
abbrev pub cheaper : Sheet
cheaper = with_field 41 1000000

abbrev pub one : Book
one = book_of (SET quarter ∷ [])

abbrev pub other : Book
other = book_of (SET cheaper ∷ [])

-- of a book b and a book c: proved of the two above (proofs/Apart.antt, `apart`). Desk 1 has region 0 alone, desk 2 region 1 alone
pub record Apart (b c : Book) : Type 0 where
  pub reachable : Reachable b × Reachable c
  pub alike : Alike 1 b c
  pub sheets_differ : in_force b ≢ in_force c
  -- BENCHMARK of region 1, single-rate, Standard Credit, at nil: 17 to the one desk, and the figure of each sheet to the other
  pub not_told : (benchmark_of b 1 1 0 0 0 ≡ refused 17) × (benchmark_of c 1 1 0 0 0 ≡ refused 17)
  pub told_apart : (benchmark_of b 2 1 0 0 0 ≡ benchmark_charge (pos 9418050)) × (benchmark_of c 2 1 0 0 0 ≡ benchmark_charge (pos 8398050))
