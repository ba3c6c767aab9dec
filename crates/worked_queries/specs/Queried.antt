-- What BENCHMARK, MAXIMUM and QUOTE give of sheet U, and their refusals, as the second implementation works them out.
-- Assumes nothing.
use Rattle.std.specs.Prelude.{◌≡◌, [], ◌∷◌, pos}
use Rattle.tariff.specs.Tariff.{all_fourteen}
use Rattle.book.specs.declared.Book.{Book}
use Rattle.book.specs.Calls.{sheet_at, SET, PUT}
use Rattle.queries.specs.Queries.{refused, benchmark_charge, maximum_charge, quotation, benchmark_of, maximum_of}
use Rattle.quoting.specs.Quote.{quote_of}
use Rattle.unlike.specs.SheetU.{sheet_u, period_u, three_tiers, peak_at, three_registers}
use Rattle.worked.specs.Worked.{book_of}

-- sheet U, with three tiers in place 1, three registers in place 4 and Economy 7 in place 5; and the registers without a sheet
abbrev pub three_tariffs : Book
three_tariffs = book_of (SET (sheet_at sheet_u period_u) ∷ PUT 1 (three_tiers 27000) ∷ PUT 4 (three_registers 15000) ∷ PUT 5 (peak_at 16100) ∷ [])

abbrev pub no_sheet : Book
no_sheet = book_of (PUT 4 (three_registers 15000) ∷ [])

-- of a book `three` and a book `bare`: proved of the two above (proofs/Queried.antt, `queried`)
pub record Queried (three bare : Book) : Type 0 where
  -- BENCHMARK and MAXIMUM: 13 before 10; a total of 120,000 is inside its range
  pub benchmark_refused : (benchmark_of bare all_fourteen 14 0 0 0 ≡ refused 13) × (benchmark_of bare all_fourteen 0 0 0 0 ≡ refused 10)
  pub maximum_refused : (maximum_of bare all_fourteen 0 0 0 120001 ≡ refused 13) × (maximum_of bare all_fourteen 0 0 0 120000 ≡ refused 10)
  pub benchmark_given : benchmark_of three all_fourteen 13 1 0 1 ≡ benchmark_charge (pos 77945243)
  pub maximum_given : maximum_of three all_fourteen 13 1 0 4321 ≡ maximum_charge (record { number = 3474740905188; denominator = 50400 })
  -- QUOTE: 6, 9, 10 and 13, each where later ones apply as well
  pub quote_6 : quote_of bare all_fourteen 33 14 2 [] ≡ refused 6
  pub quote_9 : quote_of bare all_fourteen 2 14 2 [] ≡ refused 9
  pub quote_10 : quote_of bare all_fourteen 4 14 2 [] ≡ refused 10
  -- 13: a region that is not offered, or none; a method; one month in place of two; a month above 10,000
  pub quote_13_region : (quote_of three all_fourteen 4 12 0 (100 ∷ 250 ∷ []) ≡ refused 13) × (quote_of three all_fourteen 4 14 0 (100 ∷ 250 ∷ []) ≡ refused 13)
  pub quote_13_method : (quote_of three all_fourteen 1 9 1 (30 ∷ 500 ∷ []) ≡ refused 13) × (quote_of three all_fourteen 4 13 2 (100 ∷ 250 ∷ []) ≡ refused 13)
  pub quote_13_months : (quote_of three all_fourteen 4 13 0 (100 ∷ []) ≡ refused 13) × (quote_of three all_fourteen 4 13 0 (10001 ∷ 0 ∷ []) ≡ refused 13)
  -- tiers, registers, Economy 7 with a split of 587, and a month of 10,000
  pub quoted_tiers : quote_of three all_fourteen 1 9 0 (30 ∷ 500 ∷ []) ≡ quotation (record { charge = 400458000000000; maximum = 435157783200000 })
  pub quoted_registers : quote_of three all_fourteen 4 13 0 (100 ∷ 250 ∷ []) ≡ quotation (record { charge = 324324000000000; maximum = 382163321400000 })
  pub quoted_economy : quote_of three all_fourteen 5 13 1 (100 ∷ 250 ∷ []) ≡ quotation (record { charge = 329184828000000; maximum = 372900721200000 })
  pub quoted_most : quote_of three all_fourteen 4 13 0 (10000 ∷ 0 ∷ []) ≡ quotation (record { charge = 7765632000000000; maximum = 7897492881600000 })
