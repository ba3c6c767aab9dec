-- Worked lists of calls by desks with regions (document 02, M-107), and what such desks are told of sheet U.
-- Assumes nothing.
use Rattle.std.specs.Prelude.{◌≡◌, [], ◌∷◌, ℕ, pos, set}
use Rattle.verdict.specs.Cells.{cell}
use Rattle.book.specs.declared.Book.{Book}
use Rattle.book.specs.Calls.{Record, SET, PUT, OPEN, CLOSE, DROP, UNDO, ASK, CONFIRM, by, call, accepted, cells, refused, over}
use Rattle.book.specs.Book.{fresh}
use Rattle.queries.specs.Queries.{benchmark_charge, maximum_charge, quotation, benchmark_of, maximum_of}
use Rattle.quoting.specs.Quote.{quote_of}
use Rattle.queries.specs.Queries as tells
use Rattle.trial.specs.Trial.{trial_of}
use Rattle.history.specs.History.{answers_after}
use Rattle.worked.specs.Worked.{quarter, no_fields, low, high}

-- a tariff within the cap, and one above it, in some regions alone: bit 0 is region 0
abbrev pub low_in : ℕ → Record
low_in regions = set low 3 regions

abbrev pub high_in : ℕ → Record
high_in regions = set high 3 regions

pub record Desks : Type 0 where
  -- a tariff of region 0: the desk of region 0 opens it and the desks of region 1 may not use it, a draft or open; 17 comes before 7 and 12. A
  -- desk of both regions may
  pub own : answers_after [] (call (SET quarter) ∷ by 1 (PUT 4 (low_in 1)) ∷ by 2 (CLOSE 4) ∷ by 2 (OPEN 4) ∷ by 1 (OPEN 4) ∷ by 2 (OPEN 4) ∷ by 1 (OPEN 4) ∷ by 3 (CLOSE 4) ∷ by 2 (DROP 4) ∷ by 1 (DROP 4) ∷ [])
      ≡ accepted ∷ accepted ∷ refused 17 ∷ refused 17 ∷ cells 2 ∷ refused 17 ∷ refused 7 ∷ accepted ∷ refused 17 ∷ accepted ∷ []
  -- a tariff of all regions: not for a desk without one of them, and for no set with a higher bit; 17 comes before 16
  pub half_inside : answers_after [] (call (SET quarter) ∷ call (PUT 1 low) ∷ by 1 (OPEN 1) ∷ by 16382 (ASK 1) ∷ by 8191 (CONFIRM 1) ∷ by 0 (ASK 1) ∷ call (ASK 1) ∷ by 16384 (CONFIRM 1) ∷ by 32767 (CONFIRM 1) ∷ by 4294967295 (CONFIRM 1) ∷ by 16383 (CONFIRM 1) ∷ [])
      ≡ accepted ∷ accepted ∷ refused 17 ∷ refused 17 ∷ refused 17 ∷ refused 17 ∷ cells 28 ∷ refused 17 ∷ refused 17 ∷ refused 17 ∷ cells 28 ∷ []
  -- 6, 9 and 10 as ever: 6 and 9 come before 17, and 17 before 10
  pub between : answers_after [] (by 0 (OPEN 33) ∷ by 0 (OPEN 4) ∷ by 0 (DROP 4) ∷ by 32767 (CLOSE 4) ∷ by 0 (CONFIRM 4) ∷ by 1 (PUT 4 (low_in 1)) ∷ by 2 (OPEN 4) ∷ by 1 (OPEN 4) ∷ [])
      ≡ refused 6 ∷ refused 9 ∷ refused 9 ∷ refused 9 ∷ refused 9 ∷ accepted ∷ refused 17 ∷ refused 10 ∷ []
  -- PUT: 8 before 17; the new tariff counts, at an empty place too; and so does the old draft: region 1 takes the place over only with the
  -- help of a desk that has both; an open place is 7 to every desk
  pub put_over : answers_after [] (by 0 (PUT 4 []) ∷ by 0 (PUT 4 (low_in 1)) ∷ by 1 (PUT 4 (low_in 2)) ∷ by 1 (PUT 4 (low_in 1)) ∷ by 2 (PUT 4 (low_in 2)) ∷ by 3 (PUT 4 (low_in 2)) ∷ by 1 (PUT 4 (low_in 1)) ∷ by 2 (PUT 4 (low_in 2)) ∷ call (SET quarter) ∷ by 2 (OPEN 4) ∷ by 1 (PUT 4 (low_in 1)) ∷ [])
      ≡ refused 8 ∷ refused 17 ∷ refused 17 ∷ accepted ∷ refused 17 ∷ accepted ∷ refused 17 ∷ accepted ∷ accepted ∷ cells 2 ∷ refused 7 ∷ []
  -- SET and UNDO: 17 first, to every desk but the one with all fourteen
  pub full_alone : answers_after [] (by 16382 (SET no_fields) ∷ by 32767 (SET quarter) ∷ by 0 UNDO ∷ call (SET quarter) ∷ by 8191 UNDO ∷ call (SET no_fields) ∷ call UNDO ∷ [])
      ≡ refused 17 ∷ refused 17 ∷ refused 17 ∷ accepted ∷ refused 17 ∷ refused 1 ∷ accepted ∷ []
  -- 11, with the cell, to a desk that may use the code, and 17 to one that may not
  pub over_there : answers_after [] (call (SET quarter) ∷ by 2 (PUT 4 (high_in 2)) ∷ by 2 (OPEN 4) ∷ by 1 (OPEN 4) ∷ [])
      ≡ accepted ∷ accepted ∷ over (cell 1 1) (0 ∷ 0 ∷ 0 ∷ []) (pos 1332000000) ∷ refused 17 ∷ []
  -- TRIAL: 17 first
  pub tried : (trial_of fresh 16382 no_fields ≡ tells.refused 17) × (trial_of fresh 32767 quarter ≡ tells.refused 17)

-- of a book `three` and a book `bare`, those of specs/Queried.antt: code 4 is a tariff of regions 3 and 13 (proofs/Desks.antt, `told_to_desks`)
pub record ToldToDesks (three bare : Book) : Type 0 where
  -- BENCHMARK and MAXIMUM: a desk with the region is told, another is refused, with a sheet or without; 13 comes before 17, and 17 before 10
  pub benchmark_told : benchmark_of three 8192 13 1 0 1 ≡ benchmark_charge (pos 77945243)
  pub benchmark_outside : (benchmark_of three 8191 13 1 0 1 ≡ tells.refused 17) × (benchmark_of three 32767 13 1 0 1 ≡ tells.refused 17) × (benchmark_of three 0 13 1 0 1 ≡ tells.refused 17)
  pub benchmark_bare : (benchmark_of bare 0 14 0 0 0 ≡ tells.refused 13) × (benchmark_of bare 8191 13 0 0 0 ≡ tells.refused 17) × (benchmark_of bare 8192 13 0 0 0 ≡ tells.refused 10)
  pub maximum_told : maximum_of three 8192 13 1 0 4321 ≡ maximum_charge (record { number = 3474740905188; denominator = 50400 })
  pub maximum_outside : maximum_of three 8191 13 1 0 4321 ≡ tells.refused 17
  pub maximum_bare : (maximum_of bare 0 13 0 0 120001 ≡ tells.refused 13) × (maximum_of bare 8191 13 0 0 0 ≡ tells.refused 17) × (maximum_of bare 8192 13 0 0 0 ≡ tells.refused 10)
  -- QUOTE: a desk with both regions is told, one with one of them is not; 17 comes last
  pub quote_told : quote_of three 8200 4 13 0 (100 ∷ 250 ∷ []) ≡ quotation (record { charge = 324324000000000; maximum = 382163321400000 })
  pub quote_outside : (quote_of three 8192 4 13 0 (100 ∷ 250 ∷ []) ≡ tells.refused 17) × (quote_of three 24584 4 13 0 (100 ∷ 250 ∷ []) ≡ tells.refused 17)
  pub quote_last : (quote_of three 8192 4 13 0 (100 ∷ []) ≡ tells.refused 13) × (quote_of bare 8192 4 13 0 [] ≡ tells.refused 10) × (quote_of bare 8192 5 13 0 [] ≡ tells.refused 9)
