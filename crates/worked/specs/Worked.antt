-- Worked lists of what is asked of a fresh book, call by call, and the answers, read from the calls alone.
-- Assumes nothing.
use Rattle.std.specs.Prelude.{◌≡◌, List, [], ◌∷◌, map, pos, ℕ}
use Rattle.tariff.specs.Tariff.{all_fourteen}
use Rattle.verdict.specs.Cells.{cell}
use Rattle.book.specs.declared.Book.{Book}
use Rattle.book.specs.Calls.{Sheet, Record, Act, SET, PUT, OPEN, CLOSE, DROP, UNDO, ASK, CONFIRM, call, Answer, accepted, cells, refused, over}
use Rattle.book.specs.Book.{fresh, book_after}
use Rattle.queries.specs.Queries.{quotation}
use Rattle.quoting.specs.Quote.{quote_of}
use Rattle.reference.specs.SheetS.{sheet_s, with_split, period_s, in_region, flat, tiered}
use Rattle.reference.specs.Starred.{first_other}
use Rattle.reference.specs.Splits.{day_dear}
use Rattle.reference.specs.Regional.{with_more}
use Rattle.history.specs.History.{answers_after}

-- sheet S for October to December 2023, and for October alone
abbrev pub quarter : Sheet
quarter = record { fields = sheet_s; period = period_s }

abbrev pub october : Sheet
october = record { fields = sheet_s; period = record { year = 2023; month = 10; months = 1 } }

-- the sheet of the quarter with another peak share
abbrev pub split_at : ℕ → Sheet
split_at tenths = record { fields = with_split tenths; period = period_s }

-- no sheet at all
abbrev pub no_fields : Sheet
no_fields = record { fields = []; period = period_s }

-- tariffs: well within the cap; within it for the quarter and above it for October, which has more days to the month; above it;
-- above it in 100 kWh a month alone
abbrev pub low : Record
low = flat 23000 18000

abbrev pub close : Record
close = flat 23960 18000

abbrev pub high : Record
high = flat 23961 18000

abbrev pub steep : Record
steep = tiered 20000 20000 100 15000

-- the first of them with 960 a day more in region 5
abbrev pub dear_in5 : Record
dear_in5 = with_more (in_region 5 960)

-- the answers to such a list of a desk with all fourteen regions, and the book that it leaves
abbrev pub answers_to : List Act → List Answer
answers_to acts = answers_after [] (map call acts)

abbrev pub book_of : List Act → Book
book_of acts = book_after fresh (map call acts)

pub record Worked : Type 0 where
  -- a sheet that makes one of two open tariffs a draft: closing it again is 12, closing the other is accepted
  pub demoted : answers_to (SET quarter ∷ PUT 1 close ∷ PUT 2 low ∷ OPEN 1 ∷ OPEN 2 ∷ SET october ∷ CLOSE 1 ∷ CLOSE 2 ∷ [])
      ≡ accepted ∷ accepted ∷ accepted ∷ cells 28 ∷ cells 28 ∷ accepted ∷ refused 12 ∷ accepted ∷ []
  -- a sheet that differs from the one in force in field 95 alone: an Economy 7 tariff falls, and is over the cap by a tenth of a percent
  pub split_falls : answers_to (SET (split_at 579) ∷ PUT 1 day_dear ∷ PUT 2 low ∷ OPEN 1 ∷ OPEN 2 ∷ SET quarter ∷ CLOSE 1 ∷ CLOSE 2 ∷ OPEN 1 ∷ [])
      ≡ accepted ∷ accepted ∷ accepted ∷ cells 28 ∷ cells 28 ∷ accepted ∷ refused 12 ∷ accepted ∷ over first_other (10000 ∷ 10000 ∷ 10000 ∷ []) (pos 3678000000000) ∷ []
  -- October's sheet sends back a tariff for what it adds in region 5 alone, and not the same one without it
  pub region_falls : answers_to (SET quarter ∷ PUT 1 dear_in5 ∷ PUT 2 low ∷ OPEN 1 ∷ OPEN 2 ∷ SET october ∷ CLOSE 1 ∷ CLOSE 2 ∷ OPEN 1 ∷ [])
      ≡ accepted ∷ accepted ∷ accepted ∷ cells 28 ∷ cells 28 ∷ accepted ∷ refused 12 ∷ accepted ∷ over (cell 5 1) (0 ∷ []) (pos 286860000000) ∷ []
  -- M-105. A sheet loaded too early makes one of two open tariffs a draft; UNDO brings it back, and both are open (7); the same sheet later
  -- makes it a draft again; once the other is closed, there is nothing to take back
  pub too_early : answers_to (SET quarter ∷ PUT 1 close ∷ PUT 2 low ∷ OPEN 1 ∷ OPEN 2 ∷ SET october ∷ CLOSE 1 ∷ UNDO ∷ OPEN 1 ∷ OPEN 2 ∷ SET october ∷ CLOSE 1 ∷ CLOSE 2 ∷ UNDO ∷ [])
      ≡ accepted ∷ accepted ∷ accepted ∷ cells 28 ∷ cells 28 ∷ accepted ∷ refused 12 ∷ accepted ∷ refused 7 ∷ refused 7 ∷ accepted ∷ refused 12 ∷ accepted ∷ refused 15 ∷ []
  -- one step is kept: SET, SET, UNDO, UNDO; and the sheet of the first is in force
  pub one_step_lem : answers_to (PUT 1 close ∷ SET quarter ∷ SET october ∷ UNDO ∷ UNDO ∷ OPEN 1 ∷ [])
      ≡ accepted ∷ accepted ∷ accepted ∷ accepted ∷ refused 15 ∷ cells 28 ∷ []
  -- UNDO of the first SET: no sheet again, and the draft stays
  pub none_again : answers_to (UNDO ∷ PUT 1 low ∷ SET quarter ∷ UNDO ∷ OPEN 1 ∷ SET quarter ∷ OPEN 1 ∷ [])
      ≡ refused 15 ∷ accepted ∷ accepted ∷ accepted ∷ refused 10 ∷ accepted ∷ cells 28 ∷ []
  pub fresh_again : book_of (SET quarter ∷ UNDO ∷ []) ≡ fresh
  -- a refused SET makes no step, and leaves none in place of the one before
  pub no_step : answers_to (SET no_fields ∷ UNDO ∷ SET quarter ∷ UNDO ∷ SET no_fields ∷ UNDO ∷ [])
      ≡ refused 1 ∷ refused 15 ∷ accepted ∷ accepted ∷ refused 1 ∷ refused 15 ∷ []
  -- refused calls leave the step, an accepted PUT, DROP or OPEN takes it away
  pub step_stays : answers_to (SET quarter ∷ PUT 0 low ∷ OPEN 2 ∷ CLOSE 33 ∷ DROP 2 ∷ SET no_fields ∷ UNDO ∷ [])
      ≡ accepted ∷ refused 6 ∷ refused 9 ∷ refused 6 ∷ refused 9 ∷ refused 1 ∷ accepted ∷ []
  pub step_goes : answers_to (SET quarter ∷ PUT 1 low ∷ UNDO ∷ SET quarter ∷ OPEN 1 ∷ UNDO ∷ PUT 2 low ∷ SET quarter ∷ DROP 2 ∷ UNDO ∷ [])
      ≡ accepted ∷ accepted ∷ refused 15 ∷ accepted ∷ cells 28 ∷ refused 15 ∷ accepted ∷ accepted ∷ accepted ∷ refused 15 ∷ []
  -- M-106. The manager confirms what the analyst asked for: 16 before it was asked; asked twice, it is a draft still (12); confirmed, it is open
  -- (7), and closed again it has no mark
  pub confirmed : answers_to (SET quarter ∷ PUT 1 low ∷ CONFIRM 1 ∷ ASK 1 ∷ ASK 1 ∷ CLOSE 1 ∷ CONFIRM 1 ∷ ASK 1 ∷ CONFIRM 1 ∷ CLOSE 1 ∷ CONFIRM 1 ∷ [])
      ≡ accepted ∷ accepted ∷ refused 16 ∷ cells 28 ∷ cells 28 ∷ refused 12 ∷ cells 28 ∷ refused 7 ∷ refused 7 ∷ accepted ∷ refused 16 ∷ []
  -- a sheet comes between: no mark is left, of a tariff that exceeds with it and of one that does not
  pub sheet_between : answers_to (SET quarter ∷ PUT 1 close ∷ PUT 2 low ∷ ASK 1 ∷ ASK 2 ∷ SET october ∷ CONFIRM 1 ∷ CONFIRM 2 ∷ ASK 1 ∷ ASK 2 ∷ CONFIRM 2 ∷ CONFIRM 1 ∷ [])
      ≡ accepted ∷ accepted ∷ accepted ∷ cells 28 ∷ cells 28 ∷ accepted ∷ refused 16 ∷ refused 16 ∷ over first_other (0 ∷ []) (pos 286860000000) ∷ cells 28 ∷ cells 28 ∷ refused 16 ∷ []
  -- UNDO brings the mark back; a refused SET or PUT takes none away; an ASK ends the chance to UNDO
  pub mark_back : answers_to (SET quarter ∷ PUT 1 low ∷ ASK 1 ∷ SET october ∷ UNDO ∷ CONFIRM 1 ∷ [])
      ≡ accepted ∷ accepted ∷ cells 28 ∷ accepted ∷ accepted ∷ cells 28 ∷ []
  pub mark_stays : answers_to (SET quarter ∷ PUT 1 low ∷ SET quarter ∷ ASK 1 ∷ SET no_fields ∷ PUT 1 [] ∷ UNDO ∷ CONFIRM 1 ∷ UNDO ∷ [])
      ≡ accepted ∷ accepted ∷ accepted ∷ cells 28 ∷ refused 1 ∷ refused 8 ∷ refused 15 ∷ cells 28 ∷ refused 15 ∷ []
  -- PUT, DROP and OPEN clear it, on the code alone
  pub mark_goes : answers_to (SET quarter ∷ PUT 1 low ∷ PUT 2 low ∷ ASK 2 ∷ ASK 1 ∷ PUT 1 low ∷ CONFIRM 1 ∷ ASK 1 ∷ DROP 1 ∷ CONFIRM 1 ∷ PUT 1 low ∷ CONFIRM 1 ∷ ASK 1 ∷ OPEN 1 ∷ CLOSE 1 ∷ CONFIRM 1 ∷ CONFIRM 2 ∷ [])
      ≡ accepted ∷ accepted ∷ accepted ∷ cells 28 ∷ cells 28 ∷ accepted ∷ refused 16 ∷ cells 28 ∷ accepted ∷ refused 9 ∷ accepted ∷ refused 16 ∷ cells 28 ∷ cells 28 ∷ accepted ∷ refused 16 ∷ cells 28 ∷ []
  -- ASK has the refusals of OPEN
  pub asked : answers_to (ASK 33 ∷ ASK 1 ∷ PUT 1 high ∷ ASK 1 ∷ SET quarter ∷ ASK 1 ∷ CONFIRM 1 ∷ CONFIRM 0 ∷ CONFIRM 2 ∷ [])
      ≡ refused 6 ∷ refused 9 ∷ accepted ∷ refused 10 ∷ accepted ∷ over first_other (0 ∷ 0 ∷ 0 ∷ []) (pos 1332000000) ∷ refused 16 ∷ refused 6 ∷ refused 9 ∷ []
  -- open, close, open
  pub again : answers_to (SET quarter ∷ PUT 1 low ∷ OPEN 1 ∷ CLOSE 1 ∷ OPEN 1 ∷ []) ≡ accepted ∷ accepted ∷ cells 28 ∷ accepted ∷ cells 28 ∷ []
  -- a refused SET in between changes nothing
  pub refused_between : answers_to (SET quarter ∷ PUT 1 low ∷ OPEN 1 ∷ SET no_fields ∷ CLOSE 1 ∷ [])
      ≡ accepted ∷ accepted ∷ cells 28 ∷ refused 1 ∷ accepted ∷ []
  -- codes 0 and 33
  pub codes : answers_to (PUT 0 low ∷ OPEN 33 ∷ CLOSE 0 ∷ DROP 33 ∷ []) ≡ refused 6 ∷ refused 6 ∷ refused 6 ∷ refused 6 ∷ []
  -- open twice: then 7, also to PUT and DROP
  pub twice : answers_to (SET quarter ∷ PUT 32 low ∷ OPEN 32 ∷ OPEN 32 ∷ PUT 32 low ∷ DROP 32 ∷ [])
      ≡ accepted ∷ accepted ∷ cells 28 ∷ refused 7 ∷ refused 7 ∷ refused 7 ∷ []
  -- a tariff put over a draft; before the first sheet OPEN is 10, at an empty place 9
  pub put_over : answers_to (PUT 1 high ∷ OPEN 1 ∷ OPEN 2 ∷ SET quarter ∷ OPEN 1 ∷ PUT 1 low ∷ OPEN 1 ∷ [])
      ≡ accepted ∷ refused 10 ∷ refused 9 ∷ accepted ∷ over first_other (0 ∷ 0 ∷ 0 ∷ []) (pos 1332000000) ∷ accepted ∷ cells 28 ∷ []
  -- QUOTE of the tiered tariff for 300 kWh in one month: its charge is below the maximum
  pub quoted : quote_of (book_of (SET quarter ∷ PUT 7 steep ∷ [])) all_fourteen 7 0 1 (300 ∷ 0 ∷ 0 ∷ [])
      ≡ quotation (record { charge = 246240000000000; maximum = 279704700000000 })
  -- QUOTE of one tariff in two regions, in one of which it has a standing charge of its own
  pub quoted_in_4 : quote_of (book_of (SET quarter ∷ PUT 7 dear_in5 ∷ [])) all_fourteen 7 4 1 (100 ∷ 200 ∷ 300 ∷ [])
      ≡ quotation (record { charge = 464976000000000; maximum = 480051900000000 })
  pub quoted_in_5 : quote_of (book_of (SET quarter ∷ PUT 7 dear_in5 ∷ [])) all_fourteen 7 5 1 (100 ∷ 200 ∷ 300 ∷ [])
      ≡ quotation (record { charge = 468155520000000; maximum = 480051900000000 })
  -- the tiered tariff, refused at 100, 100, 100; then dropped, and the place is empty
  pub tiers : answers_to (SET quarter ∷ PUT 7 steep ∷ OPEN 7 ∷ DROP 7 ∷ OPEN 7 ∷ [])
      ≡ accepted ∷ accepted ∷ over first_other (100 ∷ 100 ∷ 100 ∷ []) (pos 2535300000000) ∷ accepted ∷ refused 9 ∷ []
