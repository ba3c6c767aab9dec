-- Worked lists of calls with directions (document 02, M-108), and the answers, read from the calls alone.
-- Assumes nothing.
use Rattle.std.specs.Prelude.{◌≡◌, [], ◌∷◌, pos}
use Rattle.tariff.specs.Tariff.{all_fourteen}
use Rattle.book.specs.declared.Book.{Book}
use Rattle.book.specs.Calls.{SET, PUT, OPEN, CLOSE, DROP, UNDO, ASK, CONFIRM, DIRECT, by, call, accepted, cells, refused, over}
use Rattle.queries.specs.Queries.{falling}
use Rattle.trial.specs.Trial.{trial_of}
use Rattle.history.specs.History.{answers_after}
use Rattle.reference.specs.Starred.{first_other}
use Rattle.worked.specs.Worked.{quarter, october, low, close, steep, answers_to, book_of}

-- the sheet of the quarter, with the same tariff open in places 1 and 2, in the first under a direction
abbrev pub one_directed : Book
one_directed = book_of (SET quarter ∷ PUT 1 close ∷ PUT 2 close ∷ DIRECT 1 ∷ OPEN 1 ∷ OPEN 2 ∷ [])

pub record Directions : Type 0 where
  -- the tiered tariff is over the cap; under a direction it opens, with 0 cells, and then it is open (7)
  pub opened_above : answers_to (SET quarter ∷ PUT 7 steep ∷ OPEN 7 ∷ DIRECT 7 ∷ OPEN 7 ∷ OPEN 7 ∷ [])
      ≡ accepted ∷ accepted ∷ over first_other (100 ∷ 100 ∷ 100 ∷ []) (pos 2535300000000) ∷ accepted ∷ cells 0 ∷ refused 7 ∷ []
  -- October's sheet sends back a tariff, and not the same one under a direction, which had 0 cells within the cap too; closed, it has its
  -- direction still
  pub stays_open : answers_to (SET quarter ∷ PUT 1 close ∷ PUT 2 close ∷ DIRECT 1 ∷ OPEN 1 ∷ OPEN 2 ∷ SET october ∷ CLOSE 1 ∷ CLOSE 2 ∷ OPEN 1 ∷ OPEN 2 ∷ [])
      ≡ accepted ∷ accepted ∷ accepted ∷ accepted ∷ cells 0 ∷ cells 28 ∷ accepted ∷ accepted ∷ refused 12 ∷ cells 0 ∷ over first_other (0 ∷ []) (pos 286860000000) ∷ []
  -- a direction given after that sheet brings nothing back: 12 to CLOSE; but the draft may be opened
  pub given_later : answers_to (SET quarter ∷ PUT 1 close ∷ OPEN 1 ∷ SET october ∷ DIRECT 1 ∷ CLOSE 1 ∷ OPEN 1 ∷ [])
      ≡ accepted ∷ accepted ∷ cells 28 ∷ accepted ∷ accepted ∷ refused 12 ∷ cells 0 ∷ []
  -- PUT and DROP end a direction
  pub direction_ends : answers_to (SET quarter ∷ PUT 7 steep ∷ DIRECT 7 ∷ PUT 7 steep ∷ OPEN 7 ∷ DIRECT 7 ∷ DROP 7 ∷ PUT 7 steep ∷ OPEN 7 ∷ [])
      ≡ accepted ∷ accepted ∷ accepted ∷ accepted ∷ over first_other (100 ∷ 100 ∷ 100 ∷ []) (pos 2535300000000) ∷ accepted ∷ accepted ∷ accepted ∷ over first_other (100 ∷ 100 ∷ 100 ∷ []) (pos 2535300000000) ∷ []
  -- 10 is not skipped; giving a direction needs no sheet, and an open tariff gets none (7)
  pub needs_a_sheet : answers_to (PUT 1 low ∷ DIRECT 1 ∷ OPEN 1 ∷ ASK 1 ∷ SET quarter ∷ ASK 1 ∷ CONFIRM 1 ∷ DIRECT 1 ∷ [])
      ≡ accepted ∷ accepted ∷ refused 10 ∷ refused 10 ∷ accepted ∷ cells 0 ∷ cells 0 ∷ refused 7 ∷ []
  -- it leaves a mark as it is, and may be given twice: CONFIRM answers 0 cells where ASK answered 28
  pub marked_before : answers_to (SET quarter ∷ PUT 1 low ∷ ASK 1 ∷ DIRECT 1 ∷ DIRECT 1 ∷ CONFIRM 1 ∷ [])
      ≡ accepted ∷ accepted ∷ cells 28 ∷ accepted ∷ accepted ∷ cells 0 ∷ []
  -- a sheet clears the mark under a direction too
  pub mark_goes : answers_to (SET quarter ∷ PUT 7 steep ∷ DIRECT 7 ∷ ASK 7 ∷ SET october ∷ CONFIRM 7 ∷ ASK 7 ∷ CONFIRM 7 ∷ [])
      ≡ accepted ∷ accepted ∷ accepted ∷ cells 0 ∷ accepted ∷ refused 16 ∷ cells 0 ∷ cells 0 ∷ []
  -- it ends the chance to UNDO; where it is refused, it does not
  pub chance_ends : answers_to (PUT 1 low ∷ SET quarter ∷ DIRECT 1 ∷ UNDO ∷ SET october ∷ DIRECT 2 ∷ DIRECT 33 ∷ UNDO ∷ [])
      ≡ accepted ∷ accepted ∷ accepted ∷ refused 15 ∷ accepted ∷ refused 9 ∷ refused 6 ∷ accepted ∷ []
  -- UNDO leaves directions as they are
  pub undo_keeps : answers_to (SET quarter ∷ PUT 7 steep ∷ DIRECT 7 ∷ OPEN 7 ∷ SET october ∷ UNDO ∷ CLOSE 7 ∷ OPEN 7 ∷ [])
      ≡ accepted ∷ accepted ∷ accepted ∷ cells 0 ∷ accepted ∷ accepted ∷ accepted ∷ cells 0 ∷ []
  -- 17 first: only a desk with all fourteen regions gives one; another is refused the code as ever
  pub full_alone : answers_after [] (call (SET quarter) ∷ call (PUT 4 low) ∷ by 16382 (DIRECT 33) ∷ by 0 (DIRECT 5) ∷ by 32767 (DIRECT 4) ∷ call (DIRECT 33) ∷ call (DIRECT 5) ∷ call (DIRECT 4) ∷ by 16382 (OPEN 4) ∷ call (OPEN 4) ∷ call (DIRECT 4) ∷ [])
      ≡ accepted ∷ accepted ∷ refused 17 ∷ refused 17 ∷ refused 17 ∷ refused 6 ∷ refused 9 ∷ accepted ∷ refused 17 ∷ cells 0 ∷ refused 7 ∷ []
  -- TRIAL counts the one without a direction alone: bit 1
  pub not_counted : trial_of one_directed all_fourteen october ≡ falling 2
