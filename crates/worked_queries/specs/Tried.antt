-- What TRIAL tells on sheet S, and its refusals, as the second implementation works them out.
-- Assumes nothing.
use Rattle.std.specs.Prelude.{◌≡◌, List, [], ◌∷◌, ◌++◌}
use Rattle.tariff.specs.Tariff.{all_fourteen}
use Rattle.book.specs.declared.Book.{Book}
use Rattle.book.specs.Calls.{Act, SET, PUT, OPEN, CLOSE}
use Rattle.book.specs.Book.{fresh}
use Rattle.queries.specs.Queries.{refused, falling}
use Rattle.trial.specs.Trial.{trial_of}
use Rattle.reference.specs.Splits.{day_dear}
use Rattle.worked.specs.Worked.{quarter, october, split_at, no_fields, low, close, dear_in5, book_of}
use Rattle.worked_refusals.specs.Refusals.{with_field, for_period, both_wrong, unordered, saving, term_and_oc, oc_and_order}

-- the sheet of the quarter, with two open tariffs; a third one in place 32; and the first closed again
abbrev pub opening_two : List Act
opening_two = SET quarter ∷ PUT 1 close ∷ PUT 2 low ∷ OPEN 1 ∷ OPEN 2 ∷ []

abbrev pub two_open : Book
two_open = book_of opening_two

abbrev pub three_open : Book
three_open = book_of (opening_two ++ (PUT 32 close ∷ OPEN 32 ∷ []))

abbrev pub one_closed : Book
one_closed = book_of (opening_two ++ (CLOSE 1 ∷ []))

-- the sheet with a peak share of 579, an open Economy 7 tariff and another
abbrev pub other_split : Book
other_split = book_of (SET (split_at 579) ∷ PUT 1 day_dear ∷ PUT 2 low ∷ OPEN 1 ∷ OPEN 2 ∷ [])

-- the sheet of the quarter, with an open tariff that adds 960 in region 5, and another
abbrev pub dear_open : Book
dear_open = book_of (SET quarter ∷ PUT 1 dear_in5 ∷ PUT 2 low ∷ OPEN 1 ∷ OPEN 2 ∷ [])

pub record Tried : Type 0 where
  -- October's sheet would send the first of the two back to draft: bit 0; and in place 32 as well: bits 0 and 31
  pub one_falls : trial_of two_open all_fourteen october ≡ falling 1
  pub last_place : trial_of three_open all_fourteen october ≡ falling 2147483649
  -- a split of 580 would send the Economy 7 tariff back
  pub split_falls : trial_of other_split all_fourteen quarter ≡ falling 1
  -- October's sheet would send back the tariff that adds 960 in region 5, and not the same one without it
  pub region_falls : trial_of dear_open all_fourteen october ≡ falling 1
  -- a draft does not fall; nothing falls under the sheet in force; and a trial needs no sheet in force
  pub draft_stays : trial_of one_closed all_fourteen october ≡ falling 0
  pub same_sheet : trial_of two_open all_fourteen quarter ≡ falling 0
  pub no_sheet_lem : trial_of fresh all_fourteen october ≡ falling 0
  -- 1 to 5 and 14, as SET; 2 comes before 3, 4 before 14, and 14 before 5
  pub refused_1 : trial_of two_open all_fourteen no_fields ≡ refused 1
  pub refused_2 : (trial_of two_open all_fourteen (with_field 94 0) ≡ refused 2) × (trial_of two_open all_fourteen both_wrong ≡ refused 2) × (trial_of two_open all_fourteen (split_at 1001) ≡ refused 2)
  pub refused_3 : trial_of two_open all_fourteen (for_period 2023 13 1) ≡ refused 3
  pub refused_4 : (trial_of two_open all_fourteen (with_field 20 100000000) ≡ refused 4) × (trial_of two_open all_fourteen term_and_oc ≡ refused 4)
  pub refused_14 : (trial_of two_open all_fourteen (saving 5250001) ≡ refused 14) × (trial_of two_open all_fourteen oc_and_order ≡ refused 14)
  pub refused_5 : trial_of two_open all_fourteen unordered ≡ refused 5
