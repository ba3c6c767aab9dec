-- Lists of calls that are refused, each by one thing that is wrong: the ends of the ranges, and what comes before what.
-- Assumes nothing.
use Rattle.std.specs.Prelude.{◌≡◌, false, [], ◌∷◌, ◌++◌, ℕ, ◌+◌, ◌-◌, set, take}
use Rattle.sheet.specs.Sheet.{terms_fit}
use Rattle.benchmark.specs.Benchmark.{figures, ocs_fit, ordered}
use Rattle.book.specs.Calls.{Sheet, sheet_at, Record, SET, PUT, OPEN, CLOSE, DROP, accepted, refused}
use Rattle.reference.specs.SheetS.{sheet_s, with_split, period_s, in_region, offered_everywhere, two_registers}
use Rattle.reference.specs.Regional.{with_more, offered_in0}
use Rattle.unlike.specs.SheetU.{lone_pair}
use Rattle.worked.specs.Worked.{split_at, answers_to}

-- sheet S with another number in one field, and for another period
abbrev pub with_field : ℕ → ℕ → Sheet
with_field k n = sheet_at (set sheet_s k n) period_s

abbrev pub for_period : ℕ → ℕ → ℕ → Sheet
for_period year month t = sheet_at sheet_s (record { year = year; month = month; months = t })

-- both wrong: m of 0, and month 13; a peak share of 1,001, and month 13
abbrev pub both_wrong : Sheet
both_wrong = sheet_at (set sheet_s 93 0) (record { year = 2023; month = 13; months = 3 })

abbrev pub split_and_period : Sheet
split_and_period = sheet_at (with_split 1001) (record { year = 2023; month = 13; months = 3 })

-- a sheet of which one pair of benchmarks alone is out of order
abbrev pub unordered : Sheet
unordered = sheet_at (lone_pair 13 1 1) period_s

-- sheet S with a saving of n mills for SMNCC: the word is 2^32 less n
abbrev pub saving : ℕ → Sheet
saving n = with_field 36 (4294967296 - n)

-- and with no OC0 at place f of the four: OC is below zero there alone
abbrev pub lone_oc : ℕ → Sheet
lone_oc f = sheet_at (set (saving 500000).fields (12 + f) 0) period_s

-- the deepest saving, on a sheet with all of it for OC0 and CPIH at rest: OC is 0 at all four
abbrev pub deepest : Sheet
deepest = sheet_at (set (set (set (set (set (saving 100000000).fields 12 100000000) 13 100000000) 14 100000000) 15 100000000) 31 100) period_s

-- both wrong: an indexed term above 100,000,000, and OC below zero; OC below zero, and a pair of benchmarks out of order
abbrev pub term_and_oc : Sheet
term_and_oc = sheet_at (set (saving 5250001).fields 20 100000000) period_s

abbrev pub oc_and_order : Sheet
oc_and_order = sheet_at (set (lone_pair 13 1 1) 36 4294967295) period_s

-- two rates with one step, three with two; two registers with their shares
abbrev pub one_step : ℕ → Record
one_step a = offered_everywhere 1 2 23000 (18000 ∷ 17000 ∷ 0 ∷ 0 ∷ []) (a ∷ 0 ∷ 0 ∷ 0 ∷ [])

abbrev pub two_steps : ℕ → ℕ → Record
two_steps a b = offered_everywhere 1 3 23000 (18000 ∷ 17000 ∷ 16000 ∷ 0 ∷ []) (a ∷ b ∷ 0 ∷ 0 ∷ [])

abbrev pub with_shares : ℕ → ℕ → Record
with_shares a b = two_registers 0 15000 a 12250 b

pub record Refusals : Type 0 where
  -- 2: m of either arrangement has its own range, 1 to 20,000; the last field is tested too
  pub set_ranges : answers_to (SET (with_field 94 0) ∷ SET (with_field 94 20001) ∷ SET (with_field 93 20001) ∷ SET (with_field 94 20000) ∷ [])
      ≡ refused 2 ∷ refused 2 ∷ refused 2 ∷ accepted ∷ []
  -- 1: 95 numbers are too few now, and 97 too many
  pub set_count : answers_to (SET (sheet_at (take 95 sheet_s) period_s) ∷ SET (sheet_at (sheet_s ++ (0 ∷ [])) period_s) ∷ SET (sheet_at sheet_s period_s) ∷ [])
      ≡ refused 1 ∷ refused 1 ∷ accepted ∷ []
  -- 2: the peak share is 0 to 1,000; 2 comes before 3
  pub set_splits : answers_to (SET (split_at 0) ∷ SET (split_at 1000) ∷ SET (split_at 1001) ∷ SET (split_at 10000) ∷ SET split_and_period ∷ [])
      ≡ accepted ∷ accepted ∷ refused 2 ∷ refused 2 ∷ refused 2 ∷ []
  -- 3: the years 2018 to 2099, the months 1 to 12, t from 1 to 12; and 2 comes before 3
  pub set_periods : answers_to (SET (for_period 2017 12 3) ∷ SET (for_period 2100 1 3) ∷ SET (for_period 2023 0 3) ∷ SET (for_period 2023 10 0) ∷ SET (for_period 2023 10 13) ∷ SET both_wrong ∷ SET (for_period 2099 12 12) ∷ [])
      ≡ refused 3 ∷ refused 3 ∷ refused 3 ∷ refused 3 ∷ refused 3 ∷ refused 2 ∷ accepted ∷ []
  -- 4: each PAAC is an indexed term as well; 5: one pair of benchmarks is enough
  pub set_terms : answers_to (SET (with_field 20 100000000) ∷ SET (with_field 21 100000000) ∷ SET unordered ∷ []) ≡ refused 4 ∷ refused 4 ∷ refused 5 ∷ []
  -- 2: SMNCC is a signed number, -100,000,000 to 100,000,000; 14: of those the least has OC below zero on sheet S, and not on another
  pub set_smncc : answers_to (SET (with_field 36 100000000) ∷ SET (with_field 36 100000001) ∷ SET (with_field 36 2147483647) ∷ SET (with_field 36 2147483648) ∷ SET (saving 100000001) ∷ SET (saving 100000000) ∷ SET deepest ∷ [])
      ≡ accepted ∷ refused 2 ∷ refused 2 ∷ refused 2 ∷ refused 2 ∷ refused 14 ∷ accepted ∷ []
  -- 14: an OC of 0 passes, and one of the four below zero is enough
  pub set_ocs : answers_to (SET (saving 500000) ∷ SET (saving 5249999) ∷ SET (saving 5250000) ∷ SET (saving 5250001) ∷ SET (lone_oc 0) ∷ SET (lone_oc 1) ∷ SET (lone_oc 2) ∷ SET (lone_oc 3) ∷ [])
      ≡ accepted ∷ accepted ∷ accepted ∷ refused 14 ∷ refused 14 ∷ refused 14 ∷ refused 14 ∷ refused 14 ∷ []
  -- 4 comes before 14, and 14 before 5: each of the two sheets would be refused by both
  pub both_fail : (terms_fit term_and_oc.fields ≡ false) × (ocs_fit term_and_oc.fields ≡ false) × (ocs_fit oc_and_order.fields ≡ false) × (ordered (figures oc_and_order.fields) ≡ false)
  pub set_between : answers_to (SET term_and_oc ∷ SET oc_and_order ∷ []) ≡ refused 4 ∷ refused 14 ∷ []
  -- 8: a step is 1 to 9,999, and steps rise strictly
  pub put_steps : answers_to (PUT 9 (one_step 0) ∷ PUT 9 (one_step 1) ∷ PUT 9 (one_step 9999) ∷ PUT 9 (one_step 10000) ∷ PUT 9 (two_steps 5 5) ∷ PUT 9 (two_steps 5 6) ∷ [])
      ≡ refused 8 ∷ accepted ∷ accepted ∷ refused 8 ∷ refused 8 ∷ accepted ∷ []
  -- 8: shares are tenths, 0 to 1,000, their sum 1,000; in percent, with the sum 100, they are refused
  pub put_shares : answers_to (PUT 9 (with_shares 579 420) ∷ PUT 9 (with_shares 580 421) ∷ PUT 9 (with_shares 1001 0) ∷ PUT 9 (with_shares 58 42) ∷ PUT 9 (with_shares 1000 0) ∷ PUT 9 (with_shares 580 420) ∷ [])
      ≡ refused 8 ∷ refused 8 ∷ refused 8 ∷ refused 8 ∷ accepted ∷ accepted ∷ []
  -- 8: what a region adds counts, in the last one too; a region not offered adds 0; and a record of 13 numbers is none now
  pub put_regions : answers_to (PUT 9 (with_more (in_region 13 977000)) ∷ PUT 9 (with_more (in_region 13 977001)) ∷ PUT 9 (with_more (in_region 13 4294967295)) ∷ PUT 9 (offered_in0 (in_region 1 1)) ∷ PUT 9 (offered_in0 (in_region 0 1)) ∷ PUT 9 (take 13 (with_shares 580 420)) ∷ [])
      ≡ accepted ∷ refused 8 ∷ refused 8 ∷ refused 8 ∷ accepted ∷ refused 8 ∷ []
  -- 9: an empty place has nothing to close, to open or to drop
  pub empty_place : answers_to (CLOSE 20 ∷ OPEN 20 ∷ DROP 20 ∷ []) ≡ refused 9 ∷ refused 9 ∷ refused 9 ∷ []
