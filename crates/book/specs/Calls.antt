-- The calls of a list, each with its desk (document 02, M-107), and their answers, as document 01 names them.
-- Assumes nothing.
use Rattle.std.specs.Prelude.{Bool, true, false, List, ℕ, ℤ}
use Rattle.std.proofs.Math.Option.{Option, none, some}
use Rattle.calendar.specs.declared.Period.{Period}
use Rattle.tariff.specs.Tariff.{all_fourteen}
use Rattle.verdict.specs.Cells.{Cell}

-- the numbers handed in, of any count and content: a sheet with its period, a tariff's record
pub record Sheet : Type 0 where
  pub fields : List ℕ
  pub period : Period

abbrev pub sheet_at : List ℕ → Period → Sheet
sheet_at fields period = record { fields = fields; period = period }

abbrev pub Record : Type 0
Record = List ℕ

-- what is asked of the book
pub data Act : Type 0 where
  SET : Sheet → Act
  PUT : ℕ → Record → Act
  OPEN : ℕ → Act
  CLOSE : ℕ → Act
  DROP : ℕ → Act
  UNDO : Act
  ASK : ℕ → Act
  CONFIRM : ℕ → Act
  DIRECT : ℕ → Act

-- a call: "a set of regions", the desk whose call it is, and what it asks; a call of a desk with all fourteen
pub record Call : Type 0 where
  pub desk : ℕ
  pub act : Act

abbrev pub by : ℕ → Act → Call
by desk a = record { desk = desk; act = a }

abbrev pub call : Act → Call
call a = by all_fourteen a

-- "answers only that it was accepted"; accepted with "the number of cells", of OPEN, ASK and CONFIRM; "a refusal returns its number, with 11
-- the figures named": the cell, the months and the excess
pub data Answer : Type 0 where
  accepted : Answer
  cells : (number : ℕ) → Answer
  refused : (number : ℕ) → Answer
  over : (first : Cell) (months : List ℕ) (excess : ℤ) → Answer

-- "A refusal returns its number": the number of an answer that is a refusal, 11 for one over the cap
abbrev pub refusal_number : Answer → Option ℕ
refusal_number accepted = none
refusal_number (cells n) = none
refusal_number (refused n) = some n
refusal_number (over c months e) = some 11

-- there is none
abbrev pub is_none : {A : Type 0} → Option A → Bool
is_none none = true
is_none (some a) = false

-- a call is accepted where its answer is no refusal
abbrev pub is_accepted : Answer → Bool
is_accepted a = is_none (refusal_number a)
