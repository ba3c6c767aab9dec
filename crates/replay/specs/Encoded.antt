-- How a list of calls is written in numbers, and the number of an answer.
-- Assumes nothing.
use Rattle.std.specs.Prelude.{List, [], ◌∷◌, ◌++◌, ℕ, ◌+◌, length}
use Rattle.std.proofs.Math.Option.{get_or}
use Rattle.book.specs.Calls.{Act, SET, PUT, OPEN, CLOSE, DROP, UNDO, ASK, CONFIRM, DIRECT, Call, Answer, accepted, cells, refused, over, refusal_number}

-- SET: 0, year, month, t, the count of fields and the fields. PUT: 1, code, the count of numbers and the numbers. OPEN: 2 and the
-- code. CLOSE: 3 and the code. DROP: 4 and the code. UNDO: 5. ASK: 6 and the code. CONFIRM: 7 and the code. DIRECT: 8 and the
-- code.
abbrev pub encode_act : Act → List ℕ
encode_act (SET s) = 0 ∷ s.period.year ∷ s.period.month ∷ s.period.months ∷ length s.fields ∷ s.fields
encode_act (PUT k x) = 1 ∷ k ∷ length x ∷ x
encode_act (OPEN k) = 2 ∷ k ∷ []
encode_act (CLOSE k) = 3 ∷ k ∷ []
encode_act (DROP k) = 4 ∷ k ∷ []
encode_act UNDO = 5 ∷ []
encode_act (ASK k) = 6 ∷ k ∷ []
encode_act (CONFIRM k) = 7 ∷ k ∷ []
encode_act (DIRECT k) = 8 ∷ k ∷ []

-- the desk, and then what it asks
abbrev pub encode_call : Call → List ℕ
encode_call c = c.desk ∷ encode_act c.act

abbrev pub encode : List Call → List ℕ
encode [] = []
encode (c ∷ cs) = encode_call c ++ encode cs

-- where no check refused: accepted is 0, and with a number of cells 100 and that number
abbrev pub accepted_number : Answer → ℕ
accepted_number accepted = 0
accepted_number (cells n) = 100 + n
accepted_number (refused n) = 0
accepted_number (over c months e) = 0

-- and a refusal is its number
abbrev pub number_of : Answer → ℕ
number_of a = get_or (refusal_number a) (accepted_number a)
