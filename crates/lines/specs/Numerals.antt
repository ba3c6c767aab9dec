-- The numbers of a line.
-- Assumes nothing.
use Rattle.std.specs.Prelude.{◌≡◌, Bool, true, false, cond, ◌&&◌, List, [], ◌∷◌, map, ℕ, suc, ◌+◌, ◌-◌, ◌*◌, ◌<◌, ◌≤◌, leb, length, take, drop, Option, Some, None, Result, Ok, Err}
use Rattle.lines.specs.declared.NotANumber.{NotANumber}
use Rattle.lines.specs.Words.{words, word_in}

-- the digits 0 to 9 are the bytes 48 to 57
abbrev pub digit : ℕ → Bool
digit b = leb 48 b && leb b 57

unfoldable pub digits : List ℕ → Bool
digits [] = true
digits (b ∷ bs) = digit b && digits bs

-- a digit more makes ten times what stands before it, and the digit
unfoldable pub value_after : ℕ → List ℕ → ℕ
value_after v [] = v
value_after v (d ∷ ds) = value_after (10 * v + (d - 48)) ds

unfoldable pub value : List ℕ → ℕ
value ds = value_after 0 ds

-- "A number is one or more of the digits 0 to 9, of value at most 4294967295; leading zeros are allowed."
abbrev pub numeral : List ℕ → Bool
numeral [] = false
numeral (d ∷ ds) = digits (d ∷ ds) && leb (value (d ∷ ds)) 4294967295

-- the number that begins at a place of a line, with the place behind it
unfoldable pub number_at : List ℕ → ℕ → Option (ℕ × ℕ)
number_at line from =
    let w = word_in (drop from line) in cond (numeral w) (Some (value w, from + length w)) None

-- one word more in front
abbrev pub behind : Result ℕ NotANumber → Result ℕ NotANumber
behind (Ok n) = Ok (suc n)
behind (Err e) = Err (record { word = suc e.word })

-- how many words there are where each is a number, and else the place, counted from 0, of the first that is none
unfoldable pub numbers_in : List (List ℕ) → Result ℕ NotANumber
numbers_in [] = Ok 0
numbers_in (w ∷ ws) = cond (numeral w) (behind (numbers_in ws)) (Err (record { word = 0 }))

-- what is written out for a part of a line: where each word is a number, their values, in order. No place is outside the part.
abbrev pub Written : Result ℕ NotANumber → List ℕ → List ℕ → Type 0
Written (Ok n) line out = (n ≤ length line) × (take n out ≡ map value (words line))
Written (Err e) line out = e.word < length line
