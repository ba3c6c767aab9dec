-- Texts as bytes: a text, numbers in decimal, and a line of both.
-- Assumes nothing.
use Rattle.std.specs.Prelude.{Bool, true, false, List, [], ◌∷◌, ◌++◌, ℕ, zero, suc, ◌+◌, ◌/◌, ◌%◌, ltb}
use Prim.Native.Char.{code}
use Prim.Native.String.{String, [] as []ᵗ, ◌∷◌ as ◌∷ᵗ◌}

-- the bytes of a text
abbrev pub bytes_of : String → List ℕ
bytes_of []ᵗ = []
bytes_of (c ∷ᵗ s) = code c ∷ bytes_of s

-- the decimal digits of n in ASCII: a number below 10 is one digit; any other has the digits of its tenth part and then its last
-- digit. The first argument of `digits_within` bounds their count, and n + 1 is enough: `decimal_small` and `decimal_more` of
-- proofs/Decimal.antt are the two equations without it.
abbrev pub with_last : (small : Bool) (n : ℕ) (tenth : List ℕ) → List ℕ
with_last true n tenth = (48 + n) ∷ []
with_last false n tenth = tenth ++ ((48 + n % 10) ∷ [])

unfoldable pub digits_within : ℕ → ℕ → List ℕ
digits_within zero n = []
digits_within (suc k) n = let tenth = digits_within k (n / 10) in with_last (ltb n 10) n tenth

unfoldable pub decimal : ℕ → List ℕ
decimal n = digits_within (suc n) n

-- both digits of a number below 100
abbrev pub two_digits : ℕ → List ℕ
two_digits n = (48 + n / 10) ∷ (48 + n % 10) ∷ []

-- numbers, each behind a space
unfoldable pub spaced : List ℕ → List ℕ
spaced [] = []
spaced (n ∷ ns) = bytes_of " " ++ decimal n ++ spaced ns

-- a whole line: a word, numbers and a line feed
unfoldable pub line_of : List ℕ → List ℕ → List ℕ
line_of word numbers = word ++ spaced numbers ++ bytes_of "\n"
