-- The words of a line of bytes, and where a line ends.
-- Assumes nothing.
use Rattle.std.specs.Prelude.{Bool, true, false, cond, List, [], ◌∷◌, ℕ, suc, ◌-◌, eqb, length, get_or, take, drop}

-- the index of the first byte b of a list, or its length where there is none
abbrev pub index_after : Bool → ℕ → ℕ
index_after true n = 0
index_after false n = suc n

unfoldable pub index_of : ℕ → List ℕ → ℕ
index_of b [] = 0
index_of b (x ∷ xs) = index_after (eqb x b) (index_of b xs)

-- a byte in front of the first part, of which there is always one
abbrev pub onto : ℕ → List (List ℕ) → List (List ℕ)
onto b [] = (b ∷ []) ∷ []
onto b (p ∷ ps) = (b ∷ p) ∷ ps

-- the parts of a list of bytes between its bytes `at`, in order. Between two of these that stand together is an empty part.
unfoldable pub parts : ℕ → List ℕ → List (List ℕ)
parts at [] = [] ∷ []
parts at (b ∷ bs) = cond (eqb b at) ([] ∷ parts at bs) (onto b (parts at bs))

-- those that are not empty
unfoldable pub not_empty : List (List ℕ) → List (List ℕ)
not_empty [] = []
not_empty ([] ∷ ps) = not_empty ps
not_empty ((b ∷ bs) ∷ ps) = (b ∷ bs) ∷ not_empty ps

-- "Words are separated by one or more spaces (byte 32, no other byte); spaces before the first and after the last word count for nothing."
unfoldable pub words : List ℕ → List (List ℕ)
words line = not_empty (parts 32 line)

-- how many spaces a line begins with
unfoldable pub spaces : List ℕ → ℕ
spaces [] = 0
spaces (b ∷ bs) = cond (eqb b 32) (suc (spaces bs)) 0

-- what stands before the first space of a line
abbrev pub word_in : List ℕ → List ℕ
word_in line = take (index_of 32 line) line

-- "A carriage return just before that end is a part of the line's end."
unfoldable pub without_return : List ℕ → List ℕ
without_return [] = []
without_return (b ∷ bs) = cond (eqb (get_or (b ∷ bs) (length bs) 0) 13) (take (length bs) (b ∷ bs)) (b ∷ bs)

-- how many bytes a line may have, its line feed not counted
abbrev pub longest_line : ℕ
longest_line = 16384

-- the bytes of an input from one place to another
abbrev pub between : List ℕ → ℕ → ℕ → List ℕ
between input from to = take (to - from) (drop from input)
