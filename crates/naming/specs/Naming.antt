-- The calls' own words: their names, in the words of the desk's protocol, and how many numbers each takes.
-- Assumes nothing.
use Rattle.std.specs.Prelude.{◌≡◌, Bool, true, false, cond, ◌&&◌, List, [], ◌∷◌, ℕ, ◌%◌, ◌≤◌, leb, eqb, length, Option, Some, None}
use Rattle.texts.specs.Texts.{bytes_of}
use Rattle.naming.specs.declared.CodeStep.TheVariants.{Put, Open, Close, Drop, Ask, Confirm, Direct}
use Rattle.naming.specs.declared.Query.TheVariants.{Benchmark, Maximum, Quote, Trial}
use Rattle.naming.specs.declared.Word.{Word}
use Rattle.naming.specs.declared.Word.TheVariants.{Set, Undo, On, Tells, Rebate}
use Rattle.naming.specs.declared.Arity.{Arity}
use Rattle.naming.specs.declared.Arity.TheVariants.{Exactly, AtLeast, Each}
use Rattle.naming.specs.declared.Form.{Form}

-- the fourteen calls: SET, UNDO, seven on a code, four that tell of the book, and REBATE
abbrev pub calls : List Word
calls =
    Set ∷ Undo ∷ On Put ∷ On Open ∷ On Close ∷ On Drop ∷ On Ask ∷ On Confirm ∷ On Direct ∷ Tells Benchmark ∷ Tells Maximum ∷ Tells Quote ∷ Tells Trial ∷ Rebate ∷ []

abbrev pub name_of : Word → List ℕ
name_of Set = bytes_of "set"
name_of Undo = bytes_of "undo"
name_of (On Put) = bytes_of "put"
name_of (On Open) = bytes_of "open"
name_of (On Close) = bytes_of "close"
name_of (On Drop) = bytes_of "drop"
name_of (On Ask) = bytes_of "ask"
name_of (On Confirm) = bytes_of "confirm"
name_of (On Direct) = bytes_of "direct"
name_of (Tells Benchmark) = bytes_of "benchmark"
name_of (Tells Maximum) = bytes_of "maximum"
name_of (Tells Quote) = bytes_of "quote"
name_of (Tells Trial) = bytes_of "trial"
name_of Rebate = bytes_of "rebate"

-- how many numbers an account has: CODE REGION METHOD COUNT M1 .. M12
abbrev pub account_numbers : ℕ
account_numbers = 16

-- how many numbers a call takes
abbrev pub arity : Word → Arity
arity Set = AtLeast 3
arity Undo = Exactly 0
arity (On Put) = AtLeast 1
arity (On Open) = Exactly 1
arity (On Close) = Exactly 1
arity (On Drop) = Exactly 1
arity (On Ask) = Exactly 1
arity (On Confirm) = Exactly 1
arity (On Direct) = Exactly 1
arity (Tells Benchmark) = Exactly 4
arity (Tells Maximum) = Exactly 4
arity (Tells Quote) = AtLeast 3
arity (Tells Trial) = AtLeast 3
arity Rebate = Each account_numbers

-- whether n numbers are as many; of so many for each account, any multiple is, 0 included
abbrev pub right_count : Arity → ℕ → Bool
right_count (Exactly k) n = eqb n k
right_count (AtLeast k) n = leb k n
right_count (Each k) n = eqb (n % k) 0

-- the same as a fact (proofs/Counts.antt, `counted`)
abbrev pub RightCount : Arity → ℕ → Type 0
RightCount (Exactly k) n = n ≡ k
RightCount (AtLeast k) n = k ≤ n
RightCount (Each k) n = n % k ≡ 0

-- a form with this name and this arity
pub record FormOf (name : List ℕ) (a : Arity) (f : Form) : Type 0 where
  pub text : f.name.now ≡ name
  pub most : length f.name.now ≤ 9
  pub count : f.arity ≡ a

-- whether two lists of bytes are the same
unfoldable pub same : List ℕ → List ℕ → Bool
same [] [] = true
same [] (y ∷ ys) = false
same (x ∷ xs) [] = false
same (x ∷ xs) (y ∷ ys) = eqb x y && same xs ys

-- the first of some calls whose name a word is
unfoldable pub named : List Word → List ℕ → Option Word
named [] w = None
named (c ∷ cs) w = cond (same w (name_of c)) (Some c) (named cs w)
