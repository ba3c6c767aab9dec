-- Which call a line asks for, and of which desk, in the words and the order of the desk's protocol.
-- Assumes nothing.
use Rattle.std.specs.Prelude.{◌≡◌, Bool, cond, List, [], ◌∷◌, map, ℕ, ◌+◌, ◌≤◌, eqb, length, get_or, take, drop, Option, Some, None, Result, Ok, Err}
use Rattle.tariff.specs.Tariff.{all_fourteen}
use Rattle.texts.specs.Texts.{bytes_of}
use Rattle.lines.specs.declared.NotANumber.{NotANumber as BadWord}
use Rattle.lines.specs.Words.{words}
use Rattle.lines.specs.Numerals.{value, numeral, numbers_in}
use Rattle.naming.specs.declared.Word.{Word}
use Rattle.naming.specs.Naming.{calls, arity, right_count, RightCount, same, named}
use Rattle.request.specs.declared.Request.{Request}
use Rattle.request.specs.declared.Request.TheVariants.{Nothing, Asks, NoCall, Unknown, NotANumber, WrongCount}

-- what a desk asks for, once its call's own word is known: "unknown call"; "word K is not a number", K counted over the words of the whole line,
-- of which `skipped` stand before the call; and the count
abbrev pub asked_by : (desk skipped : ℕ) → Option Word → Result ℕ BadWord → Request
asked_by desk skipped None ns = Unknown
asked_by desk skipped (Some c) (Err e) = NotANumber (skipped + (e.word + 2))
asked_by desk skipped (Some c) (Ok n) = cond (right_count (arity c) n) (Asks desk c n) (WrongCount c)

-- the words from a call's own on
abbrev pub call_in : (desk skipped : ℕ) → List (List ℕ) → Request
call_in desk skipped [] = NoCall
call_in desk skipped (w ∷ ws) = asked_by desk skipped (named calls w) (numbers_in ws)

-- the words behind `desk`: "desk takes a number and a call"
abbrev pub desk_line : List (List ℕ) → Request
desk_line [] = NoCall
desk_line (d ∷ ws) = cond (numeral d) (call_in (value d) 2 ws) NoCall

abbrev pub names_desk : List ℕ → Bool
names_desk w = same w (bytes_of "desk")

-- "A line with no word, and a line whose first word begins with `#`, is passed over." Where it names no desk, the desk has all fourteen regions.
abbrev pub asked_in : List (List ℕ) → Request
asked_in [] = Nothing
asked_in (w ∷ ws) = cond (eqb (get_or w 0 0) 35) Nothing (cond (names_desk w) (desk_line ws) (call_in all_fourteen 0 (w ∷ ws)))

unfoldable pub request_of : List ℕ → Request
request_of line = asked_in (words line)

-- the words behind the call's own, which is the line's first, or its third where the first is `desk`
abbrev pub behind_call : List (List ℕ) → List (List ℕ)
behind_call [] = []
behind_call (w ∷ ws) = cond (names_desk w) (drop 2 ws) ws

unfoldable pub numbers_of : List ℕ → List ℕ
numbers_of line = map value (behind_call (words line))

-- a call is ready: it has as many numbers as it takes, and they stand first in `numbers`, in order
pub record Ready (w : Word) (n : ℕ) (line numbers : List ℕ) : Type 0 where
  pub right : RightCount (arity w) n
  pub within : n ≤ length numbers
  pub stand : take n numbers ≡ numbers_of line

-- what stands in `numbers` behind an answer
abbrev pub Standing : Request → List ℕ → List ℕ → Type 0
Standing Nothing line numbers = Unit {0}
Standing (Asks desk w n) line numbers = Ready w n line numbers
Standing NoCall line numbers = Unit {0}
Standing Unknown line numbers = Unit {0}
Standing (NotANumber k) line numbers = Unit {0}
Standing (WrongCount w) line numbers = Unit {0}

-- the same of every line that has these words behind its call's own
abbrev pub StandingFor : Request → List (List ℕ) → List ℕ → Type 0
StandingFor r ws numbers = (line : List ℕ) → numbers_of line ≡ map value ws → Standing r line numbers
