-- Lines of the input, taken one after the other, and what is promised of that.
-- Assumes nothing.
use Rattle.std.specs.Prelude.{◌≡◌, Bool, true, false, ◌||◌, ◌&&◌, List, [], ◌∷◌, ◌++◌, ℕ, ◌+◌, ◌^◌, ◌≤◌, eqb, leb, ltb, length}
use Rattle.book.specs.declared.Book.{Book}
use Rattle.book.specs.Book.{Reachable}
use Rattle.texts.specs.Writing.{Puts}
use Rattle.answers.specs.Answers.{answer_room}
use Rattle.lines.specs.Words.{between}
use Rattle.protocol.specs.Lines.{line_at}
use Rattle.input.specs.declared.Input.{Input}
use Rattle.input.specs.Input.{Holds}
use Rattle.taking.specs.declared.Desk.{Desk}

-- whether a line feed is among these bytes
unfoldable pub has_feed : List ℕ → Bool
has_feed [] = false
has_feed (b ∷ bs) = eqb b 10 || has_feed bs

-- lines of the input, each with its line feed, taken one after the other: the bytes taken, and the book, the count of lines, whether
-- the start of the next line was dropped, and the text of the answers after them
pub data Takes (b₀ : Book) (l₀ : ℕ) (cut₀ : Bool) : List ℕ → Book → ℕ → Bool → List ℕ → Type 0 where
  none_taken : Takes b₀ l₀ cut₀ [] b₀ l₀ cut₀ []
  line_taken : {bytes text : List ℕ} {b : Book} {l : ℕ} {cut : Bool} (line : List ℕ) → Takes b₀ l₀ cut₀ bytes b l cut text → has_feed line ≡ false
      → Takes b₀ l₀ cut₀ (bytes ++ line ++ (10 ∷ [])) (line_at b (l + 1) cut line).book (l + 1) false (text ++ (line_at b (l + 1) cut line).text)

-- room for another answer behind `at` in an output of this size, and a number of 64 bits for the line
-- after line l
abbrev pub has_room : (at size l : ℕ) → Bool
has_room at size l = leb (at + answer_room) size && ltb (l + 1) (2 ^ 64)

-- the input after lines of it were taken: it begins behind them, and `more` says whether a whole line is left
abbrev pub behind_lines : Input → List ℕ → (from : ℕ) (cut : Bool) → Input
behind_lines i input from cut =
    record { from = from; to = i.to; cut = cut; more = has_feed (between input from i.to); ended = i.ended; on = i.on }

-- lines were taken of the input that i has, on a book of which l lines are known, and answered from the start of the output; a whole line
-- is left only where there was no room for its answer
pub record Took (b : Book) (l : ℕ) (i : Input) (input before : List ℕ) (r : Desk) (after : List ℕ) : Type 0 where
  pub text : List ℕ
  pub takes : Takes b l i.cut (between input i.from r.input.from) r.book r.lines r.input.cut text
  pub puts : Puts before 0 text r.at after
  pub reachable : Reachable r.book
  pub holds : Holds r.input (length input)
  pub passed : i.from ≤ r.input.from
  pub left : r.input ≡ behind_lines i input r.input.from r.input.cut
  pub full : r.input.more ≡ true → has_room r.at (length before) r.lines ≡ false
