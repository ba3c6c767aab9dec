-- What the turns of a run come to together: all that was read is one list of bytes, and the answers are those to its lines.
-- Assumes nothing.
use Rattle.std.specs.Prelude.{◌≡◌, Bool, true, false, cond, List, [], ◌∷◌, ◌++◌, ℕ, zero, suc, ◌+◌, ◌<◌, ℤ, pos, negsuc, length}
use Rattle.std.specs.Int.Signed.{lt_z}
use Rattle.book.specs.Book.{fresh}
use Rattle.lines.specs.Words.{longest_line, between}
use Rattle.input.specs.declared.Input.{Input}
use Rattle.input.specs.Input.{is_left}
use Rattle.taking.specs.declared.Desk.{Desk}
use Rattle.taking.specs.Taking.{has_feed, Takes}
use Rattle.desk.specs.Desk.{Fills, off, lines_left, at_end, reads, Turns, Turned, none_yet, turn_more}

-- the bytes that a read adds to those that i has, by the system's answer: none where it failed, at the end a line feed if anything is
-- left, and else those that it put into the buffer
abbrev pub added : (got : ℤ) (i : Input) (into : List ℕ) → List ℕ
added (negsuc k) i into = []
added (pos zero) i into = cond (is_left i) (10 ∷ []) []
added (pos (suc n)) i into = between into i.to (i.to + suc n)

abbrev pub added_by : {i r : Input} {before after : List ℕ} → Fills i before r after → List ℕ
added_by (off a b c) = []
added_by (lines_left a b c d) = []
added_by (at_end a b c d e) = []
added_by (reads a b c kept front k r) = added r.got kept r.into

-- all that was read in some turns, and the text of all their answers
unfoldable pub read_in : {d₀ : Desk} {input₀ out₀ : List ℕ} {n : ℕ} {d : Desk} {input out : List ℕ} → Turned d₀ input₀ out₀ n d input out → List ℕ
read_in none_yet = []
read_in (turn_more t on u) = read_in t ++ added_by u.fills

unfoldable pub answers_in : {d₀ : Desk} {input₀ out₀ : List ℕ} {n : ℕ} {d : Desk} {input out : List ℕ} → Turned d₀ input₀ out₀ n d input out → List ℕ
answers_in none_yet = []
answers_in (turn_more t on u) = answers_in t ++ u.took.text

-- the start of a line that was dropped, since it is too long; or nothing was
abbrev pub Dropped : Bool → List ℕ → Type 0
Dropped true bytes = (longest_line < length bytes) × (has_feed bytes ≡ false)
Dropped false bytes = bytes ≡ []

-- all that was read is whole lines, which were taken from line 1 on a fresh book and answered one after the other; then the start of a
-- line that is too long, if it was dropped; and what the buffer still has
pub record Whole (read text : List ℕ) (d : Desk) (input : List ℕ) : Type 0 where
  pub taken : List ℕ
  pub dropped : List ℕ
  pub takes : Takes fresh 0 false taken d.book d.lines false text
  pub start : Dropped d.input.cut dropped
  pub all : read ≡ taken ++ dropped ++ between input d.input.from d.input.to

-- the system answered to a turn's `read` that it failed
abbrev pub ReadFailed : {i r : Input} {before after : List ℕ} → Fills i before r after → Type 0
ReadFailed (off a b c) = ⊥
ReadFailed (lines_left a b c d) = ⊥
ReadFailed (at_end a b c d e) = ⊥
ReadFailed (reads a b c kept front k r) = lt_z r.got (pos 0) ≡ true

-- why a turn is the last: its write failed, or its read; or the input is over, no whole line is left, and no answer waits
pub data WhyLast {d r : Desk} {input before input' after : List ℕ} (u : Turns d input before r input' after) : Type 0 where
  write_failed : u.flushes.written ≡ false → WhyLast u
  read_failed : ReadFailed u.fills → WhyLast u
  all_done : r.input.ended ≡ true → r.input.more ≡ false → r.at ≡ 0 → WhyLast u

abbrev pub WhyEnded : {d₀ d : Desk} {input₀ out₀ input out : List ℕ} {n : ℕ} → Turned d₀ input₀ out₀ n d input out → Type 0
WhyEnded none_yet = ⊥
WhyEnded (turn_more t on u) = WhyLast u
