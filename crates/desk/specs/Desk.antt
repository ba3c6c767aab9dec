-- What the desk's functions promise, and the whole run, turn after turn.
-- Assumes nothing. Nothing here says which bytes the system's `read` and `write` move, nor what they answer: a definition that goes by an
-- answer takes it as it came.
use Rattle.std.specs.Prelude.{◌≡◌, Bool, true, false, List, ◌⊎◌, ℕ, ◌+◌, ◌-◌, ◌^◌, ◌≤◌, ℤ, length, take}
use Rattle.book.specs.Book.{fresh, Reachable}
use Rattle.lines.specs.Words.{longest_line}
use Rattle.input.specs.declared.Input.{Input}
use Rattle.input.specs.Input.{Holds, Keeps, stopped, Moved, AfterRead, after_write}
use Rattle.taking.specs.declared.Desk.{Desk}
use Rattle.taking.specs.Taking.{Took}

-- the system was asked for bytes behind those that i has: it answered `got` and left the buffer as `into`, in which the bytes that i has
-- are as before
pub record Reads (i : Input) (before : List ℕ) (r : Input) (after : List ℕ) : Type 0 where
  pub got : ℤ
  pub into : List ℕ
  pub size : length into ≡ length before
  pub bytes : take i.to into ≡ take i.to before
  pub moved : Moved (length into - i.to) got
  pub handled : AfterRead got i into r after

-- more of the input where the desk goes on and no whole line is left of it: at its end the desk goes on no more, and else the start of an
-- unfinished line is kept and more is read behind it
pub data Fills (i : Input) (before : List ℕ) (r : Input) (after : List ℕ) : Type 0 where
  off : i.on ≡ false → r ≡ i → after ≡ before → Fills i before r after
  lines_left : i.on ≡ true → i.more ≡ true → r ≡ i → after ≡ before → Fills i before r after
  at_end : i.on ≡ true → i.more ≡ false → i.ended ≡ true → r ≡ stopped i → after ≡ before → Fills i before r after
  reads : i.on ≡ true → i.more ≡ false → i.ended ≡ false → (kept : Input) (front : List ℕ) → Keeps i before kept front
      → Reads kept front r after → Fills i before r after

-- the answers were written out, or not
pub record Flushes (i r : Input) : Type 0 where
  pub written : Bool
  pub input : r ≡ after_write written i

-- a turn: the answers are written out, more is read where no whole line is left, and lines are taken of what the input then has, on the
-- book and the count of lines of the desk
pub record Turns (d : Desk) (input before : List ℕ) (r : Desk) (input' after : List ℕ) : Type 0 where
  pub flushed : Input
  pub flushes : Flushes d.input flushed
  pub had : Input
  pub fills : Fills flushed input had input'
  pub took : Took d.book d.lines had input' before r after

-- a desk between two turns, with buffers of these lengths
pub record Steady (d : Desk) (input numbers out : ℕ) : Type 0 where
  pub reachable : Reachable d.book
  pub holds : Holds d.input input
  pub waiting : d.at ≤ out
  pub input_size : input ≡ 65536
  pub numbers_size : numbers ≡ longest_line
  pub out_size : out ≡ 65536

-- at the start the book is fresh, no line is taken, no answer waits, nothing is read, and the desk goes on
abbrev pub at_start : Desk
at_start =
    record {
      book = fresh;
      lines = 0;
      at = 0;
      input = record { from = 0; to = 0; cut = false; more = false; ended = false; on = true };
    }

-- n turns, one after the other, each of a desk that goes on: the desk after them, and the buffers of the input and the output
pub data Turned (d₀ : Desk) (input₀ out₀ : List ℕ) : ℕ → Desk → List ℕ → List ℕ → Type 0 where
  none_yet : Turned d₀ input₀ out₀ 0 d₀ input₀ out₀
  turn_more : {n : ℕ} {d d' : Desk} {input input' out out' : List ℕ} → Turned d₀ input₀ out₀ n d input out → d.input.on ≡ true
      → Turns d input out d' input' out' → Turned d₀ input₀ out₀ (n + 1) d' input' out'

-- a run: turns from the start until the desk does not go on, or until there were as many as 64 bits count
pub record Runs (input₀ out₀ : List ℕ) (r : Desk) (input out : List ℕ) : Type 0 where
  pub turns : ℕ
  pub turned : Turned at_start input₀ out₀ turns r input out
  pub ends : (r.input.on ≡ false) ⊎ (turns ≡ 2 ^ 64 - 1)
