-- What of the input is in its buffer, and what the functions on it promise.
-- Assumes nothing. Nothing here says what the system answers: a definition that goes by an answer takes it as it came.
use Rattle.std.specs.Prelude.{◌≡◌, Bool, true, false, cond, ◌||◌, List, [], ℕ, zero, suc, ◌+◌, ◌-◌, ◌≤◌, ltb, ℤ, pos, negsuc, length, take, set}
use Rattle.lines.specs.Words.{longest_line, between}
use Rattle.input.specs.declared.Input.{Input}

-- what the desk has of the input lies within a buffer of this length
pub record Holds (i : Input) (size : ℕ) : Type 0 where
  pub ordered : i.from ≤ i.to
  pub inside : i.to ≤ size

-- other bytes of the input, which begin at the front
abbrev pub at_front : Input → ℕ → Bool → Input
at_front i to cut = record { from = 0; to = to; cut = cut; more = i.more; ended = i.ended; on = i.on }

-- the start of an unfinished line is kept at the front, or dropped where it is too long
pub record Keeps (i : Input) (before : List ℕ) (r : Input) (after : List ℕ) : Type 0 where
  pub long : r.cut ≡ (i.cut || ltb longest_line (i.to - i.from))
  pub input : r ≡ at_front i (cond r.cut 0 (i.to - i.from)) r.cut
  pub bytes : take r.to after ≡ cond r.cut [] (between before i.from i.to)
  pub size : length after ≡ length before

-- at the end of the input what is left, if anything is, gets a line feed
abbrev pub is_left : Input → Bool
is_left i = i.cut || ltb 0 i.to

abbrev pub closed : Input → Input
closed i = record { from = i.from; to = cond (is_left i) (i.to + 1) i.to; cut = i.cut; more = i.more; ended = true; on = i.on }

pub record Closes (i : Input) (before : List ℕ) (r : Input) (after : List ℕ) : Type 0 where
  pub input : r ≡ closed i
  pub bytes : after ≡ cond (is_left i) (set before i.to 10) before

-- the same input, but the desk does not go on
abbrev pub stopped : Input → Input
stopped i = record { from = i.from; to = i.to; cut = i.cut; more = i.more; ended = i.ended; on = false }

-- the same input with n bytes more
abbrev pub grown : Input → ℕ → Input
grown i n = record { from = i.from; to = i.to + n; cut = i.cut; more = i.more; ended = i.ended; on = i.on }

-- what the system may answer to a `read` that is handed n bytes: -1, or how many bytes it moved, at most n
abbrev pub Moved : ℕ → ℤ → Type 0
Moved n (pos k) = k ≤ n
Moved n (negsuc k) = k ≡ 0

-- what is made of the system's answer to `read`: below 0 it failed, and the desk does not go on; 0 is the end of the input; any other is
-- the number of bytes that were read
abbrev pub AfterRead : (got : ℤ) (i : Input) (before : List ℕ) (r : Input) (after : List ℕ) → Type 0
AfterRead (negsuc k) i before r after = (r ≡ stopped i) × (after ≡ before)
AfterRead (pos zero) i before r after = Closes i before r after
AfterRead (pos (suc n)) i before r after = (r ≡ grown i (suc n)) × (after ≡ before)

-- what is made of the answer to a write: where it failed the desk does not go on
abbrev pub after_write : (written : Bool) → Input → Input
after_write true i = i
after_write false i = stopped i
