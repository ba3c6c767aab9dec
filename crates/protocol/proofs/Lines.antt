-- What a line leads to, by whether it is too long.
-- Assumes nothing.
use mathlib.Core.Path.{◌≡◌, refl}
use mathlib.Core.Bool.{Bool, true, false}
use mathlib.Core.List.{List}
use Prim.Native.Nat.{ℕ, ◌<◌, ◌≤◌}
use lib.ListN.{length}
use borrow.Author.Tests.{lt-ltb, le-ltb}
use Rattle.book.specs.declared.Book.{Book}
use Rattle.lines.specs.Words.{longest_line, without_return}
use Rattle.request.specs.Requests.{request_of, numbers_of}
use Rattle.protocol.specs.Lines.{request_line, long_line, line_at}

-- a line that is too long, and one that is not
module _ (b : Book) (l : ℕ) (cut : Bool) (bytes : List ℕ) where
  pub cut_line : cut ≡ true → line_at b l cut bytes ≡ long_line b l
  unfolding line_at
  cut_line e = rw e refl

  pub long_line_lem : cut ≡ false → longest_line < length bytes → line_at b l cut bytes ≡ long_line b l
  unfolding line_at
  long_line_lem e h = rw (e, lt-ltb longest_line (length bytes) h) refl

  pub short_line : cut ≡ false → length bytes ≤ longest_line
      → line_at b l cut bytes ≡ request_line b l (request_of (without_return bytes)) (numbers_of (without_return bytes))
  unfolding line_at
  short_line e h = rw (e, le-ltb longest_line (length bytes) h) refl
