-- An image that holds a reachable book passes the tests.
-- Assumes nothing.
use mathlib.Core.Path.{◌≡◌, subst}
use mathlib.Core.Bool.{true}
use mathlib.Core.List.{List}
use Prim.Native.Nat.{ℕ, ◌<◌}
use Rattle.benchmark.specs.Lawful.{Lawful}
use Rattle.book.specs.Book.{Reachable}
use Rattle.stands.specs.Stands.{HoldsValid}
use Rattle.stands.proofs.InForce.{figures_lawful, holds_at}
use Rattle.image.specs.Layout.{loaded_at, start_of}
use Rattle.image.specs.Image.{word, flag_of, place_at, figures_in, book_in}
use Rattle.image.proofs.Places.{place_there}

module _ (l : List ℕ) (from : Reachable (book_in l)) where
  pub figures_there : flag_of (word l loaded_at) ≡ true → Lawful (figures_in l)
  unfolding book_in
  figures_there e = figures_lawful (book_in l) from e

  pub holds_there : (i : ℕ) → i < 32 → HoldsValid (place_at l (start_of i))
  unfolding book_in
  holds_there i h = subst HoldsValid (place_there l i h) (holds_at (book_in l) from i h)
