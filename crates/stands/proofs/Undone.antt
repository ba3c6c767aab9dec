-- A SET that is taken back: the book before it is restored, except that there is nothing more to take back.
-- Assumes nothing.
use mathlib.Core.Path.{◌≡◌, refl, sym, ap}
use mathlib.Core.Bool.{Bool, true, false}
use mathlib.Core.List.{List, [], ◌∷◌, map, zip_with}
use Rattle.benchmark.specs.declared.Benchmarks.{Benchmarks}
use Rattle.book.specs.declared.Place.{Place}
use Rattle.book.specs.declared.Book.{Book}
use Rattle.book.specs.Calls.{Sheet, SET}
use Rattle.book.specs.Checks.{figures_of}
use Rattle.book.specs.Book.{with_state, stood_as, nothing_kept, sheet_if, sheet_in, in_force, with_places, under, figures_if, restored, changed}
use Rattle.stands.specs.Stands.{Fits}

-- the book with nothing to take back
abbrev pub unkept : Book → Book
unkept b = with_places b b.places nothing_kept

pub fits_unkept : (b : Book) → Fits b → Fits (unkept b)
fits_unkept b h = record { size = h.size; places = h.places; without_sheet = h.without_sheet; with_sheet = h.with_sheet }

-- a sheet changes no tariff, and so the places are as they were once each is in the state that it had
states_back : (f : Benchmarks) (ps : List Place) → zip_with (λ s. with_state s.state) (map (λ p. stood_as p.state) ps) (map (under f) ps) ≡ ps
unfolding zip_with
states_back f [] = refl
states_back f (p ∷ ps) = ap (◌∷◌ p) (states_back f ps)

-- the figures of a book are those of its sheet, or none
pub figures_back : (b : Book) → Fits b → figures_if (in_force b) ≡ b.benchmarks
figures_back b h = go b.loaded refl
  where
    go : (l : Bool) → b.loaded ≡ l → figures_if (sheet_if l (sheet_in b)) ≡ b.benchmarks
    go true e = sym (h.with_sheet e).1
    go false e = sym (h.without_sheet e).2

pub undone : (b : Book) → Fits b → (s : Sheet) → restored (changed b (SET s)) ≡ unkept b
undone b h s =
    λ i. record { loaded = b.loaded; fields = b.fields; period = b.period; benchmarks = figures_back b h i; places = states_back (figures_of s) b.places i; kept = nothing_kept }
