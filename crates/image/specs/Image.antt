-- A book as 1,279 words of 32 bits, as a C program keeps it: the book that the words hold. It is a total reading: any words are read as
-- some places and some sheet, and `Reachable` says whether they are a book that calls leave.
-- Assumes nothing.
use Rattle.std.specs.Prelude.{Bool, cond, ◌&&◌, List, map, ℕ, ◌+◌, ◌≤◌, ◌<◌, eqb, length, get_or}
use Rattle.laws.specs.Notions.{tabulate}
use Rattle.calendar.specs.declared.Period.{Period}
use Rattle.sheet.specs.Sheet.{field_count}
use Rattle.benchmark.specs.declared.Benchmarks.{Benchmarks}
use Rattle.tariff.specs.Tariff.{tariff_of, record_length}
use Rattle.book.specs.declared.State.{State}
use Rattle.book.specs.declared.State.TheVariants.{Empty, Draft, Marked, Open}
use Rattle.book.specs.declared.Place.{Place}
use Rattle.book.specs.declared.Stood.{Stood}
use Rattle.book.specs.declared.Kept.{Kept}
use Rattle.book.specs.declared.Book.{Book}
use Rattle.book.specs.Book.{place_with, stood_as}
use Rattle.image.specs.Layout.{word_count, mark, loaded_at, fields_at, period_at, charges_at, levels_at, peak_at, months_at, days_at, kept_at, kept_loaded_at, kept_fields_at, kept_period_at, kept_states_at, record_at, start_of}

-- the word at a place, and n words from a place on
abbrev pub word : List ℕ → ℕ → ℕ
word l at = get_or l at 0

unfoldable pub words : (at n : ℕ) → List ℕ → List ℕ
words at n l = tabulate n (λ j. word l (at + j))

-- a state and a yes or no, as a word and back
abbrev pub state_number : State → ℕ
state_number Empty = 0
state_number Draft = 1
state_number Marked = 2
state_number Open = 3

abbrev pub state_of : ℕ → State
state_of n = cond (eqb n 1) Draft (cond (eqb n 2) Marked (cond (eqb n 3) Open Empty))

abbrev pub flag_of : ℕ → Bool
flag_of n = eqb n 1

-- the place whose words begin at a word
unfoldable pub place_at : List ℕ → ℕ → Place
place_at l at = place_with (state_of (word l at)) (flag_of (word l (at + 1))) (tariff_of (words (at + record_at) record_length l))

-- the parts of the book
abbrev pub period_in : List ℕ → ℕ → Period
period_in l at = record { year = word l at; month = word l (at + 1); months = word l (at + 2) }

unfoldable pub figures_in : List ℕ → Benchmarks
figures_in l =
    record { charges = words charges_at 112 l; levels = words levels_at 2 l; peak = word l peak_at; months = word l months_at; days = word l days_at }

unfoldable pub places_in : List ℕ → List Place
places_in l = map (place_at l) (tabulate 32 start_of)

unfoldable pub states_in : List ℕ → List Stood
states_in l = map (λ n. stood_as (state_of n)) (words kept_states_at 32 l)

unfoldable pub kept_in : List ℕ → Kept
kept_in l =
    record { any = flag_of (word l kept_at); loaded = flag_of (word l kept_loaded_at); fields = words kept_fields_at field_count l; period = period_in l kept_period_at; states = states_in l }

-- the book that an image holds
unfoldable pub book_in : List ℕ → Book
book_in l =
    record { loaded = flag_of (word l loaded_at); fields = words fields_at field_count l; period = period_in l period_at; benchmarks = figures_in l; places = places_in l; kept = kept_in l }

-- an image: so many words, the mark first
unfoldable pub is_image : List ℕ → Bool
is_image l = eqb (length l) word_count && eqb (word l 0) mark

-- the words of a yes or no are 0 or 1, and those of a state 0 to 3: then no two images hold the same book
pub record Canonical (l : List ℕ) : Type 0 where
  pub loaded : word l loaded_at ≤ 1
  pub kept : word l kept_at ≤ 1
  pub kept_loaded : word l kept_loaded_at ≤ 1
  pub kept_states : (i : ℕ) → i < 32 → word l (kept_states_at + i) ≤ 3
  pub states : (i : ℕ) → i < 32 → word l (start_of i) ≤ 3
  pub directions : (i : ℕ) → i < 32 → word l (start_of i + 1) ≤ 1
