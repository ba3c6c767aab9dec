-- What SET and TRIAL test first, and what each stage of SET and UNDO writes into an image, word by word; every other word is as before.
-- Assumes nothing.
use Rattle.std.specs.Prelude.{◌≡◌, true, false, List, ◌≢◌, ◌⊎◌, ℕ, ◌+◌, ◌≤◌, ◌<◌, length}
use Rattle.refusal.specs.declared.Check.{Check}
use Rattle.refusal.specs.declared.Check.TheVariants.{Pass}
use Rattle.refusal.specs.Checks.{checked, need}
use Rattle.sheet.specs.Sheet.{field_count}
use Rattle.benchmark.specs.declared.Benchmarks.{Benchmarks}
use Rattle.desks.specs.Desks.{is_full}
use Rattle.book.specs.declared.Book.{Book}
use Rattle.book.specs.Calls.{Sheet, accepted, refused}
use Rattle.book.specs.Book.{Reachable}
use Rattle.stands.specs.Stands.{HoldsValid}
use Rattle.image.specs.Layout.{loaded_at, fields_at, period_at, charges_at, kept_at, kept_loaded_at, kept_states_at, places_at, start_of}
use Rattle.image.specs.Image.{word, words, place_at, period_in, figures_in, book_in, is_image, Canonical}
use Rattle.image.specs.Changing.{no_book, number_of}

-- every place holds nothing or a valid tariff
abbrev pub AllValid : List ℕ → Type 0
AllValid l = (i : ℕ) → i < 32 → HoldsValid (place_at l (start_of i))

-- What SET and TRIAL test before anything is written, given the answer of the sheet's own checks: of an image that holds a book the number is
-- that of SET's answer, and where it is 0, all tests passed
pub record Refuses (l : List ℕ) (desk : ℕ) (check : Check) (r : ℕ) : Type 0 where
  pub no_book_lem : is_image l ≡ false → r ≡ no_book
  pub answers : is_image l ≡ true → Reachable (book_in l) → r ≡ number_of (need refused (is_full desk) 17 (checked refused check accepted))
  pub image : r ≡ 0 → is_image l ≡ true
  pub full : r ≡ 0 → is_full desk ≡ true
  pub passes : r ≡ 0 → check ≡ Pass
  pub valid : r ≡ 0 → AllValid l

-- the states of the first n places: that of place i is x i
pub record StatesWritten (l m : List ℕ) (n : ℕ) (x : ℕ → ℕ) : Type 0 where
  pub size : length m ≡ length l
  pub outside : (j : ℕ) → ((i : ℕ) → i < n → j ≢ start_of i) → word m j ≡ word l j
  pub inside : (i : ℕ) → i < n → word m (start_of i) ≡ x i

-- the figures of a sheet
pub record FiguresWritten (l m : List ℕ) (f : Benchmarks) : Type 0 where
  pub size : length m ≡ length l
  pub outside : (j : ℕ) → (j < charges_at) ⊎ (kept_at ≤ j) → word m j ≡ word l j
  pub figures : figures_in m ≡ f

-- the words of a sheet: whether there is one, its fields and its period
abbrev pub sheet_words : ℕ
sheet_words = 100

-- a sheet with its figures, as the one in force
pub record SheetWritten (l m : List ℕ) (s : Sheet) (f : Benchmarks) : Type 0 where
  pub size : length m ≡ length l
  pub outside : (j : ℕ) → (j < loaded_at) ⊎ (kept_at ≤ j) → word m j ≡ word l j
  pub loaded : word m loaded_at ≡ 1
  pub fields : words fields_at field_count m ≡ s.fields
  pub period : period_in m period_at ≡ s.period
  pub figures : figures_in m ≡ f

-- what UNDO takes back: the sheet in force, or none, and the state of each place
pub record StepKept (l m : List ℕ) : Type 0 where
  pub size : length m ≡ length l
  pub outside : (j : ℕ) → (j < kept_at) ⊎ (places_at ≤ j) → word m j ≡ word l j
  pub any : word m kept_at ≡ 1
  pub sheet : (j : ℕ) → j < sheet_words → word m (kept_loaded_at + j) ≡ word l (loaded_at + j)
  pub states : (i : ℕ) → i < 32 → word m (kept_states_at + i) ≡ word l (start_of i)

-- an accepted call on words that hold a book: the book after it. Of any words: they are an image if they were one, and canonical if they were so
pub record Leaves (l m : List ℕ) (b : Book) : Type 0 where
  pub size : length m ≡ length l
  pub marked : word m 0 ≡ word l 0
  pub book : Reachable (book_in l) → book_in m ≡ b
  pub canonical : Canonical l → Canonical m
