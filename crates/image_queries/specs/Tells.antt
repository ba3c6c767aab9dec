-- What a call that tells promises of an image: one shape for BENCHMARK, MAXIMUM and QUOTE.
-- Assumes nothing.
use Rattle.std.specs.Prelude.{◌≡◌, true, false, cond, List, ◌≢◌, ℕ, eqb, pos}
use Rattle.book.specs.declared.Book.{Book}
use Rattle.book.specs.Book.{Reachable}
use Rattle.queries.specs.Queries.{Telling, refused, benchmark_charge, maximum_charge, quotation}
use Rattle.image.specs.Image.{book_in, is_image}
use Rattle.image.specs.Changing.{no_book}
use Rattle.image_queries.specs.declared.Charge.{Charge}
use Rattle.image_queries.specs.declared.Fraction.{Fraction}
use Rattle.image_queries.specs.declared.Quotation.{Quotation}

-- an answer read back: with refusal 0 the figures, and else the refusal with its number
abbrev pub told_by : (refusal : ℕ) → Telling → Telling
told_by n told = cond (eqb n 0) told (refused n)

-- What is no image is no_book. Of an image that holds a book the answer, read back, is the book's own. With a refusal the figures are 0.
pub record Tells (l : List ℕ) (asked : Book → Telling) (refusal : ℕ) (told : Telling) (Noughts : Type 0) : Type 0 where
  pub no_book_lem : is_image l ≡ false → refusal ≡ no_book
  pub answers : is_image l ≡ true → Reachable (book_in l) → told_by refusal told ≡ asked (book_in l)
  pub noughts : refusal ≢ 0 → Noughts

-- with what each call gives
abbrev pub TellsCharge : List ℕ → (Book → Telling) → Charge → Type 0
TellsCharge l asked r = Tells l asked r.refusal (benchmark_charge (pos r.mills)) (r.mills ≡ 0)

abbrev pub TellsFraction : List ℕ → (Book → Telling) → Fraction → Type 0
TellsFraction l asked r =
    Tells l asked r.refusal (maximum_charge (record { number = r.number; denominator = r.denominator })) ((r.number ≡ 0) × (r.denominator ≡ 0))

abbrev pub TellsQuotation : List ℕ → (Book → Telling) → Quotation → Type 0
TellsQuotation l asked r =
    Tells l asked r.refusal (quotation (record { charge = r.charge; maximum = r.maximum })) ((r.charge ≡ 0) × (r.maximum ≡ 0))
