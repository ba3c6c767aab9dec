-- The figures that `work_out` comes to for the sheet that UNDO brings back are those of that sheet; without a sheet, there are none.
-- Assumes nothing.
use mathlib.Core.Path.{◌≡◌, refl, ◌∙◌, ap, ap₂}
use mathlib.Core.Bool.{Bool, true, false}
use mathlib.Core.List.{List}
use Prim.Native.Nat.{ℕ}
use lib.ListN.{replicate}
use Rattle.laws.specs.Notions.{every}
use Rattle.calendar.specs.declared.Period.{Period}
use Rattle.refusal.specs.declared.Check.TheVariants.{Refuse}
use Rattle.sheet.specs.Sheet.{field_count, signed, value_of, range_of, field_in_range, fields_in_range}
use Rattle.benchmark.specs.declared.Benchmarks.{Benchmarks}
use Rattle.benchmark.specs.Benchmark.{benchmarks_of, set_check}
use Rattle.figures.specs.Working.{worked_if}
use Rattle.book.specs.declared.Place.{Place}
use Rattle.book.specs.declared.Kept.{Kept}
use Rattle.book.specs.declared.Book.{Book}
use Rattle.book.specs.Book.{no_period, nothing_kept, sheet_if, sheet_in, figures_if, restored}
use Rattle.stands.specs.Stands.{Fits}

abbrev worked : List ℕ → Period → Benchmarks
worked fields period = worked_if (set_check fields period) (benchmarks_of fields period)

-- a sheet of zeros is refused: m is 0
zeros_refused : set_check (replicate field_count 0) no_period ≡ Refuse 2
unfolding set_check fields_in_range field_in_range value_of signed range_of every
zeros_refused = refl

pub figures_worked : (b : Book) → Fits b → worked b.fields b.period ≡ figures_if (sheet_if b.loaded (sheet_in b))
figures_worked b h = go b.loaded refl
  where
    go : (l : Bool) → b.loaded ≡ l → worked b.fields b.period ≡ figures_if (sheet_if l (sheet_in b))
    go true e = ap (λ c. worked_if c (benchmarks_of b.fields b.period)) (h.with_sheet e).0
    go false e =
        let w = h.without_sheet e in
        ap₂ worked w.0 w.1 ∙ ap (λ c. worked_if c (benchmarks_of (replicate field_count 0) no_period)) zeros_refused

-- the book that is kept with those figures: the book that UNDO brings back, where either stands
abbrev made : Book → Benchmarks → List Place → Kept → Book
made b figures places kept =
    record { loaded = b.kept.loaded; fields = b.kept.fields; period = b.kept.period; benchmarks = figures; places = places; kept = kept }

module _ (b : Book) (figures : Benchmarks) (places : List Place) (kept : Kept) where
  pub brought_back : figures ≡ worked b.kept.fields b.kept.period → places ≡ (restored b).places → kept ≡ nothing_kept
      → (Fits (restored b) → made b figures places kept ≡ restored b) × (Fits (made b figures places kept) → made b figures places kept ≡ restored b)
  brought_back f p k = (λ fits. whole (figures_worked (restored b) fits), λ fits. whole (figures_worked (made b figures places kept) fits))
    where
      whole : worked b.kept.fields b.kept.period ≡ (restored b).benchmarks → made b figures places kept ≡ restored b
      whole h i =
          record { loaded = b.kept.loaded; fields = b.kept.fields; period = b.kept.period; benchmarks = (f ∙ h) i; places = p i; kept = k i }
