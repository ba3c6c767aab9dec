-- The figures of the sheet in force: what a reachable book has beside its sheet is what the paper's formulas give for it.
-- Assumes nothing.
use mathlib.Core.Path.{◌≡◌, refl, ◌∙◌, ap}
use mathlib.Core.Bool.{true}
use Prim.Native.Nat.{ℕ, ◌<◌}
use lib.IntN.{pos}
use lib.ListN.{get_or}
use Rattle.refusal.specs.declared.Check.TheVariants.{Pass}
use Rattle.benchmark.specs.Benchmark.{benchmark, figure_index, benchmarks_of, set_check}
use Rattle.benchmark.proofs.Lawful.{passed_ranged, passed_costed, charge_at_index}
use Rattle.book.specs.declared.Book.{Book}
use Rattle.book.specs.Calls.{Sheet}
use Rattle.book.specs.Checks.{figures_of}
use Rattle.book.specs.Book.{sheet_in, Reachable}
use Rattle.stands.proofs.InForce.{figures_are, sheet_passed}

-- each figure, from the figures of a sheet
charge_of_sheet : (s : Sheet) → set_check s.fields s.period ≡ Pass → (r a p l : ℕ) → r < 14 → a < 2 → p < 2 → l < 2
    → pos (get_or (figures_of s).charges (figure_index r a p l) 0) ≡ benchmark s.fields r a p l
unfolding benchmarks_of
charge_of_sheet s e = charge_at_index s.fields (passed_ranged s.fields s.period e) (passed_costed s.fields s.period e)

months_of_sheet : (s : Sheet) → (figures_of s).months ≡ s.period.months
unfolding benchmarks_of
months_of_sheet s = refl

-- they are those that the book has
module _ (b : Book) (from : Reachable b) (loaded : b.loaded ≡ true) where
  pub months_are : b.benchmarks.months ≡ b.period.months
  months_are = ap (λ f. f.months) (figures_are b from loaded) ∙ months_of_sheet (sheet_in b)

  pub charge_is : (r a p l : ℕ) → r < 14 → a < 2 → p < 2 → l < 2
      → pos (get_or b.benchmarks.charges (figure_index r a p l) 0) ≡ benchmark b.fields r a p l
  charge_is r a p l hr ha hp hl =
      ap (λ f. pos (get_or f.charges (figure_index r a p l) 0)) (figures_are b from loaded)
      ∙ charge_of_sheet (sheet_in b) (sheet_passed b from loaded) r a p l hr ha hp hl
