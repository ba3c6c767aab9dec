-- The place of a code in an image: the checks of QUOTE on it, and what its book answers behind them.
-- Assumes nothing.
use mathlib.Core.Path.{◌≡◌, refl}
use mathlib.Core.Bool.{Bool, true, ◌&&◌}
use mathlib.Core.List.{List}
use Prim.Native.Nat.{ℕ, suc, ◌<◌}
use native.Mathlib.Omega.{arith}
use Rattle.laws.proofs.Never.{never}
use Rattle.refusal.specs.declared.Check.TheVariants.{Pass}
use Rattle.refusal.specs.Checks.{unless, checked}
use Rattle.tariff.specs.declared.Tariff.{Tariff}
use Rattle.tariff.specs.Tariff.{valid_tariff}
use Rattle.cap.specs.declared.CellNumbers.{CellNumbers}
use Rattle.cap.specs.Cap.{Months}
use Rattle.verdict.specs.Cells.{Cell, cell_numbers}
use Rattle.desks.specs.Desks.{may_use}
use Rattle.book.specs.declared.State.{State}
use Rattle.book.specs.declared.State.TheVariants.{Empty, Draft, Marked, Open}
use Rattle.book.specs.declared.Place.{Place}
use Rattle.book.specs.Checks.{inside}
use Rattle.book.specs.Book.{tariff_in, sheet_in, Reachable}
use Rattle.book.specs.Settling.{is_filled, code_check, empty_check, HasPlace}
use Rattle.stands.specs.Stands.{HoldsValidAs, HoldsValid}
use Rattle.queries.specs.Queries.{refused, quotation}
use Rattle.quoting.specs.Quote.{cell_allowed, months_allowed, quotation_in, quote_of}
use Rattle.quoting.specs.Reading.{quote_check, check_at}
use Rattle.quoting.proofs.Listed.{months_for}
use Rattle.quoting.proofs.Answers.{Passes, passes_with, quote_there}
use Rattle.image.specs.Layout.{loaded_at, months_at, start_of}
use Rattle.image.specs.Image.{word, flag_of, place_at, figures_in, book_in}
use Rattle.image.proofs.Places.{place_there}
use Rattle.image_queries.proofs.Told.{Numbered, unless_numbered, first_numbered}

-- a place that holds nothing or a valid tariff, and is not empty
filled : (q : State) (x : Tariff) → HoldsValidAs q x → empty_check q ≡ Pass → valid_tariff x ≡ true
filled Empty x h e = never (cc)
filled Draft x h e = h
filled Marked x h e = h
filled Open x h e = h

-- 6, 9, 10, 13 and 17
module _ (desk k : ℕ) (p : Place) (loaded : Bool) (t r m : ℕ) (months : List ℕ) where
  pub quote_numbered : Numbered (check_at desk k p loaded t r m months)
  quote_numbered =
      first_numbered (code_check k) _ (unless_numbered (inside k) 6 (omega arith))
      (first_numbered (empty_check p.state) _ (unless_numbered (is_filled p.state) 9 (omega arith))
      (first_numbered (unless loaded 10 Pass) (quote_check desk t (tariff_in p) r m months) (unless_numbered loaded 10 (omega arith))
      (first_numbered (unless (cell_allowed (tariff_in p) r m && months_allowed t months) 13 Pass) (unless (may_use desk (tariff_in p).regions) 17 Pass)
      (unless_numbered (cell_allowed (tariff_in p) r m && months_allowed t months) 13 (omega arith)) (unless_numbered (may_use desk (tariff_in p).regions) 17 (omega arith)))))

  pub quote_passes : HoldsValid p → check_at desk k p loaded t r m months ≡ Pass → Passes p loaded t r m months
  quote_passes h e = passes_with desk k p loaded t r m months (filled p.state (tariff_in p) h) e

-- the book has the place at the index of the code
module _ (l : List ℕ) (k i : ℕ) (within : i < 32) (index : inside k ≡ true → suc i ≡ k) (from : Reachable (book_in l)) where
  has_place : HasPlace (book_in l) k i (place_at l (start_of i)) (flag_of (word l loaded_at)) (figures_in l)
  unfolding book_in
  has_place =
      record { reachable = from; within = within; index = index; place = place_there l i within; is_loaded = refl; has_figures = refl }

  pub quote_in : (desk r m : ℕ) (months : List ℕ) → let p = place_at l (start_of i) in
      quote_of (book_in l) desk k r m months
      ≡ checked refused (check_at desk k p (flag_of (word l loaded_at)) (word l months_at) r m months) (quotation (quotation_in (sheet_in (book_in l)) (tariff_in p) r m months))
  unfolding figures_in
  quote_in desk r m months = quote_there has_place desk r m months

-- as many months as the numbers of a cell have
pub months_in_lem : (l : List ℕ) (a standing : ℕ) (c : Cell) (e : CellNumbers) → e ≡ cell_numbers (figures_in l) a standing c
    → (months : List ℕ) → months_allowed (word l months_at) months ≡ true → Months e.months months
unfolding figures_in
months_in_lem l a standing c e is months h = months_for (figures_in l) a standing c e is months h
