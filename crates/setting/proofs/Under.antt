-- A place under the figures of a new sheet.
-- Assumes nothing.
use mathlib.Core.Path.{◌≡◌, sym, ◌∙◌, ap, ap₂}
use mathlib.Core.Bool.{Bool, true, false, ◌||◌}
use mathlib.Core.Option.{Option, none}
use Rattle.benchmark.specs.declared.Benchmarks.{Benchmarks}
use Rattle.verdict.specs.Cells.{Cell, first_over}
use Rattle.book.specs.declared.State.{State}
use Rattle.book.specs.declared.State.TheVariants.{Empty, Draft, Marked, Open}
use Rattle.book.specs.declared.Place.{Place}
use Rattle.book.specs.Calls.{is_none}
use Rattle.book.specs.Checks.{complies}
use Rattle.book.specs.Book.{place_with, tariff_in, with_state, open_if, state_under, under}

module _ (f : Benchmarks) (p : Place) where
  by_state : (s : State) → p.state ≡ s → under f p ≡ with_state (state_under f s p.directed (tariff_in p)) p
  by_state s e = ap (λ (q : State). with_state (state_under f q p.directed (tariff_in p)) p) e

  same_state : (s : State) → p.state ≡ s → p ≡ with_state s p
  same_state s e = ap (λ (q : State). place_with q p.directed (tariff_in p)) e

  pub empty_kept : p.state ≡ Empty → p ≡ under f p
  empty_kept e = same_state Empty e ∙ sym (by_state Empty e)

  pub draft_kept : p.state ≡ Draft → p ≡ under f p
  draft_kept e = same_state Draft e ∙ sym (by_state Draft e)

  pub mark_cleared : p.state ≡ Marked → with_state Draft p ≡ under f p
  mark_cleared e = sym (by_state Marked e)

  -- an open tariff under a direction, and one without, with what the walk found of it
  pub direction_keeps : p.state ≡ Open → p.directed ≡ true → p ≡ under f p
  direction_keeps e d =
      same_state Open e ∙ sym (by_state Open e ∙ ap (λ (t : Bool). with_state (open_if (t || complies f (tariff_in p))) p) d)

  pub open_judged : p.state ≡ Open → p.directed ≡ false → (o : Option Cell) → first_over f (tariff_in p) ≡ o → with_state (open_if (is_none o)) p ≡ under f p
  open_judged e d o h = sym (by_state Open e ∙ ap₂ (λ (t : Bool) (c : Option Cell). with_state (open_if (t || is_none c)) p) d h)

  pub open_kept : p.state ≡ Open → p.directed ≡ false → first_over f (tariff_in p) ≡ none → p ≡ under f p
  open_kept e d h = same_state Open e ∙ open_judged e d none h
