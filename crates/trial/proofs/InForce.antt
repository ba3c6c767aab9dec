-- A trial of the sheet in force: nothing falls.
-- Assumes nothing.
use mathlib.Core.Path.{◌≡◌, refl, ◌∙◌, ap, subst}
use mathlib.Core.Bool.{Bool, true, false, ◌&&◌, ◌||◌}
use mathlib.Core.List.{List, map}
use mathlib.Core.Option.{none, some}
use Prim.Native.Nat.{ℕ, suc, ◌<◌}
use native.Mathlib.Omega.{arith}
use Rattle.laws.proofs.Never.{never}
use Rattle.laws.proofs.Sets.{set_none}
use Rattle.refusal.specs.declared.Check.TheVariants.{Pass}
use Rattle.benchmark.specs.declared.Benchmarks.{Benchmarks}
use Rattle.benchmark.specs.Benchmark.{set_check}
use Rattle.tariff.specs.declared.Tariff.{Tariff}
use Rattle.tariff.specs.Tariff.{all_fourteen}
use Rattle.verdict.specs.Cells.{first_over}
use Rattle.book.specs.declared.State.{State}
use Rattle.book.specs.declared.State.TheVariants.{Empty, Draft, Marked, Open}
use Rattle.book.specs.declared.Place.{Place}
use Rattle.book.specs.declared.Book.{Book}
use Rattle.book.specs.Calls.{Sheet, is_none}
use Rattle.book.specs.Checks.{is_open, figures_of, complies}
use Rattle.book.specs.Book.{tariff_in, place_of, held_in, sheet_if, sheet_in, in_force, open_if, state_under, under, Reachable}
use Rattle.book.proofs.Places.{in_range, at_map}
use Rattle.stands.specs.Stands.{MayStandAs}
use Rattle.stands.proofs.Kept.{reachable_fits}
use Rattle.queries.specs.Queries.{falling}
use Rattle.trial.specs.Trial.{is_draft, trial_of}
use Rattle.trial.specs.Places.{fell, fell_from}
use Rattle.trial.proofs.Trials.{trial_told}

-- what may stand in a place under a sheet does not fall under it
still : (f : Benchmarks) (directed : Bool) (x : Tariff) → (directed ≡ false → first_over f x ≡ none) → (directed || complies f x) ≡ true
still f true x h = refl
still f false x h = ap is_none (h refl)

pub stays : (s : Sheet) (q : State) (p : Place) → MayStandAs (some s) q p
    → (is_open (held_in q p.directed (tariff_in p)) && is_draft (held_in (state_under (figures_of s) q p.directed (tariff_in p)) p.directed (tariff_in p))) ≡ false
stays s Empty p h = refl
stays s Draft p h = refl
stays s Marked p h = refl
stays s Open p h = ap (λ t. is_draft (held_in (open_if t) p.directed (tariff_in p))) (still (figures_of s) p.directed (tariff_in p) h.1)

-- the sheet in force is the book's
loaded_by : (l : Bool) (d s : Sheet) → sheet_if l d ≡ some s → (l ≡ true) × (d ≡ s)
loaded_by true d s e = (refl, cc)
loaded_by false d s e = never (cc)

pub trial_of_sheet_in_force : (b : Book) (s : Sheet) → Reachable b → in_force b ≡ some s → trial_of b all_fourteen s ≡ falling 0
trial_of_sheet_in_force b s from e =
    trial_told b s passes after refl ∙ ap falling (set_none 32 (λ i. fell_from b.places after (suc i)) kept)
  where
    after : List Place
    after = map (under (figures_of s)) b.places

    w : (b.loaded ≡ true) × (sheet_in b ≡ s)
    w = loaded_by b.loaded (sheet_in b) s e

    passes : set_check s.fields s.period ≡ Pass
    passes = subst (λ d. set_check d.fields d.period ≡ Pass) w.1 ((reachable_fits b from).with_sheet w.0).0

    kept : (i : ℕ) → i < 32 → fell_from b.places after (suc i) ≡ false
    kept i h =
        let p = place_of b.places (suc i) in
        ap (fell p) (at_map (figures_of s) b.places (suc i))
        ∙ stays s p.state p (subst (λ o. MayStandAs o p.state p) e ((reachable_fits b from).places (suc i) (in_range (suc i) (omega arith) (omega arith))))
