-- Periods, figures and places that have the same numbers are the same.
-- Assumes nothing.
use mathlib.Core.Path.{◌≡◌, ap}
use mathlib.Core.Bool.{Bool, false}
use mathlib.Core.List.{List, [], ◌∷◌}
use Prim.Native.Nat.{ℕ}
use lib.ListN.{get_or, replicate}
use Rattle.calendar.specs.declared.Period.{Period}
use Rattle.benchmark.specs.declared.Benchmarks.{Benchmarks}
use Rattle.tariff.specs.declared.Tariff.{Tariff}
use Rattle.book.specs.declared.State.TheVariants.{Empty}
use Rattle.book.specs.declared.Place.{Place}
use Rattle.book.specs.Book.{empty, place_with}

abbrev pub period_numbers : Period → List ℕ
period_numbers p = p.year ∷ p.month ∷ p.months ∷ []

abbrev pub figure_numbers : Benchmarks → List ℕ
figure_numbers f = f.peak ∷ f.months ∷ f.days ∷ []

abbrev pub place_numbers : Place → List ℕ
place_numbers p = p.kind ∷ p.n ∷ p.standing ∷ p.regions ∷ p.methods ∷ []

nth : {xs ys : List ℕ} (k : ℕ) → xs ≡ ys → get_or xs k 0 ≡ get_or ys k 0
nth k e = ap (λ l. get_or l k 0) e

pub period_alike : (p q : Period) → period_numbers p ≡ period_numbers q → p ≡ q
period_alike p q e = λ i. record { year = nth 0 e i; month = nth 1 e i; months = nth 2 e i }

pub figures_alike : (f g : Benchmarks) → f.charges ≡ g.charges → f.levels ≡ g.levels → figure_numbers f ≡ figure_numbers g → f ≡ g
figures_alike f g c l e = λ i. record { charges = c i; levels = l i; peak = nth 0 e i; months = nth 1 e i; days = nth 2 e i }

pub blank : (d : Bool) (x : Tariff) → d ≡ false → place_numbers (place_with Empty d x) ≡ replicate 5 0 → x.rates ≡ replicate 4 0
    → x.steps ≡ replicate 4 0 → x.regional ≡ replicate 14 0 → place_with Empty d x ≡ empty
blank d x c e r s t =
    λ i. record { state = Empty; directed = c i; kind = nth 0 e i; n = nth 1 e i; standing = nth 2 e i; regions = nth 3 e i; methods = nth 4 e i; rates = r i; steps = s i; regional = t i }
