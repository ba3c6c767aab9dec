-- What `Fits` asks of a book, part by part, as the code tests it.
-- Assumes nothing.
use mathlib.Core.Path.{◌≡◌, sym, subst}
use mathlib.Core.Bool.{Bool, true, false}
use mathlib.Core.Option.{Option}
use mathlib.Core.List.{List}
use Prim.Native.Nat.{ℕ, zero, suc, ◌<◌}
use native.Mathlib.Omega.{arith}
use lib.ListN.{length, get_or}
use Rattle.refusal.specs.declared.Check.TheVariants.{Pass}
use Rattle.benchmark.specs.Benchmark.{set_check}
use Rattle.benchmark.specs.Lawful.{Lawful}
use Rattle.benchmark.proofs.Lawful.{lawful}
use Rattle.book.specs.declared.Place.{Place}
use Rattle.book.specs.declared.Book.{Book}
use Rattle.book.specs.Calls.{Sheet}
use Rattle.book.specs.Checks.{figures_of, inside}
use Rattle.book.specs.Book.{beyond, fresh, place_of, sheet_if, sheet_in, in_force}
use Rattle.book.proofs.Places.{code_range, in_range}
use Rattle.stands.specs.Stands.{MayStand, HoldsValid, Fits}
use Rattle.stands.proofs.InForce.{holds}
use Rattle.standing.proofs.Told.{both}

-- 32 places, each by its index
abbrev pub EachStands : Option Sheet → List Place → Type 0
EachStands s ps = (length ps ≡ 32) × ((i : ℕ) → i < 32 → MayStand s (get_or ps i beyond))

by_code : (s : Option Sheet) (ps : List Place) → EachStands s ps → (k : ℕ) → inside k ≡ true → MayStand s (place_of ps k)
by_code s ps h zero o = absurd (omega (arith, (code_range 0 o).0))
by_code s ps h (suc i) o = h.1 i (omega (arith, (code_range (suc i) o).1))

module _ (b : Book) where
  pub each_place : Fits b → EachStands (in_force b) b.places
  each_place h = (h.size, λ i l. h.places (suc i) (in_range (suc i) (omega arith) (omega arith)))

  -- so each holds nothing or a valid tariff
  pub each_valid : Fits b → (i : ℕ) → i < 32 → HoldsValid (get_or b.places i beyond)
  each_valid h i l = let p = get_or b.places i beyond in holds (in_force b) p.state p ((each_place h).1 i l)

  -- the figures of a sheet that stands are lawful
  pub figures_lawful : Fits b → b.loaded ≡ true → Lawful b.benchmarks
  figures_lawful h l = let w = h.with_sheet l in subst Lawful (sym w.1) (lawful b.fields b.period w.0)

  -- with a sheet, and without
  pub with_fits : b.loaded ≡ true
      → ((set_check b.fields b.period ≡ Pass) × (b.benchmarks ≡ figures_of (sheet_in b))) → EachStands (sheet_if true (sheet_in b)) b.places → Fits b
  with_fits l w h =
      record {
        size = h.0;
        places = by_code (in_force b) b.places (subst (λ t. EachStands (sheet_if t (sheet_in b)) b.places) (sym l) h);
        without_sheet = λ m. both b.loaded l m;
        with_sheet = λ m. w;
      }

  pub without_fits : b.loaded ≡ false
      → ((b.fields ≡ fresh.fields) × (b.period ≡ fresh.period) × (b.benchmarks ≡ fresh.benchmarks)) → EachStands (sheet_if false (sheet_in b)) b.places → Fits b
  without_fits l w h =
      record {
        size = h.0;
        places = by_code (in_force b) b.places (subst (λ t. EachStands (sheet_if t (sheet_in b)) b.places) (sym l) h);
        without_sheet = λ m. w;
        with_sheet = λ m. both b.loaded m l;
      }

  pub each_as : (t : Bool) → b.loaded ≡ t → Fits b → EachStands (sheet_if t (sheet_in b)) b.places
  each_as t l h = subst (λ u. EachStands (sheet_if u (sheet_in b)) b.places) l (each_place h)
