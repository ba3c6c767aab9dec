-- What is known of an account where the place of its code is at hand: what QUOTE tells of it, whether its tariff is open under a direction, and
-- the scale of its rebate.
-- Assumes nothing.
use mathlib.Core.Path.{◌≡◌, refl, sym, ◌∙◌, ap, ap₂, subst}
use mathlib.Core.Bool.{Bool, true, false, ◌&&◌}
use mathlib.Core.Option.{Option, none, some}
use Prim.Native.Nat.{ℕ, ◌≤◌, ◌<◌}
use borrow.Author.Tests.{le-leb, lt-leb}
use Rattle.laws.proofs.Never.{never}
use Rattle.refusal.specs.declared.Check.{Check}
use Rattle.refusal.specs.declared.Check.TheVariants.{Pass, Refuse}
use Rattle.refusal.specs.Checks.{checked}
use Rattle.refusal.proofs.Checks.{unless_passes, first_passes}
use Rattle.benchmark.specs.declared.Benchmarks.{Benchmarks}
use Rattle.tariff.specs.declared.Tariff.{Tariff}
use Rattle.charge.specs.Most.{months_most}
use Rattle.cap.specs.declared.CellNumbers.{CellNumbers}
use Rattle.cap.specs.Cap.{scale, charged, capped}
use Rattle.verdict.specs.Cells.{cell, tariff_numbers}
use Rattle.book.specs.declared.State.{State}
use Rattle.book.specs.declared.State.TheVariants.{Empty, Draft, Marked, Open}
use Rattle.book.specs.declared.Place.{Place}
use Rattle.book.specs.declared.Book.{Book}
use Rattle.book.specs.Calls.{Sheet}
use Rattle.book.specs.Checks.{Holding, figures_of, inside}
use Rattle.book.specs.Book.{place_of, tariff_in, held_in, held, holding, sheet_if, sheet_in, in_force, book_readings}
use Rattle.book.specs.Settling.{code_check, empty_check, HasPlace}
use Rattle.book.proofs.Places.{held_inside}
use Rattle.stands.proofs.Kept.{reachable_fits}
use Rattle.stands.proofs.Placed.{figures_there}
use Rattle.queries.specs.Queries.{Quotation, Telling, refused, benchmark_charge, maximum_charge, quotation, falling}
use Rattle.quoting.specs.Quote.{quotation_in, quote_of}
use Rattle.quoting.specs.Reading.{check_at}
use Rattle.quoting.proofs.Answers.{Passes, passes, quote_there}
use Rattle.rebates.specs.declared.Account.{Account}
use Rattle.rebates.specs.Rebates.{months_in, quoted_of, is_refused, open_directed, rebate_of, scale_with, scale_for, due_by, due_of}

-- a check that refuses is a refusal of QUOTE
abbrev pub is_refusal : Check → Bool
is_refusal Pass = false
is_refusal (Refuse n) = true

refusal_told_lem : (c : Check) (q : Quotation) → is_refused (checked refused c (quotation q)) ≡ is_refusal c
refusal_told_lem Pass q = refl
refusal_told_lem (Refuse n) q = refl

told_behind : (c : Check) (q r : Quotation) → quotation q ≡ checked refused c (quotation r) → c ≡ Pass
told_behind Pass q r e = refl
told_behind (Refuse n) q r e = never (cc)

-- the figures told
abbrev pub figures_in : Telling → Quotation
figures_in (refused n) = record { charge = 0; maximum = 0 }
figures_in (benchmark_charge mills) = record { charge = 0; maximum = 0 }
figures_in (maximum_charge f) = record { charge = 0; maximum = 0 }
figures_in (quotation q) = q
figures_in (falling codes) = record { charge = 0; maximum = 0 }

-- a place that is not empty holds its tariff
filled_holds : (q : State) (d : Bool) (x : Tariff) → empty_check q ≡ Pass → (h : Holding) × (held_in q d x ≡ some h) × (h.tariff ≡ x)
filled_holds Empty d x e = never (cc)
filled_holds Draft d x e = (holding x false false d, refl, refl)
filled_holds Marked d x e = (holding x false true d, refl, refl)
filled_holds Open d x e = (holding x true false d, refl, refl)

module _ {b : Book} {k i : ℕ} {p : Place} {loaded : Bool} {f : Benchmarks} (there : HasPlace b k i p loaded f) where
  pub place_there : inside k ≡ true → place_of b.places k ≡ p
  place_there e = subst (λ j. place_of b.places j ≡ p) (there.index e) there.place

  -- whether the tariff of the code is open under a direction
  pub directed_there : open_directed ((book_readings b).held k) ≡ (inside k && open_directed (held p))
  directed_there = go (inside k) refl
    where
      outside : (o : Option Holding) → held (place_of b.places k) ≡ o → inside k ≡ false → open_directed o ≡ false
      outside none r e = refl
      outside (some h) r e =
          let in-book = held_inside b.places k h (reachable_fits b there.reachable).size r in never (cc)

      go : (t : Bool) → inside k ≡ t → open_directed (held (place_of b.places k)) ≡ (t && open_directed (held p))
      go true e = ap (λ (q : Place). open_directed (held q)) (place_there e)
      go false e = outside (held (place_of b.places k)) refl e

-- the rebate due, by what QUOTE tells
pub due_by_lem : (b : Book) (desk : ℕ) (a : Account) (t : Telling) → quoted_of b desk a ≡ t → due_of b desk a ≡ due_by t (scale_for b a)
unfolding due_of
due_by_lem b desk a t e = ap (λ (u : Telling). due_by u (scale_for b a)) e

-- an account with more months than places for them, and one with a list
pub too_many : (b : Book) (desk : ℕ) (a : Account) → months_most < a.count → quoted_of b desk a ≡ refused 13
unfolding quoted_of
too_many b desk a h = rw (lt-leb a.count months_most h)

pub listed : (b : Book) (desk : ℕ) (a : Account) → a.count ≤ months_most → quoted_of b desk a ≡ quote_of b desk a.code a.region a.method (months_in a)
unfolding quoted_of
listed b desk a h = rw (le-leb a.count months_most h)

module _ {b : Book} {i : ℕ} {p : Place} {loaded : Bool} {f : Benchmarks} (desk : ℕ) (a : Account) (there : HasPlace b a.code i p loaded f) (few : a.count ≤ months_most) where
  abbrev pub check : Check
  check = check_at desk a.code p loaded f.months a.region a.method (months_in a)

  -- the numbers of the cell, and both figures
  abbrev pub numbers : CellNumbers
  numbers = tariff_numbers f (tariff_in p) (cell a.region a.method)

  abbrev pub sides : CellNumbers → Quotation
  sides e = record { charge = charged e (tariff_in p) (months_in a); maximum = capped e (months_in a) }

  told_there : quoted_of b desk a ≡ checked refused check (quotation (quotation_in (sheet_in b) (tariff_in p) a.region a.method (months_in a)))
  told_there = listed b desk a few ∙ quote_there there desk a.region a.method (months_in a)

  pub refused_there : is_refused (quoted_of b desk a) ≡ is_refusal check
  refused_there = ap is_refused told_there ∙ refusal_told_lem check _

  -- by the outcome of the checks, made for the sheet's number of months
  pub refused_by : (t : ℕ) → f.months ≡ t → (c : Check) → check_at desk a.code p loaded t a.region a.method (months_in a) ≡ c
      → is_refusal c ≡ is_refused (quoted_of b desk a)
  refused_by t e c k =
      sym (refused_there ∙ ap is_refusal (ap (λ (n : ℕ). check_at desk a.code p loaded n a.region a.method (months_in a)) e ∙ k))

  -- two figures are told behind the checks alone
  pub passes_told : (q : Quotation) → quoted_of b desk a ≡ quotation q → check ≡ Pass
  passes_told q e = told_behind check q _ (sym e ∙ told_there)

  -- past the checks
  module _ (e : check ≡ Pass) where
    pub past : Passes p loaded f.months a.region a.method (months_in a)
    past = passes there desk a.region a.method (months_in a) e

    pub figures_are : f ≡ figures_of (sheet_in b)
    figures_are = figures_there there past.loaded

    pub sheet_there : in_force b ≡ some (sheet_in b)
    sheet_there = ap (λ (l : Bool). sheet_if l (sheet_in b)) (there.is_loaded ∙ past.loaded)

    pub tariff_there : (h : Holding) × ((book_readings b).held a.code ≡ some h) × (h.tariff ≡ tariff_in p)
    tariff_there =
        let known = (unless_passes (inside a.code) 6 Pass (first_passes (code_check a.code) _ e).0).0 in
        let h = filled_holds p.state p.directed (tariff_in p) past.filled in
        (h.0, ap held (place_there there known) ∙ h.1, h.2)

    pub quoted_there : quoted_of b desk a ≡ quotation (sides numbers)
    quoted_there =
        told_there
        ∙ ap (λ c. checked refused c (quotation (quotation_in (sheet_in b) (tariff_in p) a.region a.method (months_in a)))) e
        ∙ ap (λ (g : Benchmarks). quotation (sides (tariff_numbers g (tariff_in p) (cell a.region a.method)))) (sym figures_are)

    pub scale_there : scale_for b a ≡ scale numbers
    unfolding scale_for
    scale_there =
        ap₂ (λ (s : Option Sheet) (h : Option Holding). scale_with s h a) sheet_there tariff_there.1
        ∙ ap₂ (λ (g : Benchmarks) (x : Tariff). scale (tariff_numbers g x (cell a.region a.method))) (sym figures_are) tariff_there.2

    pub due_there : due_of b desk a ≡ rebate_of (scale numbers) (sides numbers)
    due_there = due_by_lem b desk a _ quoted_there ∙ ap (λ (n : ℕ). rebate_of n (sides numbers)) scale_there
