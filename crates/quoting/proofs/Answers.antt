-- The answer of QUOTE by the checks that the code makes.
-- Assumes nothing.
use mathlib.Core.Path.{◌≡◌, refl, sym, ◌∙◌, ap, ap₂}
use mathlib.Core.Bool.{Bool, true, false, ◌&&◌}
use mathlib.Core.List.{List}
use Prim.Native.Nat.{ℕ, suc}
use lib.ListN.{get_or}
use Rattle.refusal.specs.declared.Check.{Check}
use Rattle.refusal.specs.declared.Check.TheVariants.{Pass}
use Rattle.refusal.specs.Checks.{unless, first, checked, need, given}
use Rattle.refusal.proofs.Checks.{need_checked, unless_passes, first_passes}
use Rattle.benchmark.specs.declared.Benchmarks.{Benchmarks}
use Rattle.tariff.specs.declared.Tariff.{Tariff}
use Rattle.tariff.specs.Tariff.{valid_tariff}
use Rattle.desks.specs.Desks.{may_use}
use Rattle.cap.specs.declared.CellNumbers.{CellNumbers}
use Rattle.cap.specs.Cap.{charged, capped}
use Rattle.book.specs.declared.State.{State}
use Rattle.book.specs.declared.State.TheVariants.{Empty, Draft, Marked, Open}
use Rattle.book.specs.declared.Place.{Place}
use Rattle.book.specs.declared.Book.{Book}
use Rattle.book.specs.Calls.{Sheet}
use Rattle.book.specs.Checks.{inside, may_use_held}
use Rattle.book.specs.Book.{tariff_in, beyond, held_in, sheet_if, sheet_in, in_force, Reachable}
use Rattle.book.specs.Settling.{code_check, empty_check, held_check, HasPlace}
use Rattle.book.proofs.Steps.{read_there}
use Rattle.stands.proofs.Placed.{place_valid}
use Rattle.queries.specs.Queries.{Telling, refused, quotation}
use Rattle.quoting.specs.Quote.{cell_allowed, months_allowed, quotation_in, quote_of}
use Rattle.quoting.specs.Reading.{quote_check, check_at}
use Rattle.queries.proofs.InForce.{months_are}

-- 13 and then 17, of a tariff
behind_13 : (t m : Bool) (told : Telling) → need refused t 13 (need refused m 17 told) ≡ checked refused (first (unless t 13 Pass) (unless m 17 Pass)) told
behind_13 true m told = need_checked refused m 17 told
behind_13 false m told = refl

-- 6, 9, 10, 13 and 17
module _ (desk : ℕ) (test : Sheet → Tariff → Bool) (told : Sheet → Tariff → Telling) where
  abbrev testing : Sheet → Tariff → Check
  testing s x = first (unless (test s x) 13 Pass) (unless (may_use desk x.regions) 17 Pass)

  quote_table : (t : Bool) (q : State) (directed : Bool) (x : Tariff) (l : Bool) (s : Sheet)
      → need refused t 6 (given refused (held_in q directed x) 9 (λ h. given refused (sheet_if l s) 10 (λ d. need refused (test d h.tariff) 13 (need refused (may_use_held desk h) 17 (told d h.tariff)))))
      ≡ checked refused (first (unless t 6 Pass) (first (empty_check q) (first (unless l 10 Pass) (testing s x)))) (told s x)
  quote_table false q directed x l s = refl
  quote_table true Empty directed x l s = refl
  quote_table true Draft directed x false s = refl
  quote_table true Draft directed x true s = behind_13 (test s x) (may_use desk x.regions) (told s x)
  quote_table true Marked directed x false s = refl
  quote_table true Marked directed x true s = behind_13 (test s x) (may_use desk x.regions) (told s x)
  quote_table true Open directed x false s = refl
  quote_table true Open directed x true s = behind_13 (test s x) (may_use desk x.regions) (told s x)

-- with the months that the book has beside its sheet
behind_10 : (l : Bool) (c d : Check) → (l ≡ true → c ≡ d) → first (unless l 10 Pass) c ≡ first (unless l 10 Pass) d
behind_10 true c d h = h refl
behind_10 false c d h = refl

quote_answer : (desk : ℕ) (b : Book) → Reachable b → (k r m : ℕ) (months : List ℕ) (at : ℕ) → (inside k ≡ true → suc at ≡ k)
    → let p = get_or b.places at beyond in
    quote_of b desk k r m months
    ≡ checked refused (check_at desk k p b.loaded b.benchmarks.months r m months)
    (quotation (quotation_in (sheet_in b) (tariff_in p) r m months))
unfolding quote_of
quote_answer desk b from k r m months at index =
    let p = get_or b.places at beyond in
    read_there b k at p index refl refused
    (λ o. given refused o 9 (λ h. given refused (in_force b) 10 (λ s. need refused (cell_allowed h.tariff r m && months_allowed s.period.months months) 13 (need refused (may_use_held desk h) 17 (quotation (quotation_in s h.tariff r m months))))))
    ∙ quote_table desk (λ s x. cell_allowed x r m && months_allowed s.period.months months) (λ s x. quotation (quotation_in s x r m months)) (inside k) p.state p.directed (tariff_in p) b.loaded (sheet_in b)
    ∙ ap (λ c. checked refused (held_check k p.state c) (quotation (quotation_in (sheet_in b) (tariff_in p) r m months)))
    (behind_10 b.loaded _ _ (λ l. ap (λ t. quote_check desk t (tariff_in p) r m months) (sym (months_are b from l))))

-- the same for the place that a book has at the index of the code
pub quote_there : {b : Book} {k i : ℕ} {p : Place} {loaded : Bool} {f : Benchmarks} → HasPlace b k i p loaded f → (desk r m : ℕ) (months : List ℕ)
    → quote_of b desk k r m months
    ≡ checked refused (check_at desk k p loaded f.months r m months)
    (quotation (quotation_in (sheet_in b) (tariff_in p) r m months))
quote_there {b} {k} {i} h desk r m months =
    quote_answer desk b h.reachable k r m months i h.index
    ∙ (λ j. checked refused (check_at desk k (h.place j) (h.is_loaded j) (h.has_figures j).months r m months)
    (quotation (quotation_in (sheet_in b) (tariff_in (h.place j)) r m months)))

-- past the checks of a place that holds nothing or a valid tariff, as each of a book that calls leave does: its tariff is valid, a sheet is
-- loaded, and cell and months are allowed
pub record Passes (p : Place) (sheet : Bool) (t r m : ℕ) (months : List ℕ) : Type 0 where
  pub filled : empty_check p.state ≡ Pass
  pub valid : valid_tariff (tariff_in p) ≡ true
  pub loaded : sheet ≡ true
  pub allows : (cell_allowed (tariff_in p) r m && months_allowed t months) ≡ true

module _ (desk k : ℕ) (p : Place) (loaded : Bool) (t r m : ℕ) (months : List ℕ) where
  pub passes_with : (empty_check p.state ≡ Pass → valid_tariff (tariff_in p) ≡ true) → check_at desk k p loaded t r m months ≡ Pass
      → Passes p loaded t r m months
  passes_with valid e =
      let past-6 = first_passes (code_check k) _ e in
      let past-9 = first_passes (empty_check p.state) _ past-6.1 in
      let past-10 = first_passes (unless loaded 10 Pass) _ past-9.1 in
      record {
        filled = past-9.0;
        valid = valid past-9.0;
        loaded = (unless_passes _ 10 Pass past-10.0).0;
        allows = (unless_passes (cell_allowed (tariff_in p) r m && months_allowed t months) 13 Pass (first_passes _ _ past-10.1).0).0;
      }

pub passes : {b : Book} {k i : ℕ} {p : Place} {loaded : Bool} {f : Benchmarks} → HasPlace b k i p loaded f → (desk r m : ℕ) (months : List ℕ)
    → check_at desk k p loaded f.months r m months ≡ Pass → Passes p loaded f.months r m months
passes {b} {k} {i} {p} {loaded} {f} h desk r m months e = passes_with desk k p loaded f.months r m months (place_valid h) e

-- both sides, for the numbers of the cell and the tariff
pub sides : (months : List ℕ) (n m : ℕ) (e d : CellNumbers) (x y : Tariff) → n ≡ charged e x months → m ≡ capped e months → e ≡ d → x ≡ y
    → quotation (record { charge = n; maximum = m }) ≡ quotation (record { charge = charged d y months; maximum = capped d months })
sides months n m e d x y p q f g = λ i. quotation (record { charge = (p ∙ ap₂ (λ (k : CellNumbers) (z : Tariff). charged k z months) f g) i; maximum = (q ∙ ap (λ (k : CellNumbers). capped k months) f) i })
