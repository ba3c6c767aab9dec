-- What OPEN and ASK answer, by what is read from the accepted calls: of a draft under a sheet in force, the verdict on it, unless it is under a
-- direction. And CONFIRM: of a marked draft, the number of its cells. And DIRECT.
-- Assumes nothing.
use mathlib.Core.Path.{◌≡◌, refl, sym, ◌∙◌, ap, subst, subst₂}
use mathlib.Core.Bool.{Bool, true, false, not, cond}
use mathlib.Core.Logic.{◌↔◌}
use mathlib.Core.List.{List}
use mathlib.Core.Option.{Option, none, some}
use Prim.Native.Nat.{ℕ, ◌<◌}
use native.Mathlib.Decide.{dec_lt}
use native.Mathlib.Omega.{arith}
use lib.IntN.{pos}
use lib.Signed.{◌≤ℤ◌}
use Rattle.laws.proofs.Differences.{difference_at_most}
use Rattle.laws.proofs.Never.{never}
use Rattle.refusal.specs.Checks.{need, given}
use Rattle.tariff.specs.declared.Tariff.{Tariff}
use Rattle.tariff.specs.Tariff.{valid_tariff}
use Rattle.tariff.proofs.Validity.{valid_regions, valid_methods}
use Rattle.desks.specs.Desks.{is_full, may_use}
use Rattle.cap.specs.declared.CellNumbers.{CellNumbers}
use Rattle.cap.specs.Cap.{charged, capped, excess, Months, Exceeds, worst_months}
use Rattle.cap.proofs.Deciding.{worst_months_lem, exceeds_if}
use Rattle.cap.proofs.Worst.{excess_most, exceeds_at_worst, each_worst}
use Rattle.verdict.specs.Cells.{Cell, Offered, cell_numbers, cell_count, verdict_at, verdict, first_over}
use Rattle.verdict.proofs.Meaning.{none_exceeds, first_exceeds}
use Rattle.verdict.proofs.Count.{cells_counted}
use Rattle.book.specs.Calls.{Sheet, Act, OPEN, CONFIRM, DIRECT, Answer, cells, refused, is_none}
use Rattle.book.specs.Checks.{figures_of, complies, inside, verdict_answer, opened_as, open_answer, answer}
use Rattle.history.specs.History.{sheet_of, tariff_at, directed_of, open_of, marked_of, held_as, readings_of}
use Rattle.claim.specs.Claim.{numbers_with, excess_in, MonthsOf, ExceedsSomewhere, Shows, DraftWhere, OutsideDesk, cells_offered, cells_answered, OpenAnswer, MarkedWith, ConfirmAnswer, DirectAnswer}

-- where a tariff does not exceed, no months are above the maximum
at_most : (e : CellNumbers) (x : Tariff) → (Exceeds e x → ⊥) → (months : List ℕ) → Months e.months months → excess e x months ≤ℤ pos 0
unfolding excess
at_most e x n months h = go (dec_lt (capped e months) (charged e x months))
  where
    go : Dec (capped e months < charged e x months) → excess e x months ≤ℤ pos 0
    go (yes l) = absurd (n (months, h, exceeds_if e x months l))
    go (no l) = difference_at_most (charged e x months) (capped e months) 0 0 (omega arith)

module _ (s : Sheet) (x : Tariff) where
  pub nowhere_above : first_over (figures_of s) x ≡ none
      → (c : Cell) → Offered x c → (months : List ℕ) → MonthsOf s months → excess_in s x c months ≤ℤ pos 0
  unfolding cell_numbers
  nowhere_above e c o months h = at_most (numbers_with s x c) x (none_exceeds (figures_of s) x e c o) months h

  -- what answer 11 shows
  shown : (c : Cell) → first_over (figures_of s) x ≡ some c
      → Shows s x c (worst_months (numbers_with s x c) x) (excess_in s x c (worst_months (numbers_with s x c) x))
  unfolding cell_numbers
  shown c e =
      let f = first_exceeds (figures_of s) x c e in
      let t = numbers_with s x c in
      record {
        cell = f.0;
        first = f.2;
        consumptions = worst_months_lem t x;
        greatest = λ others h. excess_most t x others h;
        smallest = each_worst t x;
        is_excess = refl;
        above = exceeds_at_worst t x f.1;
      }

  -- a first cell that exceeds, or none
  nowhere : first_over (figures_of s) x ≡ none → ExceedsSomewhere s x → ⊥
  nowhere e w = none_exceeds (figures_of s) x e w.0 w.1 w.2

  somewhere : (c : Cell) → first_over (figures_of s) x ≡ some c → ExceedsSomewhere s x
  somewhere c e = let f = first_exceeds (figures_of s) x c e in (c, f.0, f.1)

  -- what a SET asks of an open tariff, in History's `stays_open`: that it exceeds in no offered cell
  pub complies_exactly : (complies (figures_of s) x ≡ true) ↔ (ExceedsSomewhere s x → ⊥)
  complies_exactly = go (first_over (figures_of s) x) refl
    where
      go : (f : Option Cell) → first_over (figures_of s) x ≡ f → (is_none f ≡ true) ↔ (ExceedsSomewhere s x → ⊥)
      go none e = (λ q. nowhere e, λ n. refl)
      go (some c) e = (λ q. never (cc), λ n. absurd (n (somewhere c e)))

-- the number of cells of a valid tariff is that of the offered ones of the walk
cells_are : (x : Tariff) → valid_tariff x ≡ true → cell_count x ≡ cells_offered x
cells_are x v =
    let r = valid_regions x v in
    let m = valid_methods x v in
    sym (cells_counted x (omega arith) (omega arith))

same_count : {n m : ℕ} → cells n ≡ cells m → n ≡ m
same_count e = cc

-- the answer to an OPEN or ASK of code k by a desk, where a code with a tariff is one of the 32 and its tariff is valid
module _ (desk : ℕ) (log : List Act) (u : Bool) (k : ℕ) (known : (x : Tariff) → tariff_at log k ≡ some x → (inside k ≡ true) × (valid_tariff x ≡ true)) where
  abbrev AnyDraft : Type 0
  AnyDraft = DraftWhere desk log k (λ d s x. Unit {0})

  -- a refusal but 11, where there is no draft under a sheet that the desk may use
  refuses : (n : ℕ) → (n ≡ 11 → ⊥) → (AnyDraft → ⊥) → ((n ≡ 17) ↔ OutsideDesk desk log k) → OpenAnswer desk log k (refused n)
  refuses n other none_is out =
      record {
        over_exactly = (λ q. absurd (other (cc)), λ d. absurd (none_is (d.0, d.1, d.2, d.3, d.4, d.5, tt)));
        over_shows = λ q. absurd (other (cc));
        accepted_exactly = λ m. (λ q. never (cc), λ d. absurd (none_is (d.0, d.1, d.2, d.3, d.4, d.5, tt)));
        outside_exactly = (λ q. out.0 (cc), λ d. ap some (out.1 d));
      }

  -- one before 11, to a desk that no tariff of the code keeps out
  earlier : (n : ℕ) → n < 11 → (AnyDraft → ⊥) → (OutsideDesk desk log k → ⊥) → OpenAnswer desk log k (refused n)
  earlier n l none_is not-out = refuses n (λ e. omega arith) none_is (λ e. absurd (omega arith), λ d. absurd (not-out d))

  -- the code has tariff x
  module _ (x : Tariff) (ft : tariff_at log k ≡ some x) where
    may_be : (m : Bool) → may_use desk x.regions ≡ m → (d : Tariff) → tariff_at log k ≡ some d → may_use desk d.regions ≡ m
    may_be m e d f = let same : x ≡ d = cc in rw same at e

    -- 17
    outside : may_use desk x.regions ≡ false → OpenAnswer desk log k (refused 17)
    outside e = refuses 17 (λ q. omega arith) (λ d. never (let z = may_be false e d.1 d.3 in let w = d.4 in cc)) (λ q. (x, ft, e), λ d. refl)

    inside_desk : may_use desk x.regions ≡ true → OutsideDesk desk log k → ⊥
    inside_desk e d = never (let z = may_be true e d.0 d.1 in let w = d.2 in cc)

    -- a draft under a sheet, which the desk may use
    module _ (s : Sheet) (fs : sheet_of log ≡ some s) (fm : may_use desk x.regions ≡ true) (fo : open_of log k ≡ false) where
      same : (P : Bool → Sheet → Tariff → Type 0) → DraftWhere desk log k P → P (directed_of log k) s x
      same P d =
          let es : sheet_of log ≡ some d.0 = d.2 in
          let et : tariff_at log k ≡ some d.1 = d.3 in
          subst₂ (P (directed_of log k)) (cc) (cc) d.6

      abbrev Over : Bool → Sheet → Tariff → Type 0
      Over d s x = (d ≡ false) × ExceedsSomewhere s x

      abbrev Passes : ℕ → Bool → Sheet → Tariff → Type 0
      Passes n d s x = (d ≡ false → ExceedsSomewhere s x → ⊥) × (n ≡ cells_answered d x)

      -- accepted, with a number of cells
      passed : (n : ℕ) → (directed_of log k ≡ false → ExceedsSomewhere s x → ⊥) → n ≡ cells_answered (directed_of log k) x → OpenAnswer desk log k (cells n)
      passed n within counted =
          record {
            over_exactly = (λ q. never (cc), λ d. let w = same Over d in absurd (within w.0 w.1));
            over_shows = λ q. never (cc);
            accepted_exactly = λ m. (
              λ q. (s, x, fs, ft, fm, fo, (within, sym (same_count q) ∙ counted)),
              λ d. ap cells (counted ∙ sym (same (Passes m) d).1),
            );
            outside_exactly = (λ q. never (cc), λ d. absurd (inside_desk fm d));
          }

      -- under a direction, 0 cells; and else the verdict
      directed : directed_of log k ≡ true → OpenAnswer desk log k (cells 0)
      directed fd = passed 0 (λ q. never (cc)) (sym (ap (λ d. cells_answered d x) fd))

      found : directed_of log k ≡ false → (f : Option Cell) → first_over (figures_of s) x ≡ f
          → OpenAnswer desk log k (verdict_answer (verdict_at (figures_of s) x f))
      found fd none e = passed (cell_count x) (λ q. nowhere s x e) (cells_are x (known x ft).1 ∙ sym (ap (λ d. cells_answered d x) fd))
      found fd (some c) e =
          record {
            over_exactly = (λ q. (s, x, fs, ft, fm, fo, (fd, somewhere s x c e)), λ d. refl);
            over_shows = λ q. (c, _, _, refl, (s, x, fs, ft, fm, fo, shown s x c e));
            accepted_exactly = λ n. (λ q. never (cc), λ d. absurd ((same (Passes n) d).0 fd (somewhere s x c e)));
            outside_exactly = (λ q. absurd (let z : ◌≡◌ {A = ℕ} 11 17 = cc in omega arith), λ d. absurd (inside_desk fm d));
          }

      judged : directed_of log k ≡ false → OpenAnswer desk log k (verdict_answer (verdict (figures_of s) x))
      unfolding verdict
      judged fd = found fd (first_over (figures_of s) x) refl

  -- whether the desk may use the code's tariff, if it has one
  abbrev may_of : Option Tariff → Bool
  may_of none = true
  may_of (some x) = may_use desk x.regions

  -- OPEN's answer, of each thing that its checks look at; so its cases are proved without a rewriting of the readings
  abbrev opened : (i : Bool) (t : Option Tariff) (a o d : Bool) → Option Sheet → Answer
  opened i t a o d f =
      need refused i 6 (given refused t 9 (λ x. need refused a 17 (need refused (not o) 7 (given refused f 10 (λ s. opened_as d (figures_of s) x)))))

  opened_is : (t : Option Tariff) (o m d : Bool) (f : Option Sheet) → opened (inside k) t (may_of t) o d f ≡ open_answer desk k (held_as t o m d) f
  opened_is none o m d f = refl
  opened_is (some x) o m d f = refl

  open_cases : (i : Bool) (t : Option Tariff) (a o d : Bool) (f : Option Sheet)
      → inside k ≡ i → tariff_at log k ≡ t → may_of t ≡ a → open_of log k ≡ o → directed_of log k ≡ d → sheet_of log ≡ f
      → OpenAnswer desk log k (opened i t a o d f)
  open_cases false t a o d f ei et ea eo ed ef =
      earlier 6 (omega arith) (λ d. let e = (known d.1 d.3).0 in never (cc)) (λ d. let e = (known d.0 d.1).0 in never (cc))
  open_cases true none a o d f ei et ea eo ed ef = earlier 9 (omega arith) (λ d. let e = d.3 in never (cc)) (λ d. let e = d.1 in never (cc))
  open_cases true (some x) false o d f ei et ea eo ed ef = outside x et ea
  open_cases true (some x) true true d f ei et ea eo ed ef = earlier 7 (omega arith) (λ d. let e = d.5 in never (cc)) (inside_desk x et ea)
  open_cases true (some x) true false d none ei et ea eo ed ef = earlier 10 (omega arith) (λ d. let e = d.2 in never (cc)) (inside_desk x et ea)
  open_cases true (some x) true false true (some s) ei et ea eo ed ef = directed x et s ef ea eo ed
  open_cases true (some x) true false false (some s) ei et ea eo ed ef = judged x et s ef ea eo ed

  pub open_answer_lem : OpenAnswer desk log k (answer desk (readings_of log u) (OPEN k))
  open_answer_lem =
      subst (OpenAnswer desk log k) (opened_is (tariff_at log k) (open_of log k) (marked_of log k) (directed_of log k) (sheet_of log))
      (open_cases (inside k) (tariff_at log k) (may_of (tariff_at log k)) (open_of log k) (directed_of log k) (sheet_of log) refl refl refl refl refl refl)

  -- the answer to a CONFIRM, where a marked code is a draft
  pub confirm_answer_lem : ((x : Tariff) → tariff_at log k ≡ some x → marked_of log k ≡ true → open_of log k ≡ false)
      → ConfirmAnswer desk log k (answer desk (readings_of log u) (CONFIRM k))
  confirm_answer_lem shut n = go (inside k) (tariff_at log k) (may_of (tariff_at log k)) (open_of log k) (marked_of log k) refl refl refl refl refl
    where
      go : (i : Bool) (t : Option Tariff) (a o m : Bool)
          → inside k ≡ i → tariff_at log k ≡ t → may_of t ≡ a → open_of log k ≡ o → marked_of log k ≡ m
          → (answer desk (readings_of log u) (CONFIRM k) ≡ cells n) ↔ MarkedWith desk log k n
      go false t a o m ei et ea eo em = rw ei (λ q. never (cc), λ d. let e = (known d.0 d.1).0 in never (cc))
      go true none a o m ei et ea eo em = rw (ei, et) (λ q. never (cc), λ d. let e = d.1 in never (cc))
      go true (some x) false o m ei et ea eo em =
          rw (ei, et, ea) (λ q. never (cc), λ d. never (let z = may_be x et false ea d.0 (et ∙ d.1) in let w = d.2 in cc))
      go true (some x) true true m ei et ea eo em =
          rw (ei, et, ea, eo) (λ q. never (cc), λ d. let e = shut d.0 (et ∙ d.1) d.3 in never (cc))
      go true (some x) true false false ei et ea eo em = rw (ei, et, ea, eo, em) (λ q. never (cc), λ d. let e = d.3 in never (cc))
      go true (some x) true false true ei et ea eo em =
          let count = ap (cond (directed_of log k) 0) (cells_are x (known x et).1) in
          rw (ei, et, ea, eo, em) (
            λ q. (x, refl, ea, refl, sym (same_count q) ∙ count),
            λ d. let same : x ≡ d.0 = (let e = d.1 in cc) in ap cells (count ∙ ap (cells_answered (directed_of log k)) same ∙ sym d.4),
          )

  -- the answer to a DIRECT
  pub direct_answer_lem : DirectAnswer desk log k (answer desk (readings_of log u) (DIRECT k))
  direct_answer_lem = go (is_full desk) (inside k) (tariff_at log k) (open_of log k) refl refl refl refl
    where
      go : (f i : Bool) (t : Option Tariff) (o : Bool) → is_full desk ≡ f → inside k ≡ i → tariff_at log k ≡ t → open_of log k ≡ o
          → DirectAnswer desk log k (answer desk (readings_of log u) (DIRECT k))
      go false i t o ef ei et eo = rw ef (λ q. never (cc), λ d. let e = d.0 in never (cc))
      go true false t o ef ei et eo = rw (ef, ei) (λ q. never (cc), λ d. let e = (known d.1 d.2).0 in never (cc))
      go true true none o ef ei et eo = rw (ef, ei, et) (λ q. never (cc), λ d. let e = d.2 in never (cc))
      go true true (some x) true ef ei et eo = rw (ef, ei, et, eo) (λ q. never (cc), λ d. let e = d.3 in never (cc))
      go true true (some x) false ef ei et eo = rw (ef, ei, et, eo) (λ q. (refl, x, refl, refl), λ d. refl)
