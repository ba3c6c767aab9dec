-- The checks of SET, PUT, OPEN, CLOSE, DROP, UNDO, ASK, CONFIRM and DIRECT: a line a call, in the order of documents 01 and 02.
-- Assumes nothing.
use Rattle.std.specs.Prelude.{Bool, true, false, not, cond, ◌&&◌, ◌||◌, ℕ, leb}
use Rattle.std.proofs.Math.Option.{Option, none, some}
use Rattle.refusal.specs.Checks.{checked, need, given}
use Rattle.benchmark.specs.declared.Benchmarks.{Benchmarks}
use Rattle.benchmark.specs.Benchmark.{benchmarks_of, set_check}
use Rattle.tariff.specs.declared.Tariff.{Tariff}
use Rattle.tariff.specs.Tariff.{tariff_of, record_check}
use Rattle.desks.specs.Desks.{is_full, covers, may_use}
use Rattle.verdict.specs.Cells.{Verdict, opens, cell_count, verdict, first_over}
use Rattle.verdict.specs.Cells as verdicts
use Rattle.book.specs.Calls.{Sheet, Record, Act, SET, PUT, OPEN, CLOSE, DROP, UNDO, ASK, CONFIRM, DIRECT, Answer, accepted, cells, refused, over, is_none}

-- what a place holds: a tariff, whether it is open, whether it is a marked draft and whether it is under a direction
pub record Holding : Type 0 where
  pub tariff : Tariff
  pub is_open : Bool
  pub is_marked : Bool
  pub is_directed : Bool

-- what the checks of a call look at: the sheet in force, what the place of a code holds, or nothing, and whether there is a SET to
-- take back
pub record Readings : Type 0 where
  pub sheet : Option Sheet
  pub held : ℕ → Option Holding
  pub may_undo : Bool

abbrev pub is_open : Option Holding → Bool
is_open none = false
is_open (some h) = h.is_open

-- the figures of a sheet with its period
abbrev pub figures_of : Sheet → Benchmarks
figures_of s = benchmarks_of s.fields s.period

-- a tariff exceeds in no offered cell
abbrev pub complies : Benchmarks → Tariff → Bool
complies f x = is_none (first_over f x)

-- code 1 to 32
abbrev pub inside : ℕ → Bool
inside k = leb 1 k && leb k 32

-- 11: over the cap; "Else open; the answer carries the number of cells"
abbrev pub verdict_answer : Verdict → Answer
verdict_answer (opens n) = cells n
verdict_answer (verdicts.over c months e) = over c months e

-- M-108: of a tariff under a direction "OPEN and ASK then skip 11, they and CONFIRM answer 0 cells"
abbrev pub opened_as : (directed : Bool) → Benchmarks → Tariff → Answer
opened_as directed f x = cond directed (cells 0) (verdict_answer (verdict f x))

abbrev pub confirmed_as : (directed : Bool) → Tariff → Answer
confirmed_as directed x = cells (cond directed 0 (cell_count x))

-- 17, "outside the desk": of a call on a code, its tariff is not offered in the desk's regions alone. PUT "looks at the old draft and the new
-- tariff"
abbrev pub may_use_held : (desk : ℕ) → Holding → Bool
may_use_held desk h = may_use desk h.tariff.regions

abbrev pub covers_draft : (desk : ℕ) → Option Holding → Bool
covers_draft desk none = true
covers_draft desk (some h) = covers desk h.tariff.regions

abbrev pub may_put : (desk : ℕ) → Option Holding → Record → Bool
may_put desk held x = is_full desk || (covers_draft desk held && covers desk (tariff_of x).regions)

-- SET: 17: "Only a desk with all fourteen". 1 to 4, 14 and 5
abbrev pub set_answer : (desk : ℕ) → Sheet → Answer
set_answer desk s = need refused (is_full desk) 17 (checked refused (set_check s.fields s.period) accepted)

-- PUT. 6: code outside 1 to 32. 7: the place is open. 8: not such a record. 17
abbrev pub put_answer : (desk k : ℕ) → Option Holding → Record → Answer
put_answer desk k held x =
    need refused (inside k) 6
    (need refused (not (is_open held)) 7 (checked refused (record_check x) (need refused (may_put desk held x) 17 accepted)))

-- OPEN, and ASK, which "does the checks of OPEN, with its refusals". 6. 9: the place is empty. 17. 7. 10: no sheet. 11, without a direction
abbrev pub open_answer : (desk k : ℕ) → Option Holding → Option Sheet → Answer
open_answer desk k held sheet =
    need refused (inside k) 6
    (given refused held 9
    (λ h. need refused (may_use_held desk h) 17
    (need refused (not h.is_open) 7 (given refused sheet 10 (λ s. opened_as h.is_directed (figures_of s) h.tariff)))))

-- CLOSE. 6. 9. 17. 12: not open
abbrev pub close_answer : (desk k : ℕ) → Option Holding → Answer
close_answer desk k held =
    need refused (inside k) 6 (given refused held 9 (λ h. need refused (may_use_held desk h) 17 (need refused h.is_open 12 accepted)))

-- DROP. 6. 9. 17. 7
abbrev pub drop_answer : (desk k : ℕ) → Option Holding → Answer
drop_answer desk k held =
    need refused (inside k) 6 (given refused held 9 (λ h. need refused (may_use_held desk h) 17 (need refused (not h.is_open) 7 accepted)))

-- UNDO. 17, as of SET. 15: nothing to take back
abbrev pub undo_answer : (desk : ℕ) → Bool → Answer
undo_answer desk may_undo = need refused (is_full desk) 17 (need refused may_undo 15 accepted)

-- CONFIRM. 6. 9. 17. 7. 16: the draft is not marked. "Both answer the number of cells, as OPEN does"
abbrev pub confirm_answer : (desk k : ℕ) → Option Holding → Answer
confirm_answer desk k held =
    need refused (inside k) 6
    (given refused held 9
    (λ h. need refused (may_use_held desk h) 17
    (need refused (not h.is_open) 7 (need refused h.is_marked 16 (confirmed_as h.is_directed h.tariff)))))

-- the call that gives a direction: "17 comes first, then 6, 9 and 7"
abbrev pub direct_answer : (desk k : ℕ) → Option Holding → Answer
direct_answer desk k held =
    need refused (is_full desk) 17 (need refused (inside k) 6 (given refused held 9 (λ h. need refused (not h.is_open) 7 accepted)))

-- the answer that the checks of a desk's call give for such readings
abbrev pub answer : (desk : ℕ) → Readings → Act → Answer
answer desk r (SET s) = set_answer desk s
answer desk r (PUT k x) = put_answer desk k (r.held k) x
answer desk r (OPEN k) = open_answer desk k (r.held k) r.sheet
answer desk r (CLOSE k) = close_answer desk k (r.held k)
answer desk r (DROP k) = drop_answer desk k (r.held k)
answer desk r UNDO = undo_answer desk r.may_undo
answer desk r (ASK k) = open_answer desk k (r.held k) r.sheet
answer desk r (CONFIRM k) = confirm_answer desk k (r.held k)
answer desk r (DIRECT k) = direct_answer desk k (r.held k)
