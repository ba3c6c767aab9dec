-- An answer 11 names a cell of the desk: the tariff is one that the desk may use, and the cell one in which it is offered.
-- Assumes nothing.
use mathlib.Core.Path.{◌≡◌, refl, subst}
use mathlib.Core.Bool.{Bool, true, false, not}
use mathlib.Core.Option.{Option, none, some}
use Prim.Native.Nat.{ℕ}
use Rattle.refusal.specs.declared.Check.{Check}
use Rattle.refusal.specs.declared.Check.TheVariants.{Pass, Refuse}
use Rattle.refusal.specs.Checks.{checked, need, given}
use Rattle.benchmark.specs.declared.Benchmarks.{Benchmarks}
use Rattle.benchmark.specs.Benchmark.{set_check}
use Rattle.tariff.specs.declared.Tariff.{Tariff}
use Rattle.tariff.specs.Tariff.{record_check}
use Rattle.desks.specs.Desks.{is_full, in_desk, may_use}
use Rattle.verdict.specs.Cells.{Cell, verdict_at, verdict, first_over}
use Rattle.verdict.proofs.Meaning.{first_exceeds}
use Rattle.book.specs.Calls.{Act, SET, PUT, OPEN, CLOSE, DROP, UNDO, ASK, CONFIRM, DIRECT, Answer, accepted, cells, refused, over}
use Rattle.book.specs.Checks.{Holding, Readings, is_open, figures_of, inside, verdict_answer, opened_as, may_use_held, may_put, open_answer, answer}
use Rattle.book.specs.Book.{book_readings, step}
use Rattle.alike.specs.Full.{OverInside}
use Rattle.alike.proofs.Inside.{cell_inside}

module _ (desk : ℕ) where
  -- no cell outside the desk is named
  abbrev Inside : Answer → Type 0
  Inside accepted = Unit {0}
  Inside (cells n) = Unit {0}
  Inside (refused n) = Unit {0}
  Inside (over c months e) = in_desk desk c.region ≡ true

  -- by an answer behind a check, behind a test, or behind what may not be there
  checked_inside : (k : Check) (a : Answer) → Inside a → Inside (checked refused k a)
  checked_inside Pass a h = h
  checked_inside (Refuse n) a h = tt

  need_inside : (t : Bool) (n : ℕ) (a : Answer) → (t ≡ true → Inside a) → Inside (need refused t n a)
  need_inside true n a h = h refl
  need_inside false n a h = tt

  given_inside : {B : Type 0} (o : Option B) (n : ℕ) (f : B → Answer) → ((x : B) → Inside (f x)) → Inside (given refused o n f)
  given_inside none n f h = tt
  given_inside (some x) n f h = h x

  verdict_inside : (f : Benchmarks) (x : Tariff) → may_use desk x.regions ≡ true → Inside (verdict_answer (verdict f x))
  unfolding verdict
  verdict_inside f x may = go (first_over f x) refl
    where
      go : (o : Option Cell) → first_over f x ≡ o → Inside (verdict_answer (verdict_at f x o))
      go none e = tt
      go (some c) e = cell_inside desk x c may (first_exceeds f x c e).0

  opened_inside : (d : Bool) (f : Benchmarks) (x : Tariff) → may_use desk x.regions ≡ true → Inside (opened_as d f x)
  opened_inside true f x may = tt
  opened_inside false f x may = verdict_inside f x may

  module _ (r : Readings) where
    -- a call on a code that the desk may use
    code_inside : (k : ℕ) (f : Holding → Answer) → ((h : Holding) → may_use_held desk h ≡ true → Inside (f h))
        → Inside (need refused (inside k) 6 (given refused (r.held k) 9 (λ h. need refused (may_use_held desk h) 17 (f h))))
    code_inside k f e =
        need_inside (inside k) 6 _ (λ _. given_inside (r.held k) 9 _ (λ h. need_inside (may_use_held desk h) 17 (f h) (e h)))

    open_inside : (k : ℕ) → Inside (open_answer desk k (r.held k) r.sheet)
    open_inside k =
        code_inside k _
        (λ h may. need_inside (not h.is_open) 7 _ (λ _. given_inside r.sheet 10 _ (λ s. opened_inside h.is_directed (figures_of s) h.tariff may)))

    answer_inside : (a : Act) → Inside (answer desk r a)
    answer_inside (SET s) = need_inside (is_full desk) 17 _ (λ _. checked_inside (set_check s.fields s.period) _ tt)
    answer_inside (PUT k x) =
        need_inside (inside k) 6 _
        (λ _. need_inside (not (is_open (r.held k))) 7 _ (λ _. checked_inside (record_check x) _ (need_inside (may_put desk (r.held k) x) 17 _ (λ _. tt))))
    answer_inside (OPEN k) = open_inside k
    answer_inside (CLOSE k) = code_inside k _ (λ h _. need_inside h.is_open 12 _ (λ _. tt))
    answer_inside (DROP k) = code_inside k _ (λ h _. need_inside (not h.is_open) 7 _ (λ _. tt))
    answer_inside UNDO = need_inside (is_full desk) 17 _ (λ _. need_inside r.may_undo 15 _ (λ _. tt))
    answer_inside (ASK k) = open_inside k
    answer_inside (CONFIRM k) = code_inside k _ (λ h _. need_inside (not h.is_open) 7 _ (λ _. need_inside h.is_marked 16 _ (λ _. tt)))
    answer_inside (DIRECT k) =
        need_inside (is_full desk) 17 _
        (λ _. need_inside (inside k) 6 _ (λ _. given_inside (r.held k) 9 _ (λ h. need_inside (not h.is_open) 7 _ (λ _. tt))))

pub over_inside : OverInside
unfolding step
over_inside desk b a c months e h = subst (Inside desk) h (answer_inside desk (book_readings b) a)
