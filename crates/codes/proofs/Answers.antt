-- The answers of OPEN, ASK, CONFIRM, CLOSE and DROP by the checks that the code makes on the place of the code.
-- Assumes nothing.
use mathlib.Core.Path.{◌≡◌, refl, sym, ◌∙◌, ap}
use mathlib.Core.Bool.{Bool, true, false, not}
use Prim.Native.Nat.{ℕ, suc, ◌<◌}
use lib.ListN.{get_or}
use Rattle.refusal.specs.declared.Check.{Check}
use Rattle.refusal.specs.declared.Check.TheVariants.{Pass, Refuse}
use Rattle.refusal.specs.Checks.{unless, first, checked, need, given}
use Rattle.benchmark.specs.declared.Benchmarks.{Benchmarks}
use Rattle.tariff.specs.declared.Tariff.{Tariff}
use Rattle.desks.specs.Desks.{may_use}
use Rattle.book.specs.declared.State.{State}
use Rattle.book.specs.declared.State.TheVariants.{Empty, Draft, Marked, Open}
use Rattle.book.specs.declared.Place.{Place}
use Rattle.book.specs.declared.Settled.{Settled}
use Rattle.book.specs.declared.Book.{Book}
use Rattle.book.specs.Calls.{Sheet, OPEN, by, Answer, accepted, refused}
use Rattle.book.specs.Checks.{figures_of, inside, opened_as, confirmed_as, may_use_held, answer}
use Rattle.book.specs.Book.{tariff_in, beyond, place_of, held_in, sheet_if, sheet_in, in_force, book_readings, with_place, changed, Reachable}
use Rattle.book.specs.Promises.{Does}
use Rattle.book.specs.Settling.{empty_check, open_check, closed_check, mark_check, settled_in}
use Rattle.book.proofs.Steps.{read_there, settles_does}
use Rattle.stands.proofs.InForce.{figures_are, figures_lawful, holds_at}
use Rattle.opening.specs.Opening.{usable_check, open_rest}
use Rattle.codes.specs.declared.CodeAct.{CodeAct}
use Rattle.codes.specs.declared.CodeAct.TheVariants as act
use Rattle.codes.specs.Codes.{act_on, rest_on, next_on, place_on, SettlesOn, Judgeable, Handed}

-- an answer behind 17, by its check
behind_17 : (m : Bool) (a : Answer) (c : Check) (next : Answer) → a ≡ checked refused c next
    → need refused m 17 a ≡ checked refused (first (unless m 17 Pass) c) next
behind_17 true a c next e = e
behind_17 false a c next e = refl

-- each call's table is its checks, one after the other
module _ (desk : ℕ) (directed : Bool) (x : Tariff) where
  abbrev may : Bool
  may = may_use desk x.regions

  close_table : (t : Bool) (s : State)
      → need refused t 6 (given refused (held_in s directed x) 9 (λ h. need refused (may_use_held desk h) 17 (need refused h.is_open 12 accepted)))
      ≡ checked refused (first (unless t 6 Pass) (first (empty_check s) (first (unless may 17 Pass) (closed_check s)))) accepted
  close_table false s = refl
  close_table true Empty = refl
  close_table true Draft = behind_17 may _ (Refuse 12) accepted refl
  close_table true Marked = behind_17 may _ (Refuse 12) accepted refl
  close_table true Open = behind_17 may _ Pass accepted refl

  drop_table : (t : Bool) (s : State)
      → need refused t 6 (given refused (held_in s directed x) 9 (λ h. need refused (may_use_held desk h) 17 (need refused (not h.is_open) 7 accepted)))
      ≡ checked refused (first (unless t 6 Pass) (first (empty_check s) (first (unless may 17 Pass) (open_check s)))) accepted
  drop_table false s = refl
  drop_table true Empty = refl
  drop_table true Draft = behind_17 may _ Pass accepted refl
  drop_table true Marked = behind_17 may _ Pass accepted refl
  drop_table true Open = behind_17 may _ (Refuse 7) accepted refl

  confirm_table : (t : Bool) (s : State)
      → need refused t 6 (given refused (held_in s directed x) 9 (λ h. need refused (may_use_held desk h) 17 (need refused (not h.is_open) 7 (need refused h.is_marked 16 (confirmed_as h.is_directed h.tariff)))))
      ≡ checked refused (first (unless t 6 Pass) (first (empty_check s) (first (unless may 17 Pass) (first (open_check s) (mark_check s))))) (confirmed_as directed x)
  confirm_table false s = refl
  confirm_table true Empty = refl
  confirm_table true Draft = behind_17 may _ (Refuse 16) (confirmed_as directed x) refl
  confirm_table true Marked = behind_17 may _ Pass (confirmed_as directed x) refl
  confirm_table true Open = behind_17 may _ (Refuse 7) (confirmed_as directed x) refl

  module _ (sheet : Sheet) (f : Benchmarks) where
    abbrev judged : Answer
    judged = opened_as directed f x

    sheet_table : (l : Bool) → (l ≡ true → f ≡ figures_of sheet)
        → given refused (sheet_if l sheet) 10 (λ d. opened_as directed (figures_of d) x) ≡ checked refused (unless l 10 Pass) judged
    sheet_table false e = refl
    sheet_table true e = ap (λ g. opened_as directed g x) (sym (e refl))

    open_table : (t : Bool) (s : State) (l : Bool) → (l ≡ true → f ≡ figures_of sheet)
        → need refused t 6 (given refused (held_in s directed x) 9 (λ h. need refused (may_use_held desk h) 17 (need refused (not h.is_open) 7 (given refused (sheet_if l sheet) 10 (λ d. opened_as h.is_directed (figures_of d) h.tariff)))))
        ≡ checked refused (first (unless t 6 Pass) (first (empty_check s) (first (unless may 17 Pass) (first (open_check s) (unless l 10 Pass))))) judged
    open_table false s l e = refl
    open_table true Empty l e = refl
    open_table true Open l e = behind_17 may _ (Refuse 7) judged refl
    open_table true Draft l e = behind_17 may _ (unless l 10 Pass) judged (sheet_table l e)
    open_table true Marked l e = behind_17 may _ (unless l 10 Pass) judged (sheet_table l e)

-- the place at the index of the code
module _ (desk : ℕ) (b : Book) (k at : ℕ) (p : Place) (index : inside k ≡ true → suc at ≡ k) (there : get_or b.places at beyond ≡ p) where
  open_there : Reachable b → answer desk (book_readings b) (OPEN k) ≡ checked refused (usable_check desk k p (open_rest p.state b.loaded)) (opened_as p.directed b.benchmarks (tariff_in p))
  open_there f =
      read_there b k at p index there refused (λ o. given refused o 9 (λ h. need refused (may_use_held desk h) 17 (need refused (not h.is_open) 7 (given refused (in_force b) 10 (λ d. opened_as h.is_directed (figures_of d) h.tariff)))))
      ∙ open_table desk p.directed (tariff_in p) (sheet_in b) b.benchmarks (inside k) p.state b.loaded (figures_are b f)

  act_answer : (a : CodeAct) → Handed a b
      → answer desk (book_readings b) (act_on a k) ≡ checked refused (usable_check desk k p (rest_on a p.state b.loaded)) (next_on a b.benchmarks p)
  act_answer act.Open f = open_there f
  act_answer act.Ask f = open_there f
  act_answer act.Confirm f =
      read_there b k at p index there refused (λ o. given refused o 9 (λ h. need refused (may_use_held desk h) 17 (need refused (not h.is_open) 7 (need refused h.is_marked 16 (confirmed_as h.is_directed h.tariff)))))
      ∙ confirm_table desk p.directed (tariff_in p) (inside k) p.state
  act_answer act.Close f =
      read_there b k at p index there refused (λ o. given refused o 9 (λ h. need refused (may_use_held desk h) 17 (need refused h.is_open 12 accepted)))
      ∙ close_table desk p.directed (tariff_in p) (inside k) p.state
  act_answer act.Drop f =
      read_there b k at p index there refused (λ o. given refused o 9 (λ h. need refused (may_use_held desk h) 17 (need refused (not h.is_open) 7 accepted)))
      ∙ drop_table desk p.directed (tariff_in p) (inside k) p.state

  act_changes : (a : CodeAct) → changed b (act_on a k) ≡ with_place b k (place_on a (place_of b.places k))
  act_changes act.Open = refl
  act_changes act.Close = refl
  act_changes act.Drop = refl
  act_changes act.Ask = refl
  act_changes act.Confirm = refl

  pub act_does : (a : CodeAct) (r : Settled) → Handed a b
      → SettlesOn a desk k p b.loaded b.benchmarks r → Does b (by desk (act_on a k)) (settled_in b at r)
  act_does a r f h =
      settles_does b k at p index there (by desk (act_on a k)) Pass (first (empty_check p.state) (first (unless (may_use desk p.regions) 17 Pass) (rest_on a p.state b.loaded)))
      (next_on a b.benchmarks p) (place_on a) r (act_answer a f) (act_changes a) h

-- what OPEN and ASK ask of the place and the figures, a reachable book has
pub judgeable : (a : CodeAct) (b : Book) (at : ℕ) → at < 32 → Handed a b → Judgeable a (get_or b.places at beyond) b.loaded b.benchmarks
judgeable act.Open b at l h = (figures_lawful b h, holds_at b h at l)
judgeable act.Close b at l h = tt
judgeable act.Drop b at l h = tt
judgeable act.Ask b at l h = (figures_lawful b h, holds_at b h at l)
judgeable act.Confirm b at l h = tt
