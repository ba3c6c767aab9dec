-- OPEN equals ASK and, where that is accepted, CONFIRM, on every reachable book and for every desk.
-- Assumes nothing.
use mathlib.Core.Path.{◌≡◌, refl, sym, ◌∙◌, ap, ap₂}
use mathlib.Core.Bool.{Bool, true, false, cond}
use mathlib.Core.List.{List}
use Prim.Native.Nat.{ℕ, zero, suc}
use lib.Seq.{set-set}
use borrow.Author.Tests.{eq-eqb}
use Rattle.refusal.specs.Checks.{need}
use Rattle.desks.specs.Desks.{may_use}
use Rattle.book.specs.declared.State.TheVariants.{Marked, Open}
use Rattle.book.specs.declared.Place.{Place}
use Rattle.book.specs.declared.Book.{Book}
use Rattle.book.specs.Calls.{OPEN, ASK, CONFIRM, by, refused, is_accepted}
use Rattle.book.specs.Checks.{confirmed_as, confirm_answer, answer}
use Rattle.book.specs.Book.{nothing_kept, tariff_in, with_state, place_of, set_place, held, in_force, book_readings, with_places, changed, step, Reachable}
use Rattle.book.proofs.Places.{code_range, at_set}
use Rattle.book.proofs.Accepted.{Opens, open_accepted}
use Rattle.book.proofs.Steps.{made}
use Rattle.stands.specs.Stands.{Fits}
use Rattle.stands.specs.Roads.{asked_then_confirmed, TwoRoads}
use Rattle.stands.proofs.Kept.{held_fits, reachable_fits}

-- a place set twice
place_twice : (ps : List Place) (k : ℕ) (p q : Place) → set_place (set_place ps k p) k q ≡ set_place ps k q
place_twice ps zero p q = refl
place_twice ps (suc i) p q = set-set ps i p q

module _ (desk : ℕ) (b : Book) (from : Reachable b) (k : ℕ) where
  abbrev p : Place
  p = place_of b.places k

  abbrev marked : Book
  marked = changed b (ASK k)

  -- where OPEN is accepted, the asked draft stands marked, and CONFIRM answers as OPEN does and leaves what OPEN leaves
  module _ (e : is_accepted (answer desk (book_readings b) (OPEN k)) ≡ true) where
    known : Opens desk k (held p) (in_force b)
    known = open_accepted desk k (held p) (in_force b) e

    fits : Fits b
    fits = reachable_fits b from

    there : place_of marked.places k ≡ with_state Marked p
    there = at_set (λ d. d) b.places (with_state Marked p) fits.size k k (code_range k known.code) ∙ ap (λ t. cond t (with_state Marked p) p) (eq-eqb k k refl)

    confirmed : answer desk (book_readings marked) (CONFIRM k) ≡ answer desk (book_readings b) (OPEN k)
    confirmed =
        let same = held_fits (in_force b) p.state p (fits.places k known.code) known.h known.its in
        ap (λ q. confirm_answer desk k (held q)) there
        ∙ ap₂ (λ t u. need refused t 6 (need refused u 17 (confirmed_as p.directed (tariff_in p)))) known.code (ap (λ x. may_use desk x.regions) same.1 ∙ known.may)
        ∙ ap₂ confirmed_as same.3 same.1
        ∙ sym known.answers

    left : changed marked (CONFIRM k) ≡ changed b (OPEN k)
    left =
        ap (λ q. with_places b (set_place marked.places k (with_state Open q)) nothing_kept) there
        ∙ ap (λ ps. with_places b ps nothing_kept) (place_twice b.places k (with_state Marked p) (with_state Open p))

  confirm_opens : asked_then_confirmed desk b k ≡ step b (by desk (OPEN k))
  unfolding step
  confirm_opens = go (is_accepted (answer desk (book_readings b) (OPEN k))) refl
    where
      go : (t : Bool) → is_accepted (answer desk (book_readings b) (OPEN k)) ≡ t → asked_then_confirmed desk b k ≡ step b (by desk (OPEN k))
      go true e = rw e (λ i. record { answer = confirmed e i; book = (made marked (by desk (CONFIRM k)) _ (confirmed e) e ∙ left e) i })
      go false e = rw e refl

pub two_roads : (desk : ℕ) (b : Book) → Reachable b → (k : ℕ) → TwoRoads desk b k
unfolding step
two_roads desk b from k = record { asked = refl; same = confirm_opens desk b from k }
