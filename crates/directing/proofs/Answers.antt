-- The answer of DIRECT by the checks that the code makes on the place of the code.
-- Assumes nothing.
use mathlib.Core.Path.{◌≡◌, refl, ◌∙◌, ap}
use mathlib.Core.Bool.{Bool, true, false, not}
use Prim.Native.Nat.{ℕ, suc}
use lib.ListN.{get_or}
use Rattle.refusal.specs.declared.Check.TheVariants.{Pass}
use Rattle.refusal.specs.Checks.{unless, first, checked, need, given}
use Rattle.benchmark.specs.declared.Benchmarks.{Benchmarks}
use Rattle.tariff.specs.declared.Tariff.{Tariff}
use Rattle.desks.specs.Desks.{is_full}
use Rattle.book.specs.declared.State.{State}
use Rattle.book.specs.declared.State.TheVariants.{Empty, Draft, Marked, Open}
use Rattle.book.specs.declared.Place.{Place}
use Rattle.book.specs.declared.Settled.{Settled}
use Rattle.book.specs.declared.Book.{Book}
use Rattle.book.specs.Calls.{DIRECT, by, accepted, refused}
use Rattle.book.specs.Checks.{inside}
use Rattle.book.specs.Book.{tariff_in, with_direction, beyond, held_in}
use Rattle.book.specs.Promises.{Does}
use Rattle.book.specs.Settling.{empty_check, open_check, settled_in, Settles, HasPlace}
use Rattle.book.proofs.Steps.{read_there, settles_does}
use Rattle.directing.specs.Directing.{direct_checks}

-- the table of DIRECT is its checks, one after the other
direct_table : (f t : Bool) (s : State) (directed : Bool) (x : Tariff)
    → need refused f 17 (need refused t 6 (given refused (held_in s directed x) 9 (λ h. need refused (not h.is_open) 7 accepted)))
    ≡ checked refused (first (unless f 17 Pass) (first (unless t 6 Pass) (first (empty_check s) (open_check s)))) accepted
direct_table false t s directed x = refl
direct_table true false s directed x = refl
direct_table true true Empty directed x = refl
direct_table true true Draft directed x = refl
direct_table true true Marked directed x = refl
direct_table true true Open directed x = refl

-- the place at the index of the code
pub direct_does : (desk : ℕ) (b : Book) (k at : ℕ) (p : Place) → (inside k ≡ true → suc at ≡ k) → get_or b.places at beyond ≡ p
    → (r : Settled) → Settles (direct_checks desk k p) accepted p (with_direction p) r → Does b (by desk (DIRECT k)) (settled_in b at r)
direct_does desk b k at p index there r h =
    settles_does b k at p index there (by desk (DIRECT k)) (unless (is_full desk) 17 Pass) (first (empty_check p.state) (open_check p.state)) accepted with_direction r
    (ap (need refused (is_full desk) 17) (read_there b k at p index there refused (λ o. given refused o 9 (λ g. need refused (not g.is_open) 7 accepted)))
    ∙ direct_table (is_full desk) (inside k) p.state p.directed (tariff_in p))
    refl h

pub directs_there : {b : Book} {k i : ℕ} {p : Place} {loaded : Bool} {figures : Benchmarks} → HasPlace b k i p loaded figures
    → (desk : ℕ) (r : Settled) → Settles (direct_checks desk k p) accepted p (with_direction p) r → Does b (by desk (DIRECT k)) (settled_in b i r)
directs_there {b} {k} {i} {p} h desk r s = direct_does desk b k i p h.index h.place r s
