-- The answer of PUT by the checks that the code makes on the place of the code.
-- Assumes nothing.
use mathlib.Core.Path.{◌≡◌, refl, sym, ◌∙◌, ap}
use mathlib.Core.Bool.{Bool, true, false, not, ◌&&◌, ◌||◌}
use Prim.Native.Nat.{ℕ, suc}
use lib.ListN.{get_or}
use Rattle.refusal.specs.declared.Check.{Check}
use Rattle.refusal.specs.declared.Check.TheVariants.{Pass, Refuse}
use Rattle.refusal.specs.Checks.{unless, first, checked, need}
use Rattle.refusal.proofs.Checks.{need_checked}
use Rattle.benchmark.specs.declared.Benchmarks.{Benchmarks}
use Rattle.tariff.specs.declared.Tariff.{Tariff}
use Rattle.tariff.specs.Tariff.{tariff_of, record_check}
use Rattle.desks.specs.Desks.{is_full, covers, may_use}
use Rattle.book.specs.declared.State.{State}
use Rattle.book.specs.declared.State.TheVariants.{Empty, Draft, Marked, Open}
use Rattle.book.specs.declared.Place.{Place}
use Rattle.book.specs.declared.Settled.{Settled}
use Rattle.book.specs.declared.Book.{Book}
use Rattle.book.specs.Calls.{Record, PUT, by, accepted, refused}
use Rattle.book.specs.Checks.{is_open, inside, covers_draft, may_put}
use Rattle.book.specs.Book.{place_with, tariff_in, beyond, held_in, held}
use Rattle.book.specs.Promises.{Does}
use Rattle.book.specs.Settling.{code_check, open_check, settled_in, Settles, HasPlace}
use Rattle.book.proofs.Steps.{read_there, settles_does}
use Rattle.putting.specs.Putting.{draft_checks, put_checks}

-- 17 of the draft, and then of the new tariff
both : (f c d : Bool) → first (unless (f || c) 17 Pass) (unless (f || d) 17 Pass) ≡ unless (f || (c && d)) 17 Pass
both true c d = refl
both false true d = refl
both false false d = refl

-- the checks but the last, and that one
pub all_checks : (desk k : ℕ) (p : Place) (x : Record)
    → put_checks desk k p x ≡ first (draft_checks desk k p x) (unless (may_use desk (tariff_of x).regions) 17 Pass)
all_checks desk k p x =
    ap (λ l. first (code_check k) (first (open_check p.state) (first (record_check x) l))) (sym (both (is_full desk) (covers_draft desk (held p)) (covers desk (tariff_of x).regions)))
    ∙ go (code_check k) (open_check p.state) (record_check x) _ _
  where
    go : (a b c d e : Check) → first a (first b (first c (first d e))) ≡ first (first a (first b (first c d))) e
    go (Refuse n) b c d e = refl
    go Pass (Refuse n) c d e = refl
    go Pass Pass (Refuse n) d e = refl
    go Pass Pass Pass d e = refl

-- the table of PUT is its checks, one after the other
record_table : (c : Check) (m : Bool) → checked refused c (need refused m 17 accepted) ≡ checked refused (first c (unless m 17 Pass)) accepted
record_table (Refuse n) m = refl
record_table Pass m = need_checked refused m 17 accepted

put_table : (t : Bool) (s : State) (directed : Bool) (x : Tariff) (c : Check) (m : Bool)
    → need refused t 6 (need refused (not (is_open (held_in s directed x))) 7 (checked refused c (need refused m 17 accepted)))
    ≡ checked refused (first (unless t 6 Pass) (first (open_check s) (first c (unless m 17 Pass)))) accepted
put_table false s directed x c m = refl
put_table true Open directed x c m = refl
put_table true Empty directed x c m = record_table c m
put_table true Draft directed x c m = record_table c m
put_table true Marked directed x c m = record_table c m

-- the place at the index of the code
pub put_does : (desk : ℕ) (b : Book) (k at : ℕ) (p : Place) → (inside k ≡ true → suc at ≡ k) → get_or b.places at beyond ≡ p
    → (x : Record) (r : Settled) → Settles (put_checks desk k p x) accepted p (place_with Draft false (tariff_of x)) r → Does b (by desk (PUT k x)) (settled_in b at r)
put_does desk b k at p index there x r h =
    settles_does b k at p index there (by desk (PUT k x)) Pass (first (open_check p.state) (first (record_check x) (unless (may_put desk (held p) x) 17 Pass))) accepted
    (λ q. place_with Draft false (tariff_of x)) r
    (read_there b k at p index there refused (λ o. need refused (not (is_open o)) 7 (checked refused (record_check x) (need refused (may_put desk o x) 17 accepted)))
    ∙ put_table (inside k) p.state p.directed (tariff_in p) (record_check x) (may_put desk (held p) x))
    refl h

pub puts_there : {b : Book} {k i : ℕ} {p : Place} {loaded : Bool} {figures : Benchmarks} → HasPlace b k i p loaded figures
    → (desk : ℕ) (x : Record) (r : Settled) → Settles (put_checks desk k p x) accepted p (place_with Draft false (tariff_of x)) r
    → Does b (by desk (PUT k x)) (settled_in b i r)
puts_there {b} {k} {i} {p} h desk x r s = put_does desk b k i p h.index h.place x r s
