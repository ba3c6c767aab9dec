-- The calls that answer by a number alone: their number says the whole answer, since no refusal has the number 0. For each table of checks, over
-- any outcomes of its tests.
-- Assumes nothing.
use mathlib.Core.Path.{◌≡◌, refl}
use mathlib.Core.Bool.{Bool, true, false, not, ◌&&◌}
use mathlib.Core.Option.{Option, none, some}
use Prim.Native.Nat.{ℕ}
use lib.Dec.{eqb}
use lib.ListN.{length}
use Rattle.laws.proofs.Never.{never}
use Rattle.calendar.specs.Calendar.{period_in_range}
use Rattle.refusal.specs.declared.Check.TheVariants.{Pass}
use Rattle.refusal.specs.Checks.{unless, checked, need, given}
use Rattle.sheet.specs.Sheet.{field_count, fields_in_range, terms_fit}
use Rattle.benchmark.specs.Benchmark.{ocs_fit, ordered, figures, set_check}
use Rattle.tariff.specs.Tariff.{record_length, tariff_of, valid_tariff, record_check}
use Rattle.desks.specs.Desks.{is_full}
use Rattle.book.specs.Calls.{Act, SET, PUT, OPEN, CLOSE, DROP, UNDO, ASK, CONFIRM, DIRECT, Answer, accepted, refused}
use Rattle.book.specs.Checks.{Readings, Holding, is_open, inside, may_use_held, may_put, answer}
use Rattle.image.specs.Changing.{number_of}
use Rattle.linked.specs.Linked.{said_by, is_plain}

abbrev Said : Answer → Type 0
Said a = a ≡ said_by (number_of a)

-- 17, and 1 to 4, 14 and 5
set_said : (t a b c d e f : Bool)
    → Said (need refused t 17 (checked refused (unless a 1 (unless b 2 (unless c 3 (unless d 4 (unless e 14 (unless f 5 Pass)))))) accepted))
set_said false a b c d e f = refl
set_said true false b c d e f = refl
set_said true true false c d e f = refl
set_said true true true false d e f = refl
set_said true true true true false e f = refl
set_said true true true true true false f = refl
set_said true true true true true true false = refl
set_said true true true true true true true = refl

-- 6, 7, 8 and 17
put_said : (a b c d : Bool) → Said (need refused a 6 (need refused b 7 (checked refused (unless c 8 Pass) (need refused d 17 accepted))))
put_said false b c d = refl
put_said true false c d = refl
put_said true true false d = refl
put_said true true true false = refl
put_said true true true true = refl

-- 6, 9, 17 and one more, 12 or 7
held_said : (n : ℕ) → eqb n 0 ≡ false → (a : Bool) (h : Option Holding) (f g : Holding → Bool)
    → Said (need refused a 6 (given refused h 9 (λ x. need refused (f x) 17 (need refused (g x) n accepted))))
held_said n e false h f g = refl
held_said n e true none f g = refl
held_said n e true (some x) f g = go (f x) (g x)
  where
    go : (b c : Bool) → Said (need refused b 17 (need refused c n accepted))
    go false c = refl
    go true false = rw e refl
    go true true = refl

-- 17 and 15
undo_said : (a b : Bool) → Said (need refused a 17 (need refused b 15 accepted))
undo_said false b = refl
undo_said true false = refl
undo_said true true = refl

-- 17, 6, 9 and 7
direct_said : (a b : Bool) (h : Option Holding) (f : Holding → Bool) → Said (need refused a 17 (need refused b 6 (given refused h 9 (λ x. need refused (f x) 7 accepted))))
direct_said false b h f = refl
direct_said true false h f = refl
direct_said true true none f = refl
direct_said true true (some x) f = go (f x)
  where
    go : (b : Bool) → Said (need refused b 7 accepted)
    go false = refl
    go true = refl

pub plain_said : (desk : ℕ) (r : Readings) (a : Act) → is_plain a ≡ true → answer desk r a ≡ said_by (number_of (answer desk r a))
unfolding set_check record_check
plain_said desk r (SET s) e =
    set_said (is_full desk) (eqb (length s.fields) field_count) (fields_in_range s.fields) (period_in_range s.period) (terms_fit s.fields) (ocs_fit s.fields) (ordered (figures s.fields))
plain_said desk r (PUT k x) e =
    put_said (inside k) (not (is_open (r.held k))) (eqb (length x) record_length && valid_tariff (tariff_of x)) (may_put desk (r.held k) x)
plain_said desk r (OPEN k) e = never (cc)
plain_said desk r (CLOSE k) e = held_said 12 refl (inside k) (r.held k) (may_use_held desk) (λ h. h.is_open)
plain_said desk r (DROP k) e = held_said 7 refl (inside k) (r.held k) (may_use_held desk) (λ h. not h.is_open)
plain_said desk r UNDO e = undo_said (is_full desk) r.may_undo
plain_said desk r (ASK k) e = never (cc)
plain_said desk r (CONFIRM k) e = never (cc)
plain_said desk r (DIRECT k) e = direct_said (is_full desk) (inside k) (r.held k) (λ h. not h.is_open)
