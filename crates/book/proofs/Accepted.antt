-- What is known where a call is accepted: none of its refusals applies.
-- Assumes nothing.
use mathlib.Core.Path.{◌≡◌, refl}
use mathlib.Core.Bool.{Bool, true, false, not}
use mathlib.Core.Option.{Option, none, some}
use Prim.Native.Nat.{ℕ}
use borrow.Author.Tests.{not-true}
use Rattle.laws.proofs.Never.{never}
use Rattle.refusal.specs.declared.Check.{Check}
use Rattle.refusal.specs.declared.Check.TheVariants.{Pass, Refuse}
use Rattle.refusal.specs.Checks.{checked, need, given}
use Rattle.benchmark.specs.declared.Benchmarks.{Benchmarks}
use Rattle.tariff.specs.declared.Tariff.{Tariff}
use Rattle.tariff.specs.Tariff.{record_check}
use Rattle.desks.specs.Desks.{is_full}
use Rattle.verdict.specs.Cells.{Cell, verdict_at, verdict, first_over}
use Rattle.book.specs.Calls.{Sheet, Record, Answer, accepted, refused, is_accepted}
use Rattle.book.specs.Checks.{Holding, is_open, figures_of, inside, verdict_answer, opened_as, confirmed_as, may_use_held, put_answer, open_answer, close_answer, drop_answer, confirm_answer, direct_answer}

pub checked_accepted : (c : Check) (a : Answer) → is_accepted (checked refused c a) ≡ true → (c ≡ Pass) × (is_accepted a ≡ true)
checked_accepted Pass a e = (refl, e)
checked_accepted (Refuse n) a e = never (cc)

pub need_accepted : (t : Bool) (n : ℕ) (a : Answer) → is_accepted (need refused t n a) ≡ true → (t ≡ true) × (is_accepted a ≡ true)
need_accepted true n a e = (refl, e)
need_accepted false n a e = never (cc)

pub given_accepted : {B : Type 0} (o : Option B) (n : ℕ) (next : B → Answer) → is_accepted (given refused o n next) ≡ true
    → (x : B) × (o ≡ some x) × (is_accepted (next x) ≡ true)
given_accepted none n next e = never (cc)
given_accepted (some x) n next e = (x, refl, e)

verdict_accepted : (f : Benchmarks) (x : Tariff) (o : Option Cell) → first_over f x ≡ o
    → is_accepted (verdict_answer (verdict_at f x o)) ≡ true → first_over f x ≡ none
verdict_accepted f x none q e = q
verdict_accepted f x (some c) q e = never (cc)

-- OPEN and ASK, where they accept: without a direction the tariff exceeds nowhere, and the number of cells is the one that CONFIRM answers
pub opened_accepted : (d : Bool) (f : Benchmarks) (x : Tariff) → is_accepted (opened_as d f x) ≡ true
    → (d ≡ false → first_over f x ≡ none) × (opened_as d f x ≡ confirmed_as d x)
unfolding verdict
opened_accepted true f x e = (λ q. never (cc), refl)
opened_accepted false f x e = let v = verdict_accepted f x (first_over f x) refl e in (λ q. v, rw v)

-- PUT: the code is in range, and the record passes refusal 8
pub put_accepted : (desk k : ℕ) (held : Option Holding) (x : Record) → is_accepted (put_answer desk k held x) ≡ true
    → (inside k ≡ true) × (record_check x ≡ Pass)
put_accepted desk k held x e =
    let f = need_accepted (inside k) 6 _ e in
    let g = need_accepted (not (is_open held)) 7 _ f.1 in
    (f.0, (checked_accepted (record_check x) _ g.1).0)

-- CLOSE and DROP: the code is in range, and CLOSE's place holds an open tariff
pub close_accepted : (desk k : ℕ) (held : Option Holding) → is_accepted (close_answer desk k held) ≡ true
    → (inside k ≡ true) × (h : Holding) × (held ≡ some h) × (h.is_open ≡ true)
close_accepted desk k held e =
    let f = need_accepted (inside k) 6 _ e in
    let g = given_accepted held 9 _ f.1 in
    let m = need_accepted (may_use_held desk g.0) 17 _ g.2 in
    (f.0, g.0, g.1, (need_accepted g.0.is_open 12 accepted m.1).0)

pub drop_accepted : (desk k : ℕ) (held : Option Holding) → is_accepted (drop_answer desk k held) ≡ true → inside k ≡ true
drop_accepted desk k held e = (need_accepted (inside k) 6 _ e).0

-- CONFIRM: the code is in range, and its place holds a marked draft
pub confirm_accepted : (desk k : ℕ) (held : Option Holding) → is_accepted (confirm_answer desk k held) ≡ true
    → (inside k ≡ true) × (h : Holding) × (held ≡ some h) × (h.is_marked ≡ true)
confirm_accepted desk k held e =
    let f = need_accepted (inside k) 6 _ e in
    let g = given_accepted held 9 _ f.1 in
    let m = need_accepted (may_use_held desk g.0) 17 _ g.2 in
    let d = need_accepted (not g.0.is_open) 7 _ m.1 in
    (f.0, g.0, g.1, (need_accepted g.0.is_marked 16 _ d.1).0)

-- DIRECT: the desk has all fourteen regions, the code is in range, and its place holds a draft
pub direct_accepted : (desk k : ℕ) (held : Option Holding) → is_accepted (direct_answer desk k held) ≡ true
    → (is_full desk ≡ true) × (inside k ≡ true) × (h : Holding) × (held ≡ some h) × (h.is_open ≡ false)
direct_accepted desk k held e =
    let d = need_accepted (is_full desk) 17 _ e in
    let f = need_accepted (inside k) 6 _ d.1 in
    let g = given_accepted held 9 _ f.1 in
    (d.0, f.0, g.0, g.1, not-true g.0.is_open (need_accepted (not g.0.is_open) 7 _ g.2).0)

-- OPEN and ASK: a sheet is in force, with it a tariff without a direction exceeds nowhere, and the answer is that of CONFIRM
pub record Opens (desk k : ℕ) (held : Option Holding) (sheet : Option Sheet) : Type 0 where
  pub code : inside k ≡ true
  pub h : Holding
  pub its : held ≡ some h
  pub may : may_use_held desk h ≡ true
  pub shut : h.is_open ≡ false
  pub s : Sheet
  pub in_force_lem : sheet ≡ some s
  pub none_over : h.is_directed ≡ false → first_over (figures_of s) h.tariff ≡ none
  pub answers : open_answer desk k held sheet ≡ confirmed_as h.is_directed h.tariff

with_cells : (desk k : ℕ) (held : Option Holding) (sheet : Option Sheet) (h : Holding) (s : Sheet)
    → inside k ≡ true → held ≡ some h → may_use_held desk h ≡ true → not h.is_open ≡ true → sheet ≡ some s
    → opened_as h.is_directed (figures_of s) h.tariff ≡ confirmed_as h.is_directed h.tariff
    → open_answer desk k held sheet ≡ confirmed_as h.is_directed h.tariff
with_cells desk k held sheet h s i g m o f v = rw (i, g, m, o, f) v

pub open_accepted : (desk k : ℕ) (held : Option Holding) (sheet : Option Sheet) → is_accepted (open_answer desk k held sheet) ≡ true → Opens desk k held sheet
open_accepted desk k held sheet e =
    let f = need_accepted (inside k) 6 _ e in
    let g = given_accepted held 9 _ f.1 in
    let m = need_accepted (may_use_held desk g.0) 17 _ g.2 in
    let d = need_accepted (not g.0.is_open) 7 _ m.1 in
    let i = given_accepted sheet 10 _ d.1 in
    let v = opened_accepted g.0.is_directed (figures_of i.0) g.0.tariff i.2 in
    record { code = f.0; h = g.0; its = g.1; may = m.0; shut = not-true g.0.is_open d.0; s = i.0; in_force_lem = i.1; none_over = v.0; answers = with_cells desk k held sheet g.0 i.0 f.0 g.1 m.0 d.0 i.1 v.1 }
