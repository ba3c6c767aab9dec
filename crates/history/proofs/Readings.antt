-- What the checks read of the book is what they read from the log, call by call.
-- Assumes nothing.
use mathlib.Core.Path.{◌≡◌, refl, sym, ◌∙◌, ap, ap₂, subst}
use mathlib.Core.Bool.{Bool, true, false, cond, ◌&&◌, ◌||◌}
use mathlib.Core.List.{List, [], ◌∷◌}
use mathlib.Core.Option.{Option, none, some}
use Prim.Native.Nat.{ℕ}
use lib.Dec.{eqb}
use lib.ListN.{drop}
use borrow.Author.Tests.{eqb-true}
use Rattle.laws.proofs.Never.{never}
use Rattle.benchmark.specs.declared.Benchmarks.{Benchmarks}
use Rattle.tariff.specs.declared.Tariff.{Tariff}
use Rattle.tariff.specs.Tariff.{tariff_of}
use Rattle.desks.specs.Desks.{is_full}
use Rattle.book.specs.declared.State.{State}
use Rattle.book.specs.declared.State.TheVariants.{Empty, Draft, Marked, Open}
use Rattle.book.specs.declared.Place.{Place}
use Rattle.book.specs.declared.Book.{Book}
use Rattle.book.specs.Calls.{Sheet, Act, SET, PUT, OPEN, CLOSE, DROP, UNDO, ASK, CONFIRM, DIRECT, Call, accepted, is_accepted}
use Rattle.book.specs.Checks.{Holding, Readings, figures_of, complies, inside, answer}
use Rattle.book.specs.Book.{empty, place_with, tariff_in, with_state, with_direction, fresh, place_of, holding, held_in, held, in_force, book_readings, with_place, open_if, state_under, restored, changed, step, book_after, answers_of, Reachable}
use Rattle.book.proofs.Places.{code_range, at_set, at_map, fresh_place}
use Rattle.book.proofs.Accepted.{need_accepted, put_accepted, close_accepted, drop_accepted, confirm_accepted, direct_accepted, open_accepted}
use Rattle.book.proofs.Reached.{step_reachable}
use Rattle.stands.proofs.Undone.{undone}
use Rattle.stands.proofs.Kept.{held_fits, reachable_fits}
use Rattle.history.specs.History.{sheet_of, tariff_at, directed_of, open_of, marked_of, stays_open, effective, undoable, held_as, readings_of, readings, noted, log_after, answers_after}

same_readings : (r q : Readings) → r.sheet ≡ q.sheet → ((k : ℕ) → r.held k ≡ q.held k) → r.may_undo ≡ q.may_undo → r ≡ q
same_readings r q s h u = λ i. record { sheet = s i; held = λ k. h k i; may_undo = u i }

-- where there is no SET to take back
no_step : {A : Type 0} → false ≡ true → A
no_step e = never (cc)

-- a reading of code k written at code k is the reading
rewritten : {A : Type 0} (g : ℕ → A) (k j : ℕ) → cond (eqb k j) (g k) (g j) ≡ g j
rewritten g k j = go (eqb k j) refl
  where
    go : (t : Bool) → eqb k j ≡ t → cond t (g k) (g j) ≡ g j
    go true e = ap g (eqb-true k j e)
    go false e = refl

-- a value that code k has already, written at code k
written : {A : Type 0} (g : ℕ → A) (k : ℕ) (a : A) → a ≡ g k → (j : ℕ) → cond (eqb k j) a (g j) ≡ g j
written g k a e j = ap (λ b. cond (eqb k j) b (g j)) e ∙ rewritten g k j

-- what is held where a tariff and whether it is open, marked or under a direction are written
cond_held : (c : Bool) (t u : Option Tariff) (o p m n d e : Bool)
    → cond c (held_as t o m d) (held_as u p n e) ≡ held_as (cond c t u) (cond c o p) (cond c m n) (cond c d e)
cond_held true t u o p m n d e = refl
cond_held false t u o p m n d e = refl

-- what is held, read from the log
pub held_read : (t : Option Tariff) (o m d : Bool) (h : Holding) → held_as t o m d ≡ some h
    → (t ≡ some h.tariff) × (o ≡ h.is_open) × (m ≡ h.is_marked) × (d ≡ h.is_directed)
held_read none o m d h e = never (cc)
held_read (some x) o m d h e =
    let same : holding x o m d ≡ h = cc in
    (ap (λ g. some g.tariff) same, ap (λ g. g.is_open) same, ap (λ g. g.is_marked) same, ap (λ g. g.is_directed) same)

-- "an open tariff has no mark"
pub open_unmarked : (s : State) (d : Bool) (x : Tariff) (h : Holding) → held_in s d x ≡ some h → h.is_open ≡ true → h.is_marked ≡ false
open_unmarked Empty d x h e o = never (cc)
open_unmarked Draft d x h e o = never (let same : holding x false false d ≡ h = cc in let z = ap (λ g. g.is_open) same in cc)
open_unmarked Marked d x h e o = never (let same : holding x false true d ≡ h = cc in let z = ap (λ g. g.is_open) same in cc)
open_unmarked Open d x h e o = let same : holding x true false d ≡ h = cc in sym (ap (λ g. g.is_marked) same)

-- a direction is given
directed_held : (s : State) (d : Bool) (x : Tariff) (h : Holding) → held_in s d x ≡ some h
    → held_in s true x ≡ some (holding h.tariff h.is_open h.is_marked true)
directed_held Empty d x h e = never (cc)
directed_held Draft d x h e = let same : holding x false false d ≡ h = cc in ap (λ g. some (holding g.tariff g.is_open g.is_marked true)) same
directed_held Marked d x h e = let same : holding x false true d ≡ h = cc in ap (λ g. some (holding g.tariff g.is_open g.is_marked true)) same
directed_held Open d x h e = let same : holding x true false d ≡ h = cc in ap (λ g. some (holding g.tariff g.is_open g.is_marked true)) same

-- a sheet comes in
abbrev judged_by : Benchmarks → Option Holding → Option Holding
judged_by f none = none
judged_by f (some h) = some (holding h.tariff (h.is_open && (h.is_directed || complies f h.tariff)) false h.is_directed)

place_judged : (f : Benchmarks) (s : State) (d : Bool) (x : Tariff) → held_in (state_under f s d x) d x ≡ judged_by f (held_in s d x)
place_judged f Empty d x = refl
place_judged f Draft d x = refl
place_judged f Marked d x = refl
place_judged f Open d x = go (d || complies f x)
  where
    go : (t : Bool) → held_in (open_if t) d x ≡ some (holding x t false d)
    go true = refl
    go false = refl

log_judged : (s : Sheet) (t : Option Tariff) (o m d : Bool) → judged_by (figures_of s) (held_as t o m d) ≡ held_as t (o && (d || stays_open s t)) false d
log_judged s none o m d = refl
log_judged s (some x) o m d = refl

-- the checks read of a book what they read from the log; and where there is a SET to take back, of the book that UNDO leaves what they read
-- from the log without it
abbrev pub Reads : Book → List Act → Type 0
Reads b log =
    (book_readings b ≡ readings log)
    × (undoable log ≡ true → book_readings (restored b) ≡ readings_of (drop 1 (effective log)) false)

-- one call, on such a book
module _ (log : List Act) (b : Book) (from : Reachable b) (same : Reads b log) where
  abbrev l : List Act
  l = effective log

  held_is : (k : ℕ) → held (place_of b.places k) ≡ held_as (tariff_at l k) (open_of l k) (marked_of l k) (directed_of l k)
  held_is k = ap (λ r. r.held k) same.0

  -- one place set, which leaves nothing to take back
  place_set : (k : ℕ) (p : Place) (t : Option Tariff) (o m d : Bool) (tariffs : ℕ → Option Tariff) (opens marks directions : ℕ → Bool)
      → inside k ≡ true → held p ≡ held_as t o m d
      → ((j : ℕ) → cond (eqb k j) t (tariff_at l j) ≡ tariffs j)
      → ((j : ℕ) → cond (eqb k j) o (open_of l j) ≡ opens j)
      → ((j : ℕ) → cond (eqb k j) m (marked_of l j) ≡ marks j)
      → ((j : ℕ) → cond (eqb k j) d (directed_of l j) ≡ directions j)
      → book_readings (with_place b k p) ≡ record { sheet = sheet_of l; held = λ j. held_as (tariffs j) (opens j) (marks j) (directions j); may_undo = false }
  place_set k p t o m d tariffs opens marks directions i h e f g c =
      same_readings _ _ (ap (λ r. r.sheet) same.0)
      (λ j.
      at_set held b.places p (reachable_fits b from).size k j (code_range k i)
      ∙ ap₂ (cond (eqb k j)) h (held_is j)
      ∙ cond_held (eqb k j) t (tariff_at l j) o (open_of l j) m (marked_of l j) d (directed_of l j)
      ∙ (λ i. held_as (e j i) (f j i) (g j i) (c j i)))
      refl

  -- what the log has of a code whose place holds something, and of that place in another state
  held_there : (k : ℕ) (h : Holding) → held (place_of b.places k) ≡ some h
      → (tariff_at l k ≡ some h.tariff) × (open_of l k ≡ h.is_open) × (marked_of l k ≡ h.is_marked) × (directed_of l k ≡ h.is_directed)
  held_there k h e = held_read (tariff_at l k) (open_of l k) (marked_of l k) (directed_of l k) h (sym (held_is k) ∙ e)

  reheld : (k : ℕ) (h : Holding) (o m : Bool) → inside k ≡ true → held (place_of b.places k) ≡ some h
      → let p = place_of b.places k in some (holding (tariff_in p) o m p.directed) ≡ held_as (tariff_at l k) o m (directed_of l k)
  reheld k h o m i e =
      let p = place_of b.places k in
      let fits = held_fits (in_force b) p.state p ((reachable_fits b from).places k i) h e in
      ap₂ (λ x d. some (holding x o m d)) fits.1 fits.3
      ∙ ap₂ (λ t d. held_as t o m d) (sym (held_there k h e).0) (sym (held_there k h e).3)

  -- an accepted call
  changed_reads : (desk : ℕ) (a : Act) → is_accepted (answer desk (book_readings b) a) ≡ true → Reads (changed b a) (a ∷ log)
  changed_reads desk (SET s) e = (
    same_readings _ _ refl
        (λ k.
        let p = place_of b.places k in
        ap held (at_map (figures_of s) b.places k)
        ∙ place_judged (figures_of s) p.state p.directed (tariff_in p)
        ∙ ap (judged_by (figures_of s)) (held_is k)
        ∙ log_judged s (tariff_at l k) (open_of l k) (marked_of l k) (directed_of l k))
        refl,
    λ q. ap book_readings (undone b (reachable_fits b from) s) ∙ same_readings _ _ (ap (λ r. r.sheet) same.0) held_is refl,
  )
  changed_reads desk (PUT k x) e = (
    place_set k (place_with Draft false (tariff_of x)) (some (tariff_of x)) false false false _ _ _ _ (put_accepted desk k (held (place_of b.places k)) x e).0 refl
        (λ j. refl) (λ j. refl) (λ j. refl) (λ j. refl),
    no_step,
  )
  changed_reads desk (OPEN k) e =
      let p = place_of b.places k in
      let f = open_accepted desk k (held p) (in_force b) e in (
        place_set k (with_state Open p) (tariff_at l k) true false (directed_of l k) _ _ _ _ f.code (reheld k f.h true false f.code f.its)
            (rewritten (tariff_at l) k) (λ j. refl) (λ j. refl) (rewritten (directed_of l) k),
        no_step,
      )
  changed_reads desk (CLOSE k) e =
      let p = place_of b.places k in
      let f = close_accepted desk k (held p) e in
      let unmarked = (held_there k f.1 f.2).2 ∙ open_unmarked p.state p.directed (tariff_in p) f.1 f.2 f.3 in (
        place_set k (with_state Draft p) (tariff_at l k) false false (directed_of l k) _ _ _ _ f.0 (reheld k f.1 false false f.0 f.2)
            (rewritten (tariff_at l) k) (λ j. refl) (written (marked_of l) k false (sym unmarked)) (rewritten (directed_of l) k),
        no_step,
      )
  changed_reads desk (DROP k) e = (
    place_set k empty none false false false _ _ _ _ (drop_accepted desk k (held (place_of b.places k)) e) refl (λ j. refl) (λ j. refl) (λ j. refl) (λ j. refl),
    no_step,
  )
  changed_reads desk UNDO e = (
    same.1 (sym (ap (λ r. r.may_undo) same.0) ∙ (need_accepted b.kept.any 15 accepted (need_accepted (is_full desk) 17 _ e).1).0),
    no_step,
  )
  changed_reads desk (ASK k) e =
      let p = place_of b.places k in
      let f = open_accepted desk k (held p) (in_force b) e in
      let shut = (held_there k f.h f.its).1 ∙ f.shut in (
        place_set k (with_state Marked p) (tariff_at l k) false true (directed_of l k) _ _ _ _ f.code (reheld k f.h false true f.code f.its)
            (rewritten (tariff_at l) k) (written (open_of l) k false (sym shut)) (λ j. refl) (rewritten (directed_of l) k),
        no_step,
      )
  changed_reads desk (CONFIRM k) e =
      let p = place_of b.places k in
      let f = confirm_accepted desk k (held p) e in (
        place_set k (with_state Open p) (tariff_at l k) true false (directed_of l k) _ _ _ _ f.0 (reheld k f.1 true false f.0 f.2)
            (rewritten (tariff_at l) k) (λ j. refl) (λ j. refl) (rewritten (directed_of l) k),
        no_step,
      )
  changed_reads desk (DIRECT k) e =
      let p = place_of b.places k in
      let f = direct_accepted desk k (held p) e in
      let w = held_there k f.2 f.3 in (
        place_set k (with_direction p) (tariff_at l k) (open_of l k) (marked_of l k) true _ _ _ _ f.1
            (directed_held p.state p.directed (tariff_in p) f.2 f.3 ∙ sym (λ i. held_as (w.0 i) (w.1 i) (w.2 i) true))
            (rewritten (tariff_at l) k) (rewritten (open_of l) k) (rewritten (marked_of l) k) (λ j. refl),
        no_step,
      )

  -- a call, accepted or not
  pub step_reads : (c : Call) → Reads (step b c).book (noted log c)
  unfolding step
  step_reads c =
      subst (λ r. Reads (step b c).book (cond (is_accepted (answer c.desk r c.act)) (c.act ∷ log) log)) same.0
      (go (is_accepted (answer c.desk (book_readings b) c.act)) refl)
    where
      go : (t : Bool) → is_accepted (answer c.desk (book_readings b) c.act) ≡ t → Reads (cond t (changed b c.act) b) (cond t (c.act ∷ log) log)
      go true e = changed_reads c.desk c.act e
      go false e = same

-- a list of calls
pub all_steps : (cs : List Call) (log : List Act) (b : Book) → Reachable b → Reads b log
    → (answers_of b cs ≡ answers_after log cs) × Reads (book_after b cs) (log_after log cs)
unfolding step answers_of answers_after log_after book_after
all_steps [] log b from same = (refl, same)
all_steps (c ∷ cs) log b from same =
    let r = all_steps cs (noted log c) (step b c).book (step_reachable from c) (step_reads log b from same c) in
    (ap₂ ◌∷◌ (ap (λ r. answer c.desk r c.act) same.0) r.0, r.1)

pub at_start : Reads fresh []
at_start = (same_readings _ _ refl (λ k. fresh_place held refl k) refl, no_step)
