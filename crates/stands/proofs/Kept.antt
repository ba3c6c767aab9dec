-- Every reachable book stands: a fresh book does, and each accepted call keeps it so.
-- Assumes nothing.
use mathlib.Core.Path.{◌≡◌, refl, sym, ◌∙◌, ap, subst}
use mathlib.Core.Bool.{Bool, true, false, cond, ◌||◌, or-true}
use mathlib.Core.Option.{Option, none, some}
use Prim.Native.Nat.{ℕ, zero, suc}
use native.Mathlib.Omega.{arith}
use lib.Dec.{eqb}
use lib.ListN.{length-map, length-replicate, get_or-replicate}
use Rattle.laws.proofs.Never.{never}
use Rattle.refusal.specs.declared.Check.TheVariants.{Pass}
use Rattle.benchmark.specs.Benchmark.{set_check}
use Rattle.tariff.specs.declared.Tariff.{Tariff}
use Rattle.desks.specs.Desks.{is_full}
use Rattle.verdict.specs.Cells.{first_over}
use Rattle.book.specs.declared.State.{State}
use Rattle.book.specs.declared.State.TheVariants.{Empty, Draft, Marked, Open}
use Rattle.book.specs.declared.Place.{Place}
use Rattle.book.specs.declared.Book.{Book}
use Rattle.book.specs.Calls.{Sheet, Act, SET, PUT, OPEN, CLOSE, DROP, UNDO, ASK, CONFIRM, DIRECT, accepted, is_accepted, is_none}
use Rattle.book.specs.Checks.{Holding, figures_of, complies, inside, open_answer, answer}
use Rattle.book.specs.Book.{empty, tariff_in, with_state, with_direction, nothing_kept, fresh, beyond, place_of, holding, held_in, held, in_force, book_readings, with_place, open_if, state_under, under, changed, Reachable}
use Rattle.book.proofs.Places.{code_range, at_set, length_set_place, at_map}
use Rattle.book.proofs.Accepted.{checked_accepted, need_accepted, put_accepted, close_accepted, drop_accepted, confirm_accepted, direct_accepted, open_accepted}
use Rattle.book.proofs.Reached.{always}
use Rattle.stands.specs.Stands.{Recorded, MayOpen, MayStandAs, MayStand, Fits, Stands}
use Rattle.stands.proofs.Undone.{fits_unkept, undone}

-- a place that holds something holds the tariff of a record that passes refusal 8, and one that may be open where it is open or marked
pub held_fits : (f : Option Sheet) (s : State) (p : Place) → MayStandAs f s p → (h : Holding) → held_in s p.directed (tariff_in p) ≡ some h
    → Recorded (tariff_in p) × (tariff_in p ≡ h.tariff) × ((h.is_open || h.is_marked) ≡ true → MayOpen f p.directed (tariff_in p)) × (p.directed ≡ h.is_directed)
held_fits f Empty p w h e = never (cc)
held_fits f Draft p w h e =
    let same : holding (tariff_in p) false false p.directed ≡ h = cc in
    let z : false ≡ (h.is_open || h.is_marked) = ap (λ g. g.is_open || g.is_marked) same in
    (w, ap (λ g. g.tariff) same, λ q. never (cc), ap (λ g. g.is_directed) same)
held_fits f Marked p w h e =
    let same : holding (tariff_in p) false true p.directed ≡ h = cc in
    (w.0, ap (λ g. g.tariff) same, λ q. w.1, ap (λ g. g.is_directed) same)
held_fits f Open p w h e =
    let same : holding (tariff_in p) true false p.directed ≡ h = cc in
    (w.0, ap (λ g. g.tariff) same, λ q. w.1, ap (λ g. g.is_directed) same)

pub none_of : {A : Type 0} (o : Option A) → is_none o ≡ true → o ≡ none
none_of none e = refl
none_of (some c) e = never (cc)

fits_under : (f : Option Sheet) (s : Sheet) (q : State) (p : Place) → MayStandAs f q p → MayStand (some s) (with_state (state_under (figures_of s) q p.directed (tariff_in p)) p)
fits_under f s Empty p h = ap (with_state Empty) h
fits_under f s Draft p h = h
fits_under f s Marked p h = h.0
fits_under f s Open p h = go (p.directed || complies (figures_of s) (tariff_in p)) refl
  where
    go : (t : Bool) → (p.directed || complies (figures_of s) (tariff_in p)) ≡ t → MayStand (some s) (with_state (open_if t) p)
    go true e = (h.0, λ d. none_of (first_over (figures_of s) (tariff_in p)) (ap (λ o. o || complies (figures_of s) (tariff_in p)) (sym d) ∙ e))
    go false e = h.0

-- a direction is given: what could be open still can
fits_directed : (f : Option Sheet) (q : State) (p : Place) → MayStandAs f q p → (h : Holding) → held_in q p.directed (tariff_in p) ≡ some h
    → MayStandAs f q (with_direction p)
fits_directed f Empty p w h e = never (cc)
fits_directed f Draft p w h e = w
fits_directed none Marked p w h e = w
fits_directed (some s) Marked p w h e = (w.0, λ d. never (cc))
fits_directed none Open p w h e = w
fits_directed (some s) Open p w h e = (w.0, λ d. never (cc))

-- a tariff that passes the checks of OPEN may be open
may_open : (f : Option Sheet) (s : Sheet) (c d : Bool) (x y : Tariff) → f ≡ some s → c ≡ d → x ≡ y → (d ≡ false → first_over (figures_of s) y ≡ none)
    → MayOpen f c x
may_open f s c d x y e i g h = subst (λ o. MayOpen o c x) (sym e) (λ q. ap (first_over (figures_of s)) g ∙ h (sym i ∙ q))

-- one place is set
fits_place : (b : Book) (k : ℕ) (p : Place) → Fits b → inside k ≡ true → MayStand (in_force b) p → Fits (with_place b k p)
fits_place b k p h r q =
    record {
      size = length_set_place b.places k p ∙ h.size;
      places = λ j o. subst (MayStand (in_force b)) (sym (at_set (λ d. d) b.places p h.size k j (code_range k r))) (either j o (eqb k j));
      without_sheet = h.without_sheet;
      with_sheet = h.with_sheet;
    }
  where
    either : (j : ℕ) → inside j ≡ true → (t : Bool) → MayStand (in_force b) (cond t p (place_of b.places j))
    either j o true = q
    either j o false = h.places j o

-- a sheet comes in
fits_set : (b : Book) → Fits b → (s : Sheet) → set_check s.fields s.period ≡ Pass → Fits (changed b (SET s))
fits_set b h s e =
    record {
      size = length-map b.places (under (figures_of s)) ∙ h.size;
      places = λ k o.
          let p = place_of b.places k in
          subst (MayStand (some s)) (sym (at_map (figures_of s) b.places k)) (fits_under (in_force b) s p.state p (h.places k o));
      without_sheet = λ l. never (cc);
      with_sheet = λ l. (e, refl);
    }

-- a book with nothing to take back
bare : (b : Book) → b.kept ≡ nothing_kept → Fits b → Stands b
bare b e h = record { fits = h; nothing_kept_lem = λ l. e; step_kept = λ l. never (let z : false ≡ true = sym (ap (λ k. k.any) e) ∙ l in cc) }

pub passes_open : (desk : ℕ) (b : Book) → Fits b → (k : ℕ) → is_accepted (open_answer desk k (held (place_of b.places k)) (in_force b)) ≡ true
    → let p = place_of b.places k in (inside k ≡ true) × Recorded (tariff_in p) × MayOpen (in_force b) p.directed (tariff_in p)
passes_open desk b h k e =
    let p = place_of b.places k in
    let f = open_accepted desk k (held p) (in_force b) e in
    let r = held_fits (in_force b) p.state p (h.places k f.code) f.h f.its in
    (f.code, r.0, may_open (in_force b) f.s p.directed f.h.is_directed (tariff_in p) f.h.tariff f.in_force_lem r.3 r.1 f.none_over)

-- an accepted call
stands_changed : (b : Book) → Stands b → (desk : ℕ) (a : Act) → is_accepted (answer desk (book_readings b) a) ≡ true → Stands (changed b a)
stands_changed b h desk (SET s) e =
    record {
      fits = fits_set b h.fits s (checked_accepted (set_check s.fields s.period) accepted (need_accepted (is_full desk) 17 _ e).1).0;
      nothing_kept_lem = λ l. never (cc);
      step_kept = λ l.
          let back = undone b h.fits s in
          (subst Fits (sym back) (fits_unkept b h.fits), ap (λ d. changed d (SET s)) (sym back));
    }
stands_changed b h desk (PUT k x) e =
    let f = put_accepted desk k (held (place_of b.places k)) x e in
    bare _ refl (fits_place b k _ h.fits f.0 (x, f.1, refl))
stands_changed b h desk (OPEN k) e =
    let w = passes_open desk b h.fits k e in
    bare _ refl (fits_place b k (with_state Open (place_of b.places k)) h.fits w.0 (w.1, w.2))
stands_changed b h desk (CLOSE k) e =
    let p = place_of b.places k in
    let f = close_accepted desk k (held p) e in
    bare _ refl (fits_place b k (with_state Draft p) h.fits f.0 (held_fits (in_force b) p.state p (h.fits.places k f.0) f.1 f.2).0)
stands_changed b h desk (DROP k) e = bare _ refl (fits_place b k empty h.fits (drop_accepted desk k (held (place_of b.places k)) e) refl)
stands_changed b h desk UNDO e = bare _ refl (h.step_kept (need_accepted b.kept.any 15 accepted (need_accepted (is_full desk) 17 _ e).1).0).0
stands_changed b h desk (ASK k) e =
    let w = passes_open desk b h.fits k e in
    bare _ refl (fits_place b k (with_state Marked (place_of b.places k)) h.fits w.0 (w.1, w.2))
stands_changed b h desk (CONFIRM k) e =
    let p = place_of b.places k in
    let f = confirm_accepted desk k (held p) e in
    let r = held_fits (in_force b) p.state p (h.fits.places k f.0) f.1 f.2 in
    bare _ refl (fits_place b k (with_state Open p) h.fits f.0 (r.0, r.2 (ap (λ m. f.1.is_open || m) f.3 ∙ or-true f.1.is_open)))
stands_changed b h desk (DIRECT k) e =
    let p = place_of b.places k in
    let f = direct_accepted desk k (held p) e in
    bare _ refl (fits_place b k (with_direction p) h.fits f.1 (fits_directed (in_force b) p.state p (h.fits.places k f.1) f.2 f.3))

fresh_fits : (k : ℕ) → inside k ≡ true → MayStand none (place_of fresh.places k)
fresh_fits zero o = absurd (omega (arith, (code_range 0 o).0))
fresh_fits (suc i) o = rw (get_or-replicate 32 i empty beyond (omega (arith, (code_range (suc i) o).1))) refl

stands_fresh : Stands fresh
stands_fresh =
    bare fresh refl
    (record {
      size = length-replicate 32 empty;
      places = fresh_fits;
      without_sheet = λ l. (refl, refl, refl);
      with_sheet = λ l. never (cc);
    })

pub reachable_stands : (b : Book) → Reachable b → Stands b
reachable_stands b r = always Stands stands_fresh stands_changed b r

pub reachable_fits : (b : Book) → Reachable b → Fits b
reachable_fits b r = (reachable_stands b r).fits
