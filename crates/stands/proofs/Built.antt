-- Every book that stands is reachable: SET its sheet, if it has one, and then place by place PUT the record, DIRECT what is under a direction, ASK what is marked
-- and OPEN what is open; where there is a SET to take back, the same of the book before it, and that SET.
-- Assumes nothing.
use mathlib.Core.Path.{◌≡◌, refl, sym, ◌∙◌, ap, subst}
use mathlib.Core.Bool.{Bool, true, false}
use mathlib.Core.List.{List, [], ◌∷◌, ◌++◌, map}
use Prim.Native.Nat.{ℕ, zero, suc, ◌+◌, ◌<◌}
use native.Mathlib.Omega.{arith}
use lib.ListN.{length, get_or, replicate, length-append}
use lib.Seq.{append_snoc, get_or-append_seam, set-append_seam}
use Rattle.refusal.specs.declared.Check.TheVariants.{Pass}
use Rattle.refusal.specs.Checks.{checked}
use Rattle.benchmark.specs.declared.Benchmarks.{Benchmarks}
use Rattle.tariff.specs.declared.Tariff.{Tariff}
use Rattle.tariff.specs.Tariff.{tariff_of, record_check, all_fourteen}
use Rattle.verdict.specs.Cells.{verdict}
use Rattle.book.specs.declared.State.{State}
use Rattle.book.specs.declared.State.TheVariants.{Empty, Draft, Marked, Open}
use Rattle.book.specs.declared.Place.{Place}
use Rattle.book.specs.declared.Book.{Book}
use Rattle.book.specs.Calls.{Sheet, Record, Act, SET, PUT, OPEN, ASK, DIRECT, call, accepted, refused}
use Rattle.book.specs.Checks.{Readings, figures_of, inside, confirmed_as, put_answer, open_answer, direct_answer, answer}
use Rattle.book.specs.Book.{book_readings, empty, place_with, tariff_in, with_state, with_direction, nothing_kept, fresh, beyond, place_of, held, sheet_if, sheet_in, in_force, with_places, with_place, under, restored, changed, Reachable}
use Rattle.book.proofs.Places.{in_range}
use Rattle.book.proofs.Reached.{fresh_reachable, step_reachable}
use Rattle.book.proofs.Steps.{made}
use Rattle.stands.specs.Stands.{Recorded, MayOpen, MayStandAs, MayStand, Fits, Stands}
use Rattle.stands.proofs.Undone.{unkept}
use Rattle.stands.proofs.TakenBack.{unkept_reachable}

-- the book with these places and nothing to take back is reachable
unfoldable Has : Book → List Place → Type 0
Has b ps = Reachable (with_places b ps nothing_kept)

-- with places xs, then p, then ys
abbrev Reached : Book → List Place → Place → List Place → Type 0
Reached b xs p ys = Has b (xs ++ p ∷ ys)

-- a tariff that may be open: a sheet is loaded, and the checks of OPEN answer with the number of cells
may_open : (l : Bool) (s : Sheet) (k : ℕ) (d : Bool) (x : Tariff) → inside k ≡ true → MayOpen (sheet_if l s) d x
    → open_answer all_fourteen k (held (place_with Draft d x)) (sheet_if l s) ≡ confirmed_as d x
unfolding verdict
may_open true s k true x r h = rw r refl
may_open true s k false x r h = rw (r, h refl)
may_open false s k d x r h = absurd h

-- one place: the code after those of xs
module _ (b : Book) (xs ys : List Place) (within : length xs < 32) where
  code : inside (suc (length xs)) ≡ true
  code = in_range (suc (length xs)) (omega arith) (omega arith)

  put_there : (y : Record) → record_check y ≡ Pass → Reached b xs empty ys → Reached b xs (place_with Draft false (tariff_of y)) ys
  unfolding Has
  put_there y e r =
      let d = with_places b (xs ++ empty ∷ ys) nothing_kept in
      let k = suc (length xs) in
      let a : put_answer all_fourteen k (held (get_or (xs ++ empty ∷ ys) (length xs) beyond)) y ≡ accepted = rw (code, get_or-append_seam xs empty ys beyond, e) refl in
      let m = made d (call (PUT k y)) accepted a refl in
      subst Reachable (m ∙ ap (λ ps. with_places b ps nothing_kept) (set-append_seam xs empty ys (place_with Draft false (tariff_of y)))) (step_reachable r (call (PUT k y)))

  direct_there : (x : Tariff) → Reached b xs (place_with Draft false x) ys → Reached b xs (place_with Draft true x) ys
  unfolding Has
  direct_there x r =
      let p = place_with Draft false x in
      let d = with_places b (xs ++ p ∷ ys) nothing_kept in
      let k = suc (length xs) in
      let it = get_or-append_seam xs p ys beyond in
      let a : direct_answer all_fourteen k (held (get_or (xs ++ p ∷ ys) (length xs) beyond)) ≡ accepted = rw (code, it) refl in
      let m = made d (call (DIRECT k)) accepted a refl in
      let n = ap (λ o. with_place d k (with_direction o)) it ∙ ap (λ ps. with_places b ps nothing_kept) (set-append_seam xs p ys (place_with Draft true x)) in
      subst Reachable (m ∙ n) (step_reachable r (call (DIRECT k)))

  -- a call with the checks of OPEN, which leaves the tariff in state q
  stood_there : (q : State) (a : ℕ → Act) → ((r : Readings) (k : ℕ) → answer all_fourteen r (a k) ≡ open_answer all_fourteen k (r.held k) r.sheet)
      → ((d : Book) (k : ℕ) → changed d (a k) ≡ with_place d k (with_state q (place_of d.places k)))
      → (c : Bool) (x : Tariff) → MayOpen (in_force b) c x → Reached b xs (place_with Draft c x) ys → Reached b xs (place_with q c x) ys
  unfolding Has
  stood_there q a by leaves c x h r =
      let p = place_with Draft c x in
      let d = with_places b (xs ++ p ∷ ys) nothing_kept in
      let k = suc (length xs) in
      let it = get_or-append_seam xs p ys beyond in
      let e = ap (λ o. open_answer all_fourteen k (held o) (in_force b)) it ∙ may_open b.loaded (sheet_in b) k c x code h in
      let m = made d (call (a k)) (confirmed_as c x) (by (book_readings d) k ∙ e) refl in
      let n = ap (λ o. with_place d k (with_state q o)) it ∙ ap (λ ps. with_places b ps nothing_kept) (set-append_seam xs p ys (place_with q c x)) in
      subst Reachable (m ∙ (leaves d k ∙ n)) (step_reachable r (call (a k)))

  draft_there : (c : Bool) (x : Tariff) → Recorded x → Reached b xs empty ys → Reached b xs (place_with Draft c x) ys
  draft_there false x h r = rw h.2 (put_there h.0 h.1 r)
  draft_there true x h r = direct_there x (rw h.2 (put_there h.0 h.1 r))

  place_there : (q : State) (p : Place) → p.state ≡ q → MayStandAs (in_force b) q p → Reached b xs empty ys → Reached b xs p ys
  place_there Empty p s h r = rw h r
  place_there Draft p s h r = subst (λ q. Reached b xs (place_with q p.directed (tariff_in p)) ys) (sym s) (draft_there p.directed (tariff_in p) h r)
  place_there Marked p s h r =
      subst (λ q. Reached b xs (place_with q p.directed (tariff_in p)) ys) (sym s)
      (stood_there Marked ASK (λ r k. refl) (λ d k. refl) p.directed (tariff_in p) h.1 (draft_there p.directed (tariff_in p) h.0 r))
  place_there Open p s h r =
      subst (λ q. Reached b xs (place_with q p.directed (tariff_in p)) ys) (sym s)
      (stood_there Open OPEN (λ r k. refl) (λ d k. refl) p.directed (tariff_in p) h.1 (draft_there p.directed (tariff_in p) h.0 r))

-- all places: xs stand already, and ps come in place of as many empty ones
fill : (b : Book) (xs ps : List Place) → length xs + length ps ≡ 32 → ((i : ℕ) → i < length ps → MayStand (in_force b) (get_or ps i beyond))
    → Has b (xs ++ replicate (length ps) empty) → Has b (xs ++ ps)
fill b xs [] e h r = r
fill b xs (p ∷ ps) e h r =
    let ys = replicate (length ps) empty in
    let here = place_there b xs ys (omega arith) p.state p refl (h 0 (omega arith)) r in
    let rest = fill b (xs ++ (p ∷ [])) ps (simp length-append (omega arith)) (λ i l. h (suc i) (omega arith)) in
    rw append_snoc at (rest (rw append_snoc here))

-- the sheet, in a book with no tariffs
empty_under : (f : Benchmarks) (n : ℕ) → map (under f) (replicate n empty) ≡ replicate n empty
empty_under f zero = refl
empty_under f (suc n) = ap (◌∷◌ empty) (empty_under f n)

sheet_there : (b : Book) → Fits b → Reachable (with_places b (replicate 32 empty) nothing_kept)
sheet_there b h = go b.loaded refl
  where
    go : (l : Bool) → b.loaded ≡ l → Reachable (with_places b (replicate 32 empty) nothing_kept)
    go false e =
        let w = h.without_sheet e in
        let same : with_places b (replicate 32 empty) nothing_kept ≡ fresh =
        λ i. record { loaded = e i; fields = w.0 i; period = w.1 i; benchmarks = w.2 i; places = replicate 32 empty; kept = nothing_kept } in
        subst Reachable (sym same) fresh_reachable
    go true e =
        let w = h.with_sheet e in
        let s = sheet_in b in
        let passed = ap (λ c. checked refused c accepted) w.0 in
        let m = made fresh (call (SET s)) accepted passed refl in
        let same : with_places b (replicate 32 empty) nothing_kept ≡ unkept (changed fresh (SET s)) =
        λ i. record { loaded = e i; fields = b.fields; period = b.period; benchmarks = w.1 i; places = sym (empty_under (figures_of s) 32) i; kept = nothing_kept } in
        subst Reachable (sym same) (unkept_reachable (changed fresh (SET s)) (subst Reachable m (step_reachable fresh_reachable (call (SET s)))) s passed)

fits_reachable : (b : Book) → Fits b → Reachable (unkept b)
unfolding Has
fits_reachable b h =
    fill b [] b.places (omega (arith, h.size))
    (λ i l. h.places (suc i) (in_range (suc i) (omega arith) (omega (arith, h.size))))
    (subst (λ n. Has b (replicate n empty)) (sym h.size) (sheet_there b h))

pub stands_reachable : (b : Book) → Stands b → Reachable b
stands_reachable b h = go b.kept.any refl
  where
    go : (t : Bool) → b.kept.any ≡ t → Reachable b
    go false e = subst Reachable (ap (λ k. with_places b b.places k) (sym (h.nothing_kept_lem e))) (fits_reachable b h.fits)
    go true e =
        let w = h.step_kept e in
        let s = sheet_in b in
        let passed = (h.fits.with_sheet (ap (λ d. d.loaded) w.1)).0 in
        let m = made (restored b) (call (SET s)) accepted (ap (λ c. checked refused c accepted) passed) refl in
        subst Reachable (m ∙ sym w.1) (step_reachable (fits_reachable (restored b) w.0) (call (SET s)))
