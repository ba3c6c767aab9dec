-- Two books that are alike for a desk without all fourteen regions answer every list of its calls alike. `Alike` is kept by each call.
-- Assumes nothing.
use mathlib.Core.Path.{◌≡◌, refl, sym, ◌∙◌, ap, ap₂, fun_ext, subst}
use mathlib.Core.Bool.{Bool, true, false, not, cond, ◌&&◌, ◌||◌}
use mathlib.Core.List.{List, [], ◌∷◌, map}
use mathlib.Core.Option.{Option, none, some}
use Prim.Native.Nat.{ℕ, ◌*◌}
use lib.Dec.{leb, ltb}
use borrow.Author.Tests.{ltb-true}
use Rattle.laws.specs.Notions.{sum}
use Rattle.laws.proofs.Every.{and_left, and_right}
use Rattle.refusal.specs.Checks.{need, given}
use Rattle.calendar.specs.declared.Period.{Period}
use Rattle.shares.specs.Shares.{whole_share}
use Rattle.tariff.specs.declared.Tariff.{Tariff}
use Rattle.tariff.specs.Tariff.{tariff_of, standing_in}
use Rattle.desks.specs.Desks.{is_full, in_desk, may_use, may_query}
use Rattle.charge.specs.Charge.{arrangement}
use Rattle.charge.specs.Most.{months_most}
use Rattle.cap.specs.declared.CellNumbers.{CellNumbers}
use Rattle.cap.specs.Cap.{maximum, charged, capped}
use Rattle.verdict.specs.Cells.{Cell, cell, offered, Offered, tariff_numbers}
use Rattle.verdict.proofs.Meaning.{not_both}
use Rattle.verdict.proofs.Walk.{arrangement_small}
use Rattle.book.specs.declared.State.TheVariants.{Draft, Marked, Open}
use Rattle.book.specs.declared.Place.{Place}
use Rattle.book.specs.declared.Book.{Book}
use Rattle.book.specs.Calls.{Sheet, Act, SET, PUT, OPEN, CLOSE, DROP, UNDO, ASK, CONFIRM, DIRECT, by, refused, is_accepted}
use Rattle.book.specs.Checks.{Holding, figures_of, inside, opened_as, verdict_answer, may_use_held, put_answer, open_answer, close_answer, drop_answer, confirm_answer, answer}
use Rattle.book.specs.Book.{empty, place_with, with_state, place_of, set_place, held, in_force, book_readings, with_place, changed, after, step}
use Rattle.book.proofs.Accepted.{need_accepted}
use Rattle.queries.specs.Queries.{Telling, benchmark_charge, maximum_charge, quotation, in_ranges, benchmark_of, maximum_of}
use Rattle.quoting.specs.Quote.{cell_allowed, months_allowed, quotation_in, quote_of}
use Rattle.queries.specs.Queries as tells
use Rattle.queries.proofs.Ranges.{Within, within}
use Rattle.quoting.proofs.Ranges.{cell_within}
use Rattle.trial.proofs.Trials.{trial_outside}
use Rattle.rebates.specs.declared.Account.{Account}
use Rattle.rebates.specs.Rebates.{months_in, quoted_of, is_refused, fails19, fails18, open_directed, first_place, scale_with, scale_for, due_by, due_of, with_rebate, total_of, unless_at, places_most, run_of, after_run}
use Rattle.rebates.specs.Rebates as run
use Rattle.alike.specs.Replies.{Asking, act, BENCHMARK, MAXIMUM, QUOTE, TRIAL, REBATE, answered, told, ran, reply_to, left_by, replies}
use Rattle.alike.specs.Alike.{SheetsAlike, InForceAlike, Alike, TwoBooks}
use Rattle.alike.proofs.Figures.{benchmark_same, m_same, numbers_same}
use Rattle.alike.proofs.Inside.{cell_inside}
use Rattle.alike.proofs.Verdicts.{verdict_same}

-- the same behind a test, behind what may not be there, and behind the sheets in force
module _ {A : Type 0} (refuse : ℕ → A) where
  need_same : (t : Bool) (n : ℕ) {x y : A} → (t ≡ true → x ≡ y) → need refuse t n x ≡ need refuse t n y
  need_same true n h = h refl
  need_same false n h = refl

  given_same : {B : Type 0} {o q : Option B} → o ≡ q → (n : ℕ) {f g : B → A} → ((x : B) → f x ≡ g x) → given refuse o n f ≡ given refuse q n g
  given_same e n h = ap₂ (λ o f. given refuse o n f) e (fun_ext h)

  sheets_same : (desk : ℕ) (o q : Option Sheet) → InForceAlike desk o q → (n : ℕ) (f : Sheet → A) → ((s t : Sheet) → SheetsAlike desk s t → f s ≡ f t)
      → given refuse o n f ≡ given refuse q n f
  sheets_same desk none none h n f e = refl
  sheets_same desk none (some t) h n f e = absurd h
  sheets_same desk (some s) none h n f e = absurd h
  sheets_same desk (some s) (some t) h n f e = e s t h

module _ (desk : ℕ) (part : is_full desk ≡ false) where
  -- a tariff that the desk may use, under two sheets
  offered_same : (x : Tariff) → may_use desk x.regions ≡ true → (s t : Sheet) → SheetsAlike desk s t
      → (c : Cell) → Offered x c → tariff_numbers (figures_of s) x c ≡ tariff_numbers (figures_of t) x c
  offered_same x may s t g c o =
      numbers_same desk s t g (arrangement x) (standing_in x c.region) c (cell_inside desk x c may o) o.0 (arrangement_small x) o.1

  -- QUOTE from 13 on
  module _ (x : Tariff) (r p : ℕ) (months : List ℕ) where
    allowed_offered : cell_allowed x r p ≡ true → Offered x (cell r p)
    unfolding cell_allowed
    allowed_offered e = let w = cell_within x r p e in (w.0, w.1, and_right (ltb r 14 && ltb p 2) (offered x (cell r p)) e)

    abbrev quoted : Period → Sheet → Telling
    quoted d s =
        need tells.refused (cell_allowed x r p && months_allowed d.months months) 13
        (need tells.refused (may_use desk x.regions) 17 (quotation (quotation_in s x r p months)))

    quoted_same : (s t : Sheet) → SheetsAlike desk s t → quoted s.period s ≡ quoted t.period t
    quoted_same s t g =
        ap (λ d. quoted d s) g.period
        ∙ need_same tells.refused (cell_allowed x r p && months_allowed t.period.months months) 13
        (λ e. need_same tells.refused (may_use desk x.regions) 17
        (λ may. ap (λ (d : CellNumbers). quotation (record { charge = charged d x months; maximum = capped d months }))
        (offered_same x may s t g (cell r p) (allowed_offered (and_left (cell_allowed x r p) _ e)))))

  module _ (b c : Book) (h : Alike desk b c) where
    held_same : (k : ℕ) → (book_readings b).held k ≡ (book_readings c).held k
    held_same k = ap (λ ps. held (place_of ps k)) h.places

    -- the nine calls; of a tariff under a direction no verdict is asked for
    opened_same : (x : Tariff) → may_use desk x.regions ≡ true → (d : Bool) (s t : Sheet) → SheetsAlike desk s t
        → opened_as d (figures_of s) x ≡ opened_as d (figures_of t) x
    opened_same x may true s t g = refl
    opened_same x may false s t g = ap verdict_answer (verdict_same (figures_of s) (figures_of t) x (offered_same x may s t g))

    open_same : (k : ℕ) → open_answer desk k ((book_readings b).held k) (in_force b) ≡ open_answer desk k ((book_readings c).held k) (in_force c)
    open_same k =
        need_same refused (inside k) 6
        (λ _. given_same refused (held_same k) 9
        (λ d. need_same refused (may_use_held desk d) 17
        (λ may. need_same refused (not d.is_open) 7
        (λ _. sheets_same refused desk (in_force b) (in_force c) h.sheets 10 _
        (opened_same d.tariff may d.is_directed)))))

    answer_same : (a : Act) → answer desk (book_readings b) a ≡ answer desk (book_readings c) a
    answer_same (SET s) = refl
    answer_same (PUT k x) = ap (λ o. put_answer desk k o x) (held_same k)
    answer_same (OPEN k) = open_same k
    answer_same (CLOSE k) = ap (close_answer desk k) (held_same k)
    answer_same (DROP k) = ap (drop_answer desk k) (held_same k)
    answer_same UNDO = rw part
    answer_same (ASK k) = open_same k
    answer_same (CONFIRM k) = ap (confirm_answer desk k) (held_same k)
    answer_same (DIRECT k) = rw part

    -- BENCHMARK and MAXIMUM
    asked_same : (r a p : ℕ) (last : Bool) (f : Sheet → Telling)
        → (Within r a p last → in_desk desk r ≡ true → (s t : Sheet) → SheetsAlike desk s t → f s ≡ f t)
        → need tells.refused (in_ranges r a p && last) 13 (need tells.refused (may_query desk r) 17 (given tells.refused (in_force b) 10 f))
        ≡ need tells.refused (in_ranges r a p && last) 13 (need tells.refused (may_query desk r) 17 (given tells.refused (in_force c) 10 f))
    asked_same r a p last f e =
        need_same tells.refused (in_ranges r a p && last) 13
        (λ w. need_same tells.refused (may_query desk r) 17
        (λ may. sheets_same tells.refused desk (in_force b) (in_force c) h.sheets 10 f (e (within r a p last w) (rw part at may))))

    -- QUOTE
    quote_same : (k r p : ℕ) (months : List ℕ) → quote_of b desk k r p months ≡ quote_of c desk k r p months
    unfolding quote_of
    quote_same k r p months =
        need_same tells.refused (inside k) 6
        (λ _. given_same tells.refused (held_same k) 9
        (λ d. sheets_same tells.refused desk (in_force b) (in_force c) h.sheets 10 _ (quoted_same d.tariff r p months)))

    -- the rebate run, which goes by QUOTE, by what the places hold, and by m
    account_same : (a : Account) → quoted_of b desk a ≡ quoted_of c desk a
    unfolding quoted_of
    account_same a = ap (λ t. need tells.refused (leb a.count months_most) 13 t) (quote_same a.code a.region a.method (months_in a))

    scales_same : (o q : Option Sheet) → InForceAlike desk o q → (held : Option Holding) (a : Account) → scale_with o held a ≡ scale_with q held a
    scales_same none none g held a = refl
    scales_same none (some t) g held a = absurd g
    scales_same (some s) none g held a = absurd g
    scales_same (some s) (some t) g none a = refl
    scales_same (some s) (some t) g (some d) a =
        ap (λ m. 12 * whole_share * m) (m_same desk s t g (arrangement d.tariff) (standing_in d.tariff a.region) (cell a.region a.method))

    due_same : (a : Account) → due_of b desk a ≡ due_of c desk a
    unfolding due_of scale_for
    due_same a =
        ap₂ due_by (account_same a)
        (ap (λ o. scale_with (in_force b) o a) (held_same a.code) ∙ scales_same (in_force b) (in_force c) h.sheets ((book_readings c).held a.code) a)

    run_same : (l : List Account) → run_of b desk l ≡ run_of c desk l
    unfolding run_of total_of fails19 fails18
    run_same l =
        λ i. unless_at (first_place (λ place a. leb places_most place || is_refused (account_same a i)) l) 19
        (unless_at (first_place (λ place a. not (open_directed (held_same a.code i))) l) 18
        (run.accepted (sum (map (λ a. due_same a i) l))))

    after_same : (l : List Account) → after_run b desk l ≡ after_run c desk l
    unfolding after_run
    after_same l = λ i. cond (run.is_accepted (run_same l i)) (map (λ a. with_rebate (due_same a i) a) l) l

    reply_same : (a : Asking) → reply_to desk b a ≡ reply_to desk c a
    unfolding step benchmark_of maximum_of
    reply_same (act a) = ap answered (answer_same a)
    reply_same (BENCHMARK r a p l) =
        ap told
        (asked_same r a p (ltb l 2) _
        (λ w i s t g. ap benchmark_charge (benchmark_same desk s t g r a p l i w.arrangement w.method (ltb-true l 2 w.fourth))))
    reply_same (MAXIMUM r a p n) =
        ap told
        (asked_same r a p (leb n 120000) _
        (λ w i s t g. ap (λ (d : CellNumbers). maximum_charge (record { number = maximum d n; denominator = 12 * d.m }))
        (numbers_same desk s t g a 0 (cell r p) i w.region w.arrangement w.method)))
    reply_same (QUOTE k r p months) = ap told (quote_same k r p months)
    reply_same (TRIAL s) = ap told (trial_outside b s desk part ∙ sym (trial_outside c s desk part))
    reply_same (REBATE l) = ap₂ ran (run_same l) (after_same l)

    -- what is left is alike: a call that this desk can make changes one place, and no sheet
    placed_alike : (k : ℕ) (f : Place → Place) → Alike desk (with_place b k (f (place_of b.places k))) (with_place c k (f (place_of c.places k)))
    placed_alike k f = record { places = ap (λ ps. set_place ps k (f (place_of ps k))) h.places; sheets = h.sheets }

    changed_alike : (a : Act) → is_accepted (answer desk (book_readings b) a) ≡ true → Alike desk (changed b a) (changed c a)
    changed_alike (SET s) e = absurd (not_both (need_accepted (is_full desk) 17 _ e).0 part)
    changed_alike (PUT k x) e = placed_alike k (λ p. place_with Draft false (tariff_of x))
    changed_alike (OPEN k) e = placed_alike k (with_state Open)
    changed_alike (CLOSE k) e = placed_alike k (with_state Draft)
    changed_alike (DROP k) e = placed_alike k (λ p. empty)
    changed_alike UNDO e = absurd (not_both (need_accepted (is_full desk) 17 _ e).0 part)
    changed_alike (ASK k) e = placed_alike k (with_state Marked)
    changed_alike (CONFIRM k) e = placed_alike k (with_state Open)
    changed_alike (DIRECT k) e = absurd (not_both (need_accepted (is_full desk) 17 _ e).0 part)

    step_alike : (a : Act) → Alike desk (step b (by desk a)).book (step c (by desk a)).book
    unfolding step
    step_alike a =
        subst (λ q. Alike desk (after (answer desk (book_readings b) a) b a) (after q c a)) (answer_same a)
        (go (is_accepted (answer desk (book_readings b) a)) refl)
      where
        go : (t : Bool) → is_accepted (answer desk (book_readings b) a) ≡ t → Alike desk (cond t (changed b a) b) (cond t (changed c a) c)
        go true e = changed_alike a e
        go false e = h

    left_alike : (a : Asking) → Alike desk (left_by desk b a) (left_by desk c a)
    left_alike (act a) = step_alike a
    left_alike (BENCHMARK r a p l) = h
    left_alike (MAXIMUM r a p n) = h
    left_alike (QUOTE k r p months) = h
    left_alike (TRIAL s) = h
    left_alike (REBATE l) = h

  replies_same : (list : List Asking) (b c : Book) → Alike desk b c → replies desk b list ≡ replies desk c list
  unfolding replies
  replies_same [] b c h = refl
  replies_same (a ∷ list) b c h = ap₂ ◌∷◌ (reply_same b c h a) (replies_same list (left_by desk b a) (left_by desk c a) (left_alike b c h a))

pub two_books : TwoBooks
two_books desk part b c from from' h list = replies_same desk part list b c h
