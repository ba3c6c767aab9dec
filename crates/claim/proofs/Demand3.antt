-- Demand 3 holds: after any list of calls, of what its checks read from the calls alone (Readings.antt).
-- Assumes nothing.
use mathlib.Core.Path.{◌≡◌, refl, sym, ◌∙◌, ap, subst, subst₂}
use mathlib.Core.Bool.{Bool, true, false, cond, ◌&&◌, ◌||◌}
use mathlib.Core.Logic.{inl, inr}
use mathlib.Core.List.{List, [], ◌∷◌, ◌++◌}
use mathlib.Core.Option.{Option, none, some}
use Prim.Native.Nat.{ℕ}
use lib.IntN.{pos}
use lib.ListN.{length, get_elem?}
use lib.Signed.{◌≤ℤ◌}
use Rattle.laws.proofs.Never.{never}
use Rattle.tariff.specs.declared.Tariff.{Tariff}
use Rattle.tariff.specs.Tariff.{valid_tariff}
use Rattle.verdict.specs.Cells.{Cell, Offered}
use Rattle.book.specs.declared.Book.{Book}
use Rattle.book.specs.Calls.{Sheet, Act, SET, CONFIRM, DIRECT, Call, by, is_accepted}
use Rattle.book.specs.Checks.{inside, set_answer, answer}
use Rattle.book.specs.Book.{tariff_in, fresh, place_of, holding, held, in_force, book_readings, step, book_after, answers_of, Reachable}
use Rattle.book.proofs.Places.{held_inside}
use Rattle.book.proofs.Reached.{fresh_reachable}
use Rattle.book.proofs.Steps.{unchanged}
use Rattle.stands.specs.Stands.{MayOpen}
use Rattle.stands.proofs.Kept.{held_fits, reachable_fits}
use Rattle.stands.proofs.InForce.{recorded_valid}
use Rattle.history.specs.History.{tariff_at, directed_of, open_of, marked_of, stays_open, undoable, held_as, readings_of, readings, noted, log_after, accepted_of, answers_after}
use Rattle.claim.specs.Claim.{OpenIn, MonthsOf, excess_in, WithinCap, OpensOrAsks, OpenAnswer, ConfirmAnswer, DirectAnswer, Demand3}
use Rattle.history.proofs.Readings.{held_read, open_unmarked, Reads, step_reads, all_steps, at_start}
use Rattle.claim.proofs.OpenAnswers.{nowhere_above, open_answer_lem, confirm_answer_lem, direct_answer_lem}
use Rattle.claim.proofs.TrialAnswers.{tariffed_at_start, tariffed, trial_answer}

-- a tariff that may be open without a direction is within the cap
within_cap : (f : Option Sheet) (x : Tariff) → MayOpen f false x
    → (s : Sheet) × (f ≡ some s) × ((c : Cell) → Offered x c → (months : List ℕ) → MonthsOf s months → excess_in s x c months ≤ℤ pos 0)
within_cap none x m = absurd m
within_cap (some s) x m = (s, refl, nowhere_above s x (m refl))

-- the answer that stands at a place of the list
answer_at : (before after : List Call) (c : Call) (log : List Act)
    → get_elem? (answers_after log (before ++ (c ∷ after))) (length before) ≡ some (answer c.desk (readings (log_after log before)) c.act)
unfolding answers_after log_after
answer_at [] after c log = refl
answer_at (d ∷ before) after c log = answer_at before after c (noted log d)

-- after any list of calls
module _ (calls : List Call) where
  abbrev raw : List Act
  raw = log_after [] calls

  abbrev log : List Act
  log = accepted_of calls

  abbrev b : Book
  b = book_after fresh calls

  all_answers : answers_of fresh calls ≡ answers_after [] calls
  all_answers = (all_steps calls [] fresh fresh_reachable at_start).0

  reads : Reads b raw
  reads = (all_steps calls [] fresh fresh_reachable at_start).1

  same : book_readings b ≡ readings raw
  same = reads.0

  reached : Reachable b
  reached = record { calls = calls; left = refl }

  holds : (k : ℕ) → held (place_of b.places k) ≡ held_as (tariff_at log k) (open_of log k) (marked_of log k) (directed_of log k)
  holds k = ap (λ r. r.held k) same

  -- what a place holds, read from the log
  holds_read : (k : ℕ) (x : Tariff) (o m d : Bool) → held (place_of b.places k) ≡ some (holding x o m d)
      → (tariff_at log k ≡ some x) × (open_of log k ≡ o) × (marked_of log k ≡ m) × (directed_of log k ≡ d)
  holds_read k x o m d e = held_read (tariff_at log k) (open_of log k) (marked_of log k) (directed_of log k) (holding x o m d) (sym (holds k) ∙ e)

  -- a code with tariff x, and what its place holds
  holds_tariff : (k : ℕ) (x : Tariff) → tariff_at log k ≡ some x
      → held (place_of b.places k) ≡ some (holding x (open_of log k) (marked_of log k) (directed_of log k))
  holds_tariff k x e = holds k ∙ ap (λ t. held_as t (open_of log k) (marked_of log k) (directed_of log k)) e

  -- an open code has no mark, and a marked one is not open
  of_open : (k : ℕ) (x : Tariff) → tariff_at log k ≡ some x → open_of log k ≡ true → marked_of log k ≡ false
  of_open k x e o =
      let p = place_of b.places k in
      open_unmarked p.state p.directed (tariff_in p) (holding x (open_of log k) (marked_of log k) (directed_of log k)) (holds_tariff k x e) o

  of_marked : (k : ℕ) (x : Tariff) → tariff_at log k ≡ some x → marked_of log k ≡ true → open_of log k ≡ false
  of_marked k x e m = go (open_of log k) refl
    where
      go : (o : Bool) → open_of log k ≡ o → open_of log k ≡ false
      go true q = never (let z = of_open k x e q in cc)
      go false q = q

  -- what a place holds is a valid tariff, and one that may be open where it is open or marked
  fits_at : (k : ℕ) (x : Tariff) (o m d : Bool) → held (place_of b.places k) ≡ some (holding x o m d)
      → (inside k ≡ true) × (valid_tariff x ≡ true) × ((o || m) ≡ true → MayOpen (in_force b) d x)
  fits_at k x o m d e =
      let p = place_of b.places k in
      let w = reachable_fits b reached in
      let i = held_inside b.places k (holding x o m d) w.size e in
      let f = held_fits (in_force b) p.state p (w.places k i) (holding x o m d) e in
      (i, sym (ap valid_tariff f.1) ∙ recorded_valid (tariff_in p) f.0, λ q. subst₂ (MayOpen (in_force b)) f.3 f.1 (f.2 q))

  -- a code with a tariff is one of the 32, and its tariff is valid
  known : (k : ℕ) (x : Tariff) → tariff_at log k ≡ some x → (inside k ≡ true) × (valid_tariff x ≡ true)
  known k x e =
      let f = fits_at k x (open_of log k) (marked_of log k) (directed_of log k) (holds_tariff k x e) in
      (f.0, f.1)

  -- an open or marked tariff without a direction is within the cap
  held_within : (k : ℕ) (x : Tariff) (o m : Bool) → (o || m) ≡ true → held (place_of b.places k) ≡ some (holding x o m false) → WithinCap log x
  held_within k x o m t e =
      let w = within_cap (in_force b) x ((fits_at k x o m false e).2 t) in
      (w.0, sym (ap (λ r. r.sheet) same) ∙ w.1, w.2)

  -- the answers that are read for an OPEN or ASK, for a CONFIRM and for a DIRECT
  read_open : (c : Call) (k : ℕ) → OpensOrAsks c.act k → OpenAnswer c.desk log k (answer c.desk (readings raw) c.act)
  read_open c k (inl e) = subst (λ a. OpenAnswer c.desk log k (answer c.desk (readings raw) a)) (sym e) (open_answer_lem c.desk log (undoable raw) k (known k))
  read_open c k (inr e) = subst (λ a. OpenAnswer c.desk log k (answer c.desk (readings raw) a)) (sym e) (open_answer_lem c.desk log (undoable raw) k (known k))

  read_confirm : (c : Call) (k : ℕ) → c.act ≡ CONFIRM k → ConfirmAnswer c.desk log k (answer c.desk (readings raw) c.act)
  read_confirm c k e =
      subst (λ a. ConfirmAnswer c.desk log k (answer c.desk (readings raw) a)) (sym e) (confirm_answer_lem c.desk log (undoable raw) k (known k) (of_marked k))

  read_direct : (c : Call) (k : ℕ) → c.act ≡ DIRECT k → DirectAnswer c.desk log k (answer c.desk (readings raw) c.act)
  read_direct c k e =
      subst (λ a. DirectAnswer c.desk log k (answer c.desk (readings raw) a)) (sym e) (direct_answer_lem c.desk log (undoable raw) k (known k))

  -- what is read after a SET
  read_set : (desk : ℕ) (s : Sheet) → is_accepted (set_answer desk s) ≡ true → book_readings (step b (by desk (SET s))).book ≡ readings_of (SET s ∷ log) true
  read_set desk s e = (step_reads raw b reached reads (by desk (SET s))).0 ∙ ap (λ t. readings (cond t (SET s ∷ raw) raw)) e

  -- an open tariff under a direction stays open, whether the SET is accepted or not
  open_stays : (k : ℕ) (x : Tariff) → OpenIn b k x true → (desk : ℕ) (s : Sheet) → OpenIn (step b (by desk (SET s))).book k x true
  open_stays k x e desk s = go (is_accepted (set_answer desk s)) refl
    where
      go : (t : Bool) → is_accepted (set_answer desk s) ≡ t → OpenIn (step b (by desk (SET s))).book k x true
      go true q =
          let r = holds_read k x true false true e in
          ap (λ r. r.held k) (read_set desk s q)
          ∙ (λ i. held_as (r.0 i) (r.1 i && (r.3 i || stays_open s (tariff_at log k))) false (r.3 i))
      go false q = ap (λ d. held (place_of d.places k)) (unchanged b (by desk (SET s)) (set_answer desk s) refl q) ∙ e

-- the theorem
pub demand3 : (calls : List Call) → Demand3 calls (answers_of fresh calls) (book_after fresh calls)
unfolding step
demand3 calls =
    record {
      answered = all_answers calls;
      open_places = λ k x d. (
        λ e. let r = holds_read calls k x true false d e in (r.1, r.0, r.3),
        λ w. holds calls k ∙ (λ i. held_as (w.1 i) (w.0 i) (of_open calls k x w.1 w.0 i) (w.2 i)),
      );
      within = λ k x e. held_within calls k x true false refl e;
      directed_stays = open_stays calls;
      marked_places = λ k x d. (
        λ e. let r = holds_read calls k x false true d e in (r.2, r.0, r.3),
        λ w. holds calls k ∙ (λ i. held_as (w.1 i) (of_marked calls k x w.1 w.0 i) (w.0 i) (w.2 i)),
      );
      marked_within = λ k x e. held_within calls k x false true refl e;
      each_open = λ before after c k e a. (
        answer c.desk (readings (raw before)) c.act,
        ap (λ l. get_elem? l (length before)) (all_answers calls ∙ ap (answers_after []) e) ∙ answer_at before after c [],
        read_open before c k a,
      );
      next_open = λ c k a. subst (OpenAnswer c.desk (log calls) k) (ap (λ r. answer c.desk r c.act) (sym (same calls))) (read_open calls c k a);
      next_confirm = λ c k a. subst (ConfirmAnswer c.desk (log calls) k) (ap (λ r. answer c.desk r c.act) (sym (same calls))) (read_confirm calls c k a);
      next_direct = λ c k a. subst (DirectAnswer c.desk (log calls) k) (ap (λ r. answer c.desk r c.act) (sym (same calls))) (read_direct calls c k a);
      next_trial = λ desk s.
          trial_answer desk (log calls) (undoable (raw calls)) (b calls) s (same calls) (read_set calls desk s)
          (tariffed calls [] tariffed_at_start 0) (λ k x e. (known calls k x e).0);
    }
