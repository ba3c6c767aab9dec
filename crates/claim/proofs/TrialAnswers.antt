-- What TRIAL tells, by what is read from the accepted calls: the codes that a SET made in its place would send back to draft.
-- Assumes nothing.
use mathlib.Core.Path.{◌≡◌, refl, sym, ◌∙◌, ap, ap₂, subst}
use mathlib.Core.Bool.{Bool, true, false, cond, ◌&&◌, ◌||◌}
use mathlib.Core.List.{List, [], ◌∷◌}
use mathlib.Core.Logic.{◌↔◌}
use mathlib.Core.Option.{Option, none, some}
use Prim.Native.Nat.{ℕ, zero, suc, ◌+◌, ◌<◌}
use native.Mathlib.Decide.{dec_lt}
use native.Mathlib.Omega.{arith}
use lib.Dec.{eqb}
use lib.ListN.{drop}
use lib.Seq.{drop-drop}
use borrow.Author.Tests.{eqb-true}
use Rattle.laws.specs.Notions.{bit, set_of}
use Rattle.laws.proofs.Every.{and_left}
use Rattle.laws.proofs.Never.{never}
use Rattle.laws.proofs.Sets.{bit_of_set, bit_past_set}
use Rattle.tariff.specs.declared.Tariff.{Tariff}
use Rattle.book.specs.declared.Book.{Book}
use Rattle.book.specs.Calls.{Sheet, Act, SET, PUT, OPEN, CLOSE, DROP, UNDO, ASK, CONFIRM, DIRECT, Call, by, refusal_number, is_accepted}
use Rattle.book.specs.Checks.{Holding, is_open, inside, set_answer, answer}
use Rattle.book.specs.Book.{book_readings, step}
use Rattle.book.proofs.Places.{code_range}
use Rattle.book.proofs.Accepted.{confirm_accepted, open_accepted}
use Rattle.stands.proofs.Kept.{none_of}
use Rattle.queries.specs.Queries.{refused, falling}
use Rattle.trial.specs.Trial.{is_draft, falls, codes_where, told_unless, trial_of}
use Rattle.history.specs.History.{sheet_of, tariff_at, directed_of, open_of, marked_of, stays_open, effective, undoable, held_as, readings_of, readings, noted, log_after}
use Rattle.history.proofs.Readings.{held_read}
use Rattle.claim.specs.Claim.{WouldFall, TrialAnswer}

-- an open code has a tariff
abbrev pub Tariffed : List Act → Type 0
Tariffed log = (k : ℕ) → open_of log k ≡ true → (x : Tariff) × (tariff_at log k ≡ some x)

module _ (log : List Act) (u : Bool) (has : Tariffed log) where
  -- after a call that leaves code k not open where c holds
  not_open : (k : ℕ) (t : Option Tariff) (c : Bool) → cond c false (open_of log k) ≡ true → (x : Tariff) × (cond c t (tariff_at log k) ≡ some x)
  not_open k t true e = never (cc)
  not_open k t false e = has k e

  -- and after one that leaves code j open, where its place holds something
  opened : (j k : ℕ) (h : Holding) → held_as (tariff_at log j) (open_of log j) (marked_of log j) (directed_of log j) ≡ some h
      → (c : Bool) → eqb j k ≡ c → cond c true (open_of log k) ≡ true → (x : Tariff) × (tariff_at log k ≡ some x)
  opened j k h its true q o =
      subst (λ i. (x : Tariff) × (tariff_at log i ≡ some x)) (eqb-true j k q)
      (h.tariff, (held_read (tariff_at log j) (open_of log j) (marked_of log j) (directed_of log j) h its).0)
  opened j k h its false q o = has k o

  tariffed_act : (desk : ℕ) (a : Act) → is_accepted (answer desk (readings_of log u) a) ≡ true → Tariffed (a ∷ log)
  tariffed_act desk (SET s) e k o = has k (and_left (open_of log k) (directed_of log k || stays_open s (tariff_at log k)) o)
  tariffed_act desk (PUT j x) e k o = not_open k _ (eqb j k) o
  tariffed_act desk (OPEN j) e k o =
      let f = open_accepted desk j (held_as (tariff_at log j) (open_of log j) (marked_of log j) (directed_of log j)) (sheet_of log) e in
      opened j k f.h f.its (eqb j k) refl o
  tariffed_act desk (CLOSE j) e k o = closed (eqb j k) o
    where
      closed : (c : Bool) → cond c false (open_of log k) ≡ true → (x : Tariff) × (tariff_at log k ≡ some x)
      closed true o = never (cc)
      closed false o = has k o
  tariffed_act desk (DROP j) e k o = not_open k none (eqb j k) o
  tariffed_act desk UNDO e k o = has k o
  tariffed_act desk (ASK j) e k o = has k o
  tariffed_act desk (CONFIRM j) e k o =
      let f = confirm_accepted desk j (held_as (tariff_at log j) (open_of log j) (marked_of log j) (directed_of log j)) e in
      opened j k f.1 f.2 (eqb j k) refl o
  tariffed_act desk (DIRECT j) e k o = has k o

-- so it is of a log and of what is left of it without its newest calls, whichever of them UNDO may take back
abbrev pub AlwaysTariffed : List Act → Type 0
AlwaysTariffed log = (n : ℕ) → Tariffed (drop n log)

one_more : (a : Act) (log : List Act) → Tariffed (a ∷ log) → AlwaysTariffed log → AlwaysTariffed (a ∷ log)
one_more a log now has zero = now
one_more a log now has (suc n) = has n

some_less : (m : ℕ) (log : List Act) → AlwaysTariffed log → AlwaysTariffed (drop m log)
some_less m log has n = subst Tariffed (sym (drop-drop n m log)) (has (m + n))

pub tariffed_at_start : AlwaysTariffed []
tariffed_at_start zero k e = never (cc)
tariffed_at_start (suc n) k e = never (cc)

module _ (log : List Act) (has : AlwaysTariffed (effective log)) where
  noted_act : (desk : ℕ) (a : Act) → is_accepted (answer desk (readings log) a) ≡ true → AlwaysTariffed (effective (a ∷ log))
  noted_act desk (SET s) e = one_more (SET s) (effective log) (tariffed_act (effective log) (undoable log) (has 0) desk (SET s) e) has
  noted_act desk (PUT j x) e = one_more (PUT j x) (effective log) (tariffed_act (effective log) (undoable log) (has 0) desk (PUT j x) e) has
  noted_act desk (OPEN j) e = one_more (OPEN j) (effective log) (tariffed_act (effective log) (undoable log) (has 0) desk (OPEN j) e) has
  noted_act desk (CLOSE j) e = one_more (CLOSE j) (effective log) (tariffed_act (effective log) (undoable log) (has 0) desk (CLOSE j) e) has
  noted_act desk (DROP j) e = one_more (DROP j) (effective log) (tariffed_act (effective log) (undoable log) (has 0) desk (DROP j) e) has
  noted_act desk UNDO e = some_less 1 (effective log) has
  noted_act desk (ASK j) e = one_more (ASK j) (effective log) (tariffed_act (effective log) (undoable log) (has 0) desk (ASK j) e) has
  noted_act desk (CONFIRM j) e = one_more (CONFIRM j) (effective log) (tariffed_act (effective log) (undoable log) (has 0) desk (CONFIRM j) e) has
  noted_act desk (DIRECT j) e = one_more (DIRECT j) (effective log) (tariffed_act (effective log) (undoable log) (has 0) desk (DIRECT j) e) has

  tariffed_noted : (c : Call) → AlwaysTariffed (effective (noted log c))
  tariffed_noted c = go (is_accepted (answer c.desk (readings log) c.act)) refl
    where
      go : (t : Bool) → is_accepted (answer c.desk (readings log) c.act) ≡ t → AlwaysTariffed (effective (cond t (c.act ∷ log) log))
      go true e = noted_act c.desk c.act e
      go false e = has

pub tariffed : (cs : List Call) (log : List Act) → AlwaysTariffed (effective log) → AlwaysTariffed (effective (log_after log cs))
unfolding log_after
tariffed [] log has = has
tariffed (c ∷ cs) log has = tariffed cs (noted log c) (tariffed_noted log has c)

-- a refusal is told exactly where there is one
told_refusal : (o : Option ℕ) (codes n : ℕ) → (told_unless o (falling codes) ≡ refused n) ↔ (o ≡ some n)
told_refusal none codes n = (λ e. never (cc), λ e. never (cc))
told_refusal (some m) codes n = (λ e. cc, λ e. cc)

-- open before and a draft after, of a code whose tariff stays
fall_exactly : (t : Option Tariff) (o q m n d : Bool) → (o ≡ true → (x : Tariff) × (t ≡ some x))
    → ((is_open (held_as t o m d) && is_draft (held_as t q n d)) ≡ true) ↔ ((o ≡ true) × (q ≡ false))
fall_exactly none o q m n d h = (λ e. never (cc), λ e. let f = (h e.0).1 in never (cc))
fall_exactly (some x) false q m n d h = (λ e. never (cc), λ e. never (let z = e.0 in cc))
fall_exactly (some x) true true m n d h = (λ e. never (cc), λ e. never (let z = e.1 in cc))
fall_exactly (some x) true false m n d h = (λ e. (refl, refl), λ e. refl)

-- a TRIAL on a book of which the checks read what they read from the log, before a SET and after it
module _ (desk : ℕ) (log : List Act) (u : Bool) (b : Book) (s : Sheet) (same : book_readings b ≡ readings_of log u)
    (after : book_readings (step b (by desk (SET s))).book ≡ readings_of (SET s ∷ log) true)
    (has : Tariffed log) (known : (k : ℕ) (x : Tariff) → tariff_at log k ≡ some x → inside k ≡ true) where
  abbrev next : List Act
  next = SET s ∷ log

  falls_read : (k : ℕ) → falls b (step b (by desk (SET s))).book k
      ≡ (is_open (held_as (tariff_at log k) (open_of log k) (marked_of log k) (directed_of log k)) && is_draft (held_as (tariff_at log k) (open_of next k) false (directed_of log k)))
  falls_read k = ap₂ (λ r q. is_open (r.held k) && is_draft (q.held k)) same after

  codes_are : (i : ℕ) → (bit (codes_where (falls b (step b (by desk (SET s))).book)) i ≡ true) ↔ WouldFall log s i
  codes_are i = go (dec_lt i 32)
    where
      test : ℕ → Bool
      test j = falls b (step b (by desk (SET s))).book (suc j)

      f : ((is_open (held_as (tariff_at log (suc i)) (open_of log (suc i)) (marked_of log (suc i)) (directed_of log (suc i))) && is_draft (held_as (tariff_at log (suc i)) (open_of next (suc i)) false (directed_of log (suc i)))) ≡ true) ↔ WouldFall log s i
      f = fall_exactly (tariff_at log (suc i)) (open_of log (suc i)) (open_of next (suc i)) (marked_of log (suc i)) false (directed_of log (suc i)) (has (suc i))

      go : Dec (i < 32) → (bit (set_of 32 test) i ≡ true) ↔ WouldFall log s i
      go (yes h) = (λ e. f.0 (sym (bit_of_set 32 test i h ∙ falls_read (suc i)) ∙ e), λ w. bit_of_set 32 test i h ∙ falls_read (suc i) ∙ f.1 w)
      go (no h) = (
        λ e. never (let z : false ≡ true = sym (bit_past_set 32 test i (omega arith)) ∙ e in cc),
        λ w. let x = has (suc i) w.0 in absurd (omega (arith, (code_range (suc i) (known (suc i) x.0 x.1)).1)),
      )

pub trial_answer : (desk : ℕ) (log : List Act) (u : Bool) (b : Book) (s : Sheet) → book_readings b ≡ readings_of log u
    → (is_accepted (set_answer desk s) ≡ true → book_readings (step b (by desk (SET s))).book ≡ readings_of (SET s ∷ log) true)
    → Tariffed log → ((k : ℕ) (x : Tariff) → tariff_at log k ≡ some x → inside k ≡ true) → TrialAnswer desk log s (trial_of b desk s)
unfolding trial_of step
trial_answer desk log u b s same after has known =
    record {
      refused_exactly = told_refusal (refusal_number (set_answer desk s)) _;
      falling_exactly = λ e. (_, ap (λ o. told_unless o (falling (codes_where (falls b (step b (by desk (SET s))).book)))) (none_of (refusal_number (set_answer desk s)) e), codes_are desk log u b s same (after e) has known);
    }
