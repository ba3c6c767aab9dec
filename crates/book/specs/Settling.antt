-- How the code goes about a call on the place of a code: its checks as one, and what is handed on.
-- Assumes nothing.
use Rattle.std.specs.Prelude.{◌≡◌, Bool, true, false, not, cond, ℕ, suc, ◌<◌, get_or, replicate}
use Rattle.refusal.specs.declared.Check.{Check}
use Rattle.refusal.specs.declared.Check.TheVariants.{Pass, Refuse}
use Rattle.refusal.specs.Checks.{unless, first, checked}
use Rattle.benchmark.specs.declared.Benchmarks.{Benchmarks}
use Rattle.book.specs.declared.State.{State}
use Rattle.book.specs.declared.State.TheVariants.{Empty, Draft, Marked, Open}
use Rattle.book.specs.declared.Reply.{Reply}
use Rattle.book.specs.declared.Reply.TheVariants as reply
use Rattle.book.specs.declared.Place.{Place}
use Rattle.book.specs.declared.Kept.{Kept}
use Rattle.book.specs.declared.Settled.{Settled}
use Rattle.book.specs.declared.Done.{Done}
use Rattle.book.specs.declared.Book.{Book}
use Rattle.book.specs.Calls.{Answer, refused, is_accepted}
use Rattle.book.specs.Checks.{inside}
use Rattle.book.specs.Book.{nothing_kept, beyond, set_place, with_places, Reachable}
use Rattle.book.specs.Promises.{answer_of, NoughtPast}

-- 6: code outside 1 to 32
abbrev pub code_check : ℕ → Check
code_check k = unless (inside k) 6 Pass

-- the checks that look at the state of a place: 9, 7, 12 and 16
abbrev pub is_filled : State → Bool
is_filled Empty = false
is_filled Draft = true
is_filled Marked = true
is_filled Open = true

abbrev pub is_open_state : State → Bool
is_open_state Empty = false
is_open_state Draft = false
is_open_state Marked = false
is_open_state Open = true

abbrev pub is_marked_state : State → Bool
is_marked_state Empty = false
is_marked_state Draft = false
is_marked_state Marked = true
is_marked_state Open = false

abbrev pub empty_check : State → Check
empty_check s = unless (is_filled s) 9 Pass

abbrev pub open_check : State → Check
open_check s = unless (not (is_open_state s)) 7 Pass

abbrev pub closed_check : State → Check
closed_check s = unless (is_open_state s) 12 Pass

abbrev pub mark_check : State → Check
mark_check s = unless (is_marked_state s) 16 Pass

-- 6 and 9, and then the checks of a call's own
abbrev pub held_check : ℕ → State → Check → Check
held_check k s next = first (code_check k) (first (empty_check s) next)

-- the answer of a call's checks
abbrev pub reply_of : Check → Reply
reply_of Pass = reply.Accepted
reply_of (Refuse n) = reply.Refused n

-- with a place: as it was where a check refused, and else as the call leaves it
abbrev pub place_by : Check → (before after : Place) → Place
place_by Pass before after = after
place_by (Refuse n) before after = before

abbrev pub settled_by : Check → (before after : Place) → Settled
settled_by check before after = record { reply = reply_of check; months = replicate 12 0; place = place_by check before after }

-- with a book
abbrev pub done_by : Check → Book → Done
done_by check b = record { reply = reply_of check; months = replicate 12 0; book = b }

-- what is kept for UNDO after a call on a code: an accepted one ends the chance, and "any call refused changes nothing"
abbrev pub accepted_by : Reply → Bool
accepted_by reply.Accepted = true
accepted_by (reply.Cells number) = true
accepted_by (reply.Refused number) = false
accepted_by (reply.Over region method t excess) = false

abbrev pub kept_after : Reply → Kept → Kept
kept_after q k = cond (accepted_by q) nothing_kept k

-- handed on: the book with the place after the call at its index
abbrev pub stored_in : Book → ℕ → Place → Reply → Book
stored_in b at p q = with_places b (set_place b.places (suc at) p) (kept_after q b.kept)

abbrev pub settled_in : Book → ℕ → Settled → Done
settled_in b at r = record { reply = r.reply; months = r.months; book = stored_in b at r.place r.reply }

-- What a call on one place comes to: the answer behind its checks, and the place as it was or, where the call is accepted, as it leaves it
pub record Settles (check : Check) (next : Answer) (before after : Place) (r : Settled) : Type 0 where
  pub answers : answer_of r.reply r.months ≡ checked refused check next
  pub leaves : r.place ≡ cond (is_accepted (checked refused check next)) after before
  pub rest_nought : NoughtPast r.reply r.months

-- What is handed to a call on a code in place of a book that its caller holds: the book, which calls leave, has place p at index i, which is
-- that of code k, and these figures of a sheet, if one is loaded
pub record HasPlace (b : Book) (k i : ℕ) (p : Place) (loaded : Bool) (figures : Benchmarks) : Type 0 where
  pub reachable : Reachable b
  pub within : i < 32
  pub index : inside k ≡ true → suc i ≡ k
  pub place : get_or b.places i beyond ≡ p
  pub is_loaded : b.loaded ≡ loaded
  pub has_figures : b.benchmarks ≡ figures
