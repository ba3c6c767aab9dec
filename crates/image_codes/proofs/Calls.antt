-- A call on a code, settled on the place that an image has there: what `Changes` asks where there is no image, where it is refused and where
-- its place is stored.
-- Assumes nothing.
use mathlib.Core.Path.{◌≡◌, refl, sym, ◌∙◌, ap, ap₂}
use mathlib.Core.Bool.{Bool, true, false, cond}
use mathlib.Core.List.{List}
use Prim.Native.Nat.{ℕ, suc, ◌<◌}
use lib.ListN.{length}
use native.Mathlib.Omega.{arith}
use Rattle.laws.proofs.Never.{never}
use Rattle.refusal.specs.declared.Check.{Check}
use Rattle.refusal.specs.declared.Check.TheVariants.{Pass}
use Rattle.refusal.specs.Checks.{checked}
use Rattle.refusal.proofs.Checks.{first_passes}
use Rattle.tariff.specs.Tariff.{record_length, record_check}
use Rattle.benchmark.specs.declared.Benchmarks.{Benchmarks}
use Rattle.book.specs.declared.Reply.{Reply}
use Rattle.book.specs.declared.Reply.TheVariants as reply
use Rattle.book.specs.declared.Place.{Place}
use Rattle.book.specs.declared.Settled.{Settled}
use Rattle.book.specs.Calls.{Record, Call, Answer, accepted, refused, is_accepted}
use Rattle.book.specs.Checks.{inside}
use Rattle.book.specs.Book.{nothing_kept, set_place, with_places, step, Reachable}
use Rattle.book.specs.Promises.{answer_of, Does}
use Rattle.book.specs.Settling.{code_check, open_check, accepted_by, settled_in, Settles, HasPlace}
use Rattle.book.proofs.Places.{record_length_lem}
use Rattle.book.proofs.Accepted.{checked_accepted}
use Rattle.book.proofs.Steps.{unchanged, answered_by}
use Rattle.putting.specs.Putting.{put_checks}
use Rattle.image.specs.Layout.{loaded_at, start_of}
use Rattle.image.specs.Image.{word, flag_of, place_at, figures_in, book_in, is_image}
use Rattle.image.specs.Changing.{no_book, number_of, Changes}
use Rattle.image.proofs.Places.{place_there}
use Rattle.image.proofs.Books.{image_alike, place_stored}
use Rattle.image_codes.specs.Storing.{Stored}

-- no image
pub no_image : (c : Call) (l : List ℕ) → is_image l ≡ false → Changes c l no_book l
no_image c l e =
    record {
      no_book_lem = λ f. refl;
      answers = λ f r. never (cc);
      leaves = λ f r. never (cc);
      untouched = λ n. refl;
      remains = refl;
      stays_canonical = λ h. h;
    }

-- the book of an image has the place that is read there
module _ (l : List ℕ) (k i : ℕ) (p : Place) (index : (i < 32) × (inside k ≡ true → suc i ≡ k)) (is : p ≡ place_at l (start_of i)) where
  pub has_place : (loaded : Bool) (figures : Benchmarks) → loaded ≡ flag_of (word l loaded_at) → figures ≡ figures_in l → Reachable (book_in l)
      → HasPlace (book_in l) k i p loaded figures
  unfolding book_in
  has_place loaded figures e f r =
      record { reachable = r; within = index.0; index = index.1; place = place_there l i index.0 ∙ sym is; is_loaded = sym e; has_figures = sym f }

-- an answer accepts as its reply does, and the place is then the one that the call leaves
accepts_as : (q : Reply) (months : List ℕ) → is_accepted (answer_of q months) ≡ accepted_by q
accepts_as reply.Accepted months = refl
accepts_as (reply.Cells n) months = refl
accepts_as (reply.Refused n) months = refl
accepts_as (reply.Over region method t excess) months = refl

module _ (check : Check) (next : Answer) (before after : Place) (r : Settled) (h : Settles check next before after r) (e : accepted_by r.reply ≡ true) where
  has_accepted : is_accepted (checked refused check next) ≡ true
  has_accepted = ap is_accepted (sym h.answers) ∙ accepts_as r.reply r.months ∙ e

  pub settled_place : r.place ≡ after
  settled_place = h.leaves ∙ ap (λ t. cond t after before) has_accepted

  pub settled_passes : check ≡ Pass
  settled_passes = (checked_accepted check next has_accepted).0

-- a record that PUT accepts passes refusal 8, and so has its 27 numbers
pub put_length : (desk k : ℕ) (p q : Place) (x : Record) (r : Settled) → Settles (put_checks desk k p x) accepted p q r → accepted_by r.reply ≡ true
    → length x ≡ record_length
put_length desk k p q x r h e =
    let past-6 = (first_passes (code_check k) _ (settled_passes (put_checks desk k p x) accepted p q r h e)).1 in
    let past-7 = (first_passes (open_check p.state) _ past-6).1 in
    record_length_lem x (first_passes (record_check x) _ past-7).0

accepted_number_lem : (q : Reply) (months : List ℕ) → accepted_by q ≡ true → number_of (answer_of q months) ≡ 0
accepted_number_lem reply.Accepted months e = refl
accepted_number_lem (reply.Cells n) months e = refl
accepted_number_lem (reply.Refused n) months e = never (cc)
accepted_number_lem (reply.Over region method t excess) months e = never (cc)

module _ (c : Call) (l : List ℕ) (i : ℕ) (r : Settled) (is : is_image l ≡ true) (does : Reachable (book_in l) → Does (book_in l) c (settled_in (book_in l) i r)) where
  -- refused: nothing is written
  pub refused_on : (n : ℕ) → ((months : List ℕ) → n ≡ number_of (answer_of r.reply months)) → accepted_by r.reply ≡ false → Changes c l n l
  refused_on n number e =
      record {
        no_book_lem = λ f. never (cc);
        answers = λ f from. number r.months ∙ ap number_of (does from).answers;
        leaves = λ f from.
            sym (unchanged (book_in l) c (step (book_in l) c).answer (sym (answered_by (book_in l) c)) (ap is_accepted (sym (does from).answers) ∙ accepts_as r.reply r.months ∙ e));
        untouched = λ g. refl;
        remains = refl;
        stays_canonical = λ h. h;
      }

  -- accepted: its place is stored, and the chance to UNDO is ended
  pub accepted_on : (m : List ℕ) (q : Place) → i < 32 → accepted_by r.reply ≡ true → Stored l m i q → r.place ≡ q → Changes c l 0 m
  accepted_on m q h e s at =
      record {
        no_book_lem = λ f. never (cc);
        answers = λ f from. sym (accepted_number_lem r.reply r.months e) ∙ ap number_of (does from).answers;
        leaves = λ f from.
            place_stored l m i h s.front s.apart (s.nothing_kept_lem from)
            ∙ ap₂ (λ p k. with_places (book_in l) (set_place (book_in l).places (suc i) p) k) (s.place ∙ sym at) (ap (λ t. cond t nothing_kept (book_in l).kept) (sym e))
            ∙ (does from).leaves;
        untouched = λ g. absurd (g refl);
        remains = image_alike l m s.size (s.front 0 (omega arith));
        stays_canonical = s.stays_canonical;
      }
