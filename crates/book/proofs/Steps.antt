-- From what a call's checks came to, to what the call does.
-- Assumes nothing.
use mathlib.Core.Path.{◌≡◌, refl, sym, ◌∙◌, ap, ap₂, subst}
use mathlib.Core.Bool.{Bool, true, false, cond}
use mathlib.Core.List.{List, [], ◌∷◌}
use mathlib.Core.Option.{Option}
use Prim.Native.Nat.{ℕ, zero, suc}
use lib.ListN.{get_or, set}
use Rattle.laws.proofs.Never.{never}
use Rattle.laws.proofs.Lists.{noughts}
use Rattle.refusal.specs.declared.Check.{Check}
use Rattle.refusal.specs.declared.Check.TheVariants.{Pass, Refuse}
use Rattle.refusal.specs.Checks.{unless, first, checked, need}
use Rattle.book.specs.declared.Reply.{Reply}
use Rattle.book.specs.declared.Reply.TheVariants as reply
use Rattle.book.specs.declared.Place.{Place}
use Rattle.book.specs.declared.Kept.{Kept}
use Rattle.book.specs.declared.Book.{Book}
use Rattle.book.specs.declared.Settled.{Settled}
use Rattle.book.specs.Calls.{Call, Answer, accepted, refused, is_accepted}
use Rattle.book.specs.Checks.{Holding, inside, answer}
use Rattle.book.specs.Book.{nothing_kept, beyond, place_of, set_place, held, book_readings, with_places, with_place, changed, after, step}
use Rattle.book.specs.Promises.{answer_of, Does}
use Rattle.book.specs.Settling.{code_check, settled_by, done_by, accepted_by, kept_after, settled_in, Settles}

-- "Any call refused changes nothing", and the book after an accepted one
module _ (b : Book) (c : Call) (a : Answer) where
  pub unchanged : answer c.desk (book_readings b) c.act ≡ a → is_accepted a ≡ false → (step b c).book ≡ b
  unfolding step
  unchanged e f = ap (λ d. after d b c.act) e ∙ ap (λ t. cond t (changed b c.act) b) f

  pub made : answer c.desk (book_readings b) c.act ≡ a → is_accepted a ≡ true → (step b c).book ≡ changed b c.act
  unfolding step
  made e f = ap (λ d. after d b c.act) e ∙ ap (λ t. cond t (changed b c.act) b) f

pub answered_by : (b : Book) (c : Call) → (step b c).answer ≡ answer c.desk (book_readings b) c.act
unfolding step
answered_by b c = refl

-- SET and UNDO, which their checks alone decide: refused, or accepted with the book that the call leaves
module _ (b : Book) (c : Call) (checks : Check) (by : answer c.desk (book_readings b) c.act ≡ checked refused checks accepted) where
  pub refuses : (check : Check) (n : ℕ) → check ≡ checks → check ≡ Refuse n → Does b c (done_by check b)
  refuses check n e f =
      let a : answer c.desk (book_readings b) c.act ≡ refused n = by ∙ ap (λ k. checked refused k accepted) (sym e ∙ f) in
      rw f
      (record {
        answers = sym (answered_by b c ∙ a);
        leaves = sym (unchanged b c (refused n) a refl);
        rest_nought = λ i l. noughts 12 i;
      })

  pub accepts : (check : Check) → check ≡ checks → check ≡ Pass → (d : Book) → d ≡ changed b c.act → Does b c (done_by check d)
  accepts check e f d g =
      let a : answer c.desk (book_readings b) c.act ≡ accepted = by ∙ ap (λ k. checked refused k accepted) (sym e ∙ f) in
      rw f
      (record {
        answers = sym (answered_by b c ∙ a);
        leaves = g ∙ sym (made b c accepted a refl);
        rest_nought = λ i l. noughts 12 i;
      })

-- a call on one place that only its checks decide
pub settles : (check : Check) (before after : Place) → Settles check accepted before after (settled_by check before after)
settles Pass before after = record { answers = refl; leaves = refl; rest_nought = λ i l. noughts 12 i }
settles (Refuse n) before after = record { answers = refl; leaves = refl; rest_nought = λ i l. noughts 12 i }

-- a place stored where it was read leaves the book as it was
set_read : (ps : List Place) (i : ℕ) (p : Place) → get_or ps i beyond ≡ p → set ps i p ≡ ps
set_read [] i p e = refl
set_read (q ∷ ps) zero p e = ap (λ x. x ∷ ps) (sym e)
set_read (q ∷ ps) (suc i) p e = ap (λ xs. q ∷ xs) (set_read ps i p e)

same_place : (b : Book) (at : ℕ) (p : Place) → get_or b.places at beyond ≡ p → with_places b (set_place b.places (suc at) p) b.kept ≡ b
same_place b at p e = ap (λ ps. with_places b ps b.kept) (set_read b.places at p e)

-- what is kept for UNDO goes by whether the answer accepts
kept_by : (q : Reply) (months : List ℕ) (k : Kept) → kept_after q k ≡ cond (is_accepted (answer_of q months)) nothing_kept k
kept_by reply.Accepted months k = refl
kept_by (reply.Cells number) months k = refl
kept_by (reply.Refused number) months k = refl
kept_by (reply.Over region method t excess) months k = refl

-- the place at the index of a code; of a code outside 1 to 32 any index will do
module _ (b : Book) (k at : ℕ) (p : Place) (index : inside k ≡ true → suc at ≡ k) (there : get_or b.places at beyond ≡ p) where
  at_code : inside k ≡ true → place_of b.places k ≡ p
  at_code e = subst (λ j. place_of b.places j ≡ p) (index e) there

  -- what is behind refusal 6 may be read of that place
  pub read_there : {A : Type 0} (refuse : ℕ → A) (f : Option Holding → A)
      → need refuse (inside k) 6 (f (held (place_of b.places k))) ≡ need refuse (inside k) 6 (f (held p))
  read_there refuse f = go (inside k) refl
    where
      go : (t : Bool) → inside k ≡ t → need refuse t 6 (f (held (place_of b.places k))) ≡ need refuse t 6 (f (held p))
      go true e = ap (λ q. f (held q)) (at_code e)
      go false e = refl

  -- and stored there
  pub stored_there : (f : Place → Place) → inside k ≡ true → with_place b k (f (place_of b.places k)) ≡ with_place b (suc at) (f p)
  stored_there f e = ap₂ (with_place b) (sym (index e)) (ap f (at_code e))

  -- a call on that place does what its settling says; a check may stand before that of its code
  pub settles_does : (c : Call) (lead rest : Check) (next : Answer) (f : Place → Place) (r : Settled)
      → answer c.desk (book_readings b) c.act ≡ checked refused (first lead (first (code_check k) rest)) next
      → changed b c.act ≡ with_place b k (f (place_of b.places k))
      → Settles (first lead (first (code_check k) rest)) next p (f p) r → Does b c (settled_in b at r)
  settles_does c lead rest next f r e g h =
      record {
        answers = h.answers ∙ sym (answered_by b c ∙ e);
        leaves =
            ap₂ (λ q s. with_places b (set_place b.places (suc at) q) s) h.leaves
            (kept_by r.reply r.months b.kept ∙ ap (λ d. cond (is_accepted d) nothing_kept b.kept) h.answers)
            ∙ go (is_accepted a) refl;
        rest_nought = h.rest_nought;
      }
    where
      a : Answer
      a = checked refused (first lead (first (code_check k) rest)) next

      coded : (l : Check) (t : Bool) → is_accepted (checked refused (first l (first (unless t 6 Pass) rest)) next) ≡ true → t ≡ true
      coded l true q = refl
      coded Pass false q = never (cc)
      coded (Refuse n) false q = never (cc)

      go : (t : Bool) → is_accepted a ≡ t
          → with_places b (set_place b.places (suc at) (cond t (f p) p)) (cond t nothing_kept b.kept) ≡ (step b c).book
      go true q = sym (stored_there f (coded lead (inside k) q)) ∙ sym g ∙ sym (made b c _ e q)
      go false q = same_place b at p there ∙ sym (unchanged b c _ e q)

-- where what is kept is stored by itself, behind a test whether the answer accepts
module _ (q : Reply) (k : Kept) where
  pub kept_if : accepted_by q ≡ true → nothing_kept ≡ kept_after q k
  kept_if e = ap (λ t. cond t nothing_kept k) (sym e)

  pub kept_else : accepted_by q ≡ false → k ≡ kept_after q k
  kept_else e = ap (λ t. cond t nothing_kept k) (sym e)

pub stored_with : (b : Book) (c : Call) (at : ℕ) (r : Settled) (k : Kept) → k ≡ kept_after r.reply b.kept → Does b c (settled_in b at r)
    → Does b c (record { reply = r.reply; months = r.months; book = with_places b (set_place b.places (suc at) r.place) k })
stored_with b c at r k e d =
    subst (λ s. Does b c (record { reply = r.reply; months = r.months; book = with_places b (set_place b.places (suc at) r.place) s })) (sym e) d
