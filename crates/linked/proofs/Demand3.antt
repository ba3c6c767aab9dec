-- Demand 3 holds of every list of calls made through the library.
-- Assumes nothing.
use mathlib.Core.Path.{◌≡◌, refl, sym, ◌∙◌, ap, ap₂, subst, subst₂}
use mathlib.Core.Bool.{true}
use mathlib.Core.List.{List, [], ◌∷◌, ◌++◌}
use Prim.Native.Nat.{ℕ}
use Rattle.book.specs.declared.Book.{Book}
use Rattle.book.specs.Calls.{Call, Answer}
use Rattle.book.specs.Checks.{answer}
use Rattle.book.specs.Book.{fresh, step, book_after, answers_of, book_readings, Reachable}
use Rattle.book.proofs.Reached.{book_append, answers_append, fresh_reachable, step_reachable}
use Rattle.book.proofs.Steps.{answered_by}
use Rattle.claim.specs.Claim.{Demand3}
use Rattle.claim.proofs.Demand3.{demand3}
use Rattle.image.specs.Image.{book_in, is_image, Canonical}
use Rattle.image.specs.Changing.{Changes, number_of}
use Rattle.linked.specs.Linked.{is_plain, said_by, Linked, start, numbered, told, LinkedClaim}
use Rattle.linked.proofs.Numbers.{plain_said}

-- the number of a call that answers by a number says the step's answer
plain_answer : (b : Book) (c : Call) (r : ℕ) → is_plain c.act ≡ true → r ≡ number_of (step b c).answer → said_by r ≡ (step b c).answer
plain_answer b c r p e =
    ap said_by (e ∙ ap number_of (answered_by b c)) ∙ sym (plain_said c.desk (book_readings b) c.act p) ∙ sym (answered_by b c)

-- after each list: still an image, canonical, with the book and the answers of the definitions
record So (calls : List Call) (answers : List Answer) (l : List ℕ) : Type 0 where
  is_image_lem : is_image l ≡ true
  is_canonical : Canonical l
  is_reachable : Reachable (book_in l)
  are_answers : answers ≡ answers_of fresh calls
  is_book : book_in l ≡ book_after fresh calls

so_far : {calls : List Call} {answers : List Answer} {l : List ℕ} → So calls answers l → (c : Call) (r : ℕ) (a : Answer) (m : List ℕ)
    → Changes c l r m → a ≡ (step (book_in l) c).answer → So (calls ++ (c ∷ [])) (answers ++ (a ∷ [])) m
so_far {calls} {answers} {l} h c r a m ch e =
    let done = ap (λ b. step b c) h.is_book in
    let left = ch.leaves h.is_image_lem h.is_reachable in
    record {
      is_image_lem = ch.remains ∙ h.is_image_lem;
      is_canonical = ch.stays_canonical h.is_canonical;
      is_reachable = subst Reachable (sym left) (step_reachable h.is_reachable c);
      are_answers = ap₂ (λ l a. l ++ (a ∷ [])) h.are_answers (e ∙ ap (λ d. d.answer) done) ∙ sym (answers_append fresh calls c);
      is_book = left ∙ ap (λ d. d.book) done ∙ sym (book_append fresh calls c);
    }

so : {calls : List Call} {answers : List Answer} {l : List ℕ} → Linked calls answers l → So calls answers l
unfolding book_after answers_of
so (start is canonical e) =
    record { is_image_lem = is; is_canonical = canonical; is_reachable = subst Reachable (sym e) fresh_reachable; are_answers = refl; is_book = e }
so (numbered t c p r m ch) =
    let h = so t in so_far h c r (said_by r) m ch (plain_answer _ c r p (ch.answers h.is_image_lem h.is_reachable))
so (told t c r a m ch e) = let h = so t in so_far h c r a m ch (e h.is_image_lem h.is_reachable)

pub demand3_linked : {calls : List Call} {answers : List Answer} {l : List ℕ} → Linked calls answers l → LinkedClaim calls answers l
demand3_linked {calls} t =
    let h = so t in
    record {
      is_image_lem = h.is_image_lem;
      is_canonical = h.is_canonical;
      is_reachable = h.is_reachable;
      demand = subst₂ (Demand3 calls) (sym h.are_answers) (sym h.is_book) (demand3 calls);
    }
