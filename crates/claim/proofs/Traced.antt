-- Demand 3 holds of whatever the calls' own promises allow.
-- Assumes nothing.
use mathlib.Core.Path.{◌≡◌, refl, sym, ◌∙◌, ap, ap₂, subst₂}
use mathlib.Core.List.{List, [], ◌∷◌, ◌++◌}
use Rattle.book.specs.declared.Book.{Book}
use Rattle.book.specs.Calls.{Call, Answer}
use Rattle.book.specs.Book.{fresh, step, book_after, answers_of}
use Rattle.book.proofs.Reached.{book_append, answers_append}
use Rattle.claim.specs.Claim.{Demand3, Trace, start, then}
use Rattle.claim.proofs.Demand3.{demand3}

-- the answers and the book of a trace are those of the definitions
traced : {calls : List Call} {answers : List Answer} {b : Book} → Trace calls answers b
    → (answers ≡ answers_of fresh calls) × (b ≡ book_after fresh calls)
unfolding book_after answers_of
traced start = (refl, refl)
traced (then {calls} t c r e) =
    let h = traced t in
    let done = ap (λ b. step b c) h.1 in (
      ap₂ (λ l a. l ++ (a ∷ [])) h.0 (e.answers ∙ ap (λ d. d.answer) done) ∙ sym (answers_append fresh calls c),
      e.leaves ∙ ap (λ d. d.book) done ∙ sym (book_append fresh calls c),
    )

pub demand3_traced : {calls : List Call} {answers : List Answer} {b : Book} → Trace calls answers b → Demand3 calls answers b
demand3_traced {calls} t = subst₂ (Demand3 calls) (sym (traced t).0) (sym (traced t).1) (demand3 calls)
