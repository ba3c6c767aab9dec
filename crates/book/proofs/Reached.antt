-- Lists of calls, one call more at their end; what they reach.
-- Assumes nothing.
use mathlib.Core.Path.{◌≡◌, refl, sym, ◌∙◌, ap, subst}
use mathlib.Core.Bool.{Bool, true, false, cond}
use mathlib.Core.List.{List, [], ◌∷◌, ◌++◌}
use Prim.Native.Nat.{ℕ}
use Rattle.book.specs.declared.Book.{Book}
use Rattle.book.specs.declared.Done.{Done}
use Rattle.book.specs.Calls.{Act, Call, is_accepted}
use Rattle.book.specs.Checks.{answer}
use Rattle.book.specs.Book.{fresh, book_readings, changed, step, book_after, answers_of, Reachable}
use Rattle.book.specs.Promises.{Does}

pub book_append : (b : Book) (cs : List Call) (c : Call) → book_after b (cs ++ (c ∷ [])) ≡ (step (book_after b cs) c).book
unfolding book_after
book_append b [] c = refl
book_append b (d ∷ cs) c = book_append (step b d).book cs c

pub answers_append : (b : Book) (cs : List Call) (c : Call)
    → answers_of b (cs ++ (c ∷ [])) ≡ answers_of b cs ++ ((step (book_after b cs) c).answer ∷ [])
unfolding book_after answers_of
answers_append b [] c = refl
answers_append b (d ∷ cs) c = ap (◌∷◌ (step b d).answer) (answers_append (step b d).book cs c)

-- a fresh book is reachable, and so is what a call leaves of a reachable one
pub fresh_reachable : Reachable fresh
unfolding book_after
fresh_reachable = record { calls = []; left = refl }

pub step_reachable : {b : Book} → Reachable b → (c : Call) → Reachable (step b c).book
step_reachable r c =
    record { calls = r.calls ++ (c ∷ []); left = ap (λ d. (step d c).book) r.left ∙ sym (book_append fresh r.calls c) }

-- and so does a call that was done as it promises
pub does_reachable : {b : Book} {c : Call} {r : Done} → Reachable b → Does b c r → Reachable r.book
does_reachable {b} {c} {r} h d = subst Reachable (sym d.leaves) (step_reachable h c)

-- what holds of a fresh book and is kept by every accepted call holds of every reachable book
module _ (P : Book → Type 0) (start : P fresh)
    (keeps : (b : Book) → P b → (desk : ℕ) (a : Act) → is_accepted (answer desk (book_readings b) a) ≡ true → P (changed b a)) where
  kept_step : (b : Book) → P b → (c : Call) → P (step b c).book
  unfolding step
  kept_step b h c = go (is_accepted (answer c.desk (book_readings b) c.act)) refl
    where
      go : (t : Bool) → is_accepted (answer c.desk (book_readings b) c.act) ≡ t → P (cond t (changed b c.act) b)
      go true e = keeps b h c.desk c.act e
      go false e = h

  kept_after_lem : (cs : List Call) (b : Book) → P b → P (book_after b cs)
  unfolding book_after
  kept_after_lem [] b h = h
  kept_after_lem (c ∷ cs) b h = kept_after_lem cs (step b c).book (kept_step b h c)

  pub always : (b : Book) → Reachable b → P b
  always b r = subst P (sym r.left) (kept_after_lem r.calls fresh start)
