-- Calls that only a desk with all fourteen regions may make: refused by 17 before all else, or what they are without desks.
-- Assumes nothing.
use mathlib.Core.Path.{◌≡◌, refl, sym, ◌∙◌, ap}
use mathlib.Core.Bool.{Bool, true, false}
use Prim.Native.Nat.{ℕ}
use borrow.Author.Tests.{eqb-true}
use Rattle.laws.proofs.Never.{never}
use Rattle.refusal.specs.declared.Check.{Check}
use Rattle.refusal.specs.declared.Check.TheVariants.{Pass, Refuse}
use Rattle.refusal.specs.Checks.{unless, need}
use Rattle.refusal.proofs.Checks.{unless_passes}
use Rattle.tariff.specs.Tariff.{all_fourteen}
use Rattle.desks.specs.Desks.{is_full}
use Rattle.book.specs.declared.Book.{Book}
use Rattle.book.specs.Calls.{Act, by, Answer, refused}
use Rattle.book.specs.Checks.{answer}
use Rattle.book.specs.Book.{book_readings}
use Rattle.book.specs.Promises.{Does}
use Rattle.book.specs.Settling.{done_by}
use Rattle.book.proofs.Steps.{refuses}

-- a desk that passes the check of 17 is the one with all fourteen
pub is_full_lem : (desk : ℕ) (check : Check) → check ≡ unless (is_full desk) 17 Pass → check ≡ Pass → desk ≡ all_fourteen
is_full_lem desk check e f = eqb-true desk all_fourteen (unless_passes (is_full desk) 17 Pass (sym e ∙ f)).0

-- and one that it refuses is not
pub not_full : (desk : ℕ) (check : Check) (n : ℕ) → check ≡ unless (is_full desk) 17 Pass → check ≡ Refuse n → (is_full desk ≡ false) × (n ≡ 17)
not_full desk check n e f = go (is_full desk) refl (sym f ∙ e)
  where
    go : (t : Bool) → is_full desk ≡ t → Refuse n ≡ unless t 17 Pass → (is_full desk ≡ false) × (n ≡ 17)
    go true q h = never (cc)
    go false q h = (q, cc)

-- so 17 is its answer where nothing is tested before it
pub turned_away : (b : Book) (desk : ℕ) (a : Act) (rest : Answer) → answer desk (book_readings b) a ≡ need refused (is_full desk) 17 rest
    → (check : Check) (n : ℕ) → check ≡ unless (is_full desk) 17 Pass → check ≡ Refuse n → Does b (by desk a) (done_by check b)
turned_away b desk a rest tested check n e f =
    let out = not_full desk check n e f in
    refuses b (by desk a) (Refuse 17) (tested ∙ ap (λ t. need refused t 17 rest) out.0) check n (f ∙ ap Refuse out.1) f
