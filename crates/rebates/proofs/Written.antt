-- The list and the total where the first i accounts have their rebates: one step more, and all of them.
-- Assumes nothing.
use mathlib.Core.Path.{◌≡◌, refl, ap}
use mathlib.Core.List.{List, [], ◌∷◌, map}
use Prim.Native.Nat.{ℕ, zero, suc, ◌+◌, ◌<◌}
use native.Mathlib.Nat.{not-suc-le-zero, le_of_suc-le-suc}
use native.Mathlib.Numerals.{add-one}
use native.Mathlib.Omega.{arith}
use lib.ListN.{length, get_or, set}
use Rattle.laws.specs.Notions.{sum}
use Rattle.book.specs.declared.Book.{Book}
use Rattle.rebates.specs.declared.Account.{Account}
use Rattle.rebates.specs.Rebates.{due_of, repaid, total_of}
use Rattle.rebates.specs.Reading.{no_account}

module _ (b : Book) (desk : ℕ) where
  unfoldable pub repaid_to : ℕ → List Account → List Account
  repaid_to zero l = l
  repaid_to (suc i) [] = []
  repaid_to (suc i) (a ∷ l) = repaid b desk a ∷ repaid_to i l

  unfoldable pub sum_to : ℕ → List Account → ℕ
  sum_to zero l = 0
  sum_to (suc i) [] = 0
  sum_to (suc i) (a ∷ l) = due_of b desk a + sum_to i l

  pub repaid_length : (i : ℕ) (l : List Account) → length (repaid_to i l) ≡ length l
  unfolding repaid_to
  repaid_length zero l = refl
  repaid_length (suc i) [] = refl
  repaid_length (suc i) (a ∷ l) = ap suc (repaid_length i l)

  -- the account at place i is as it was
  pub repaid_at : (i : ℕ) (l : List Account) → i < length l → get_or (repaid_to i l) i no_account ≡ get_or l i no_account
  unfolding repaid_to
  repaid_at zero l h = refl
  repaid_at (suc i) [] h = refl
  repaid_at (suc i) (a ∷ l) h = repaid_at i l (le_of_suc-le-suc h)

  repaid_next : (i : ℕ) (l : List Account) → i < length l → set (repaid_to i l) i (repaid b desk (get_or l i no_account)) ≡ repaid_to (suc i) l
  unfolding repaid_to
  repaid_next i [] h = absurd (not-suc-le-zero h)
  repaid_next zero (a ∷ l) h = refl
  repaid_next (suc i) (a ∷ l) h = ap (λ (t : List Account). repaid b desk a ∷ t) (repaid_next i l (le_of_suc-le-suc h))

  pub repaid_step : (i : ℕ) (l : List Account) → i < length l → set (repaid_to i l) i (repaid b desk (get_or (repaid_to i l) i no_account)) ≡ repaid_to (i + 1) l
  repaid_step i l h = rw (add-one, repaid_at i l, repaid_next i l)

  pub repaid_all : (l : List Account) → repaid_to (length l) l ≡ map (repaid b desk) l
  unfolding repaid_to
  repaid_all [] = refl
  repaid_all (a ∷ l) = ap (λ (t : List Account). repaid b desk a ∷ t) (repaid_all l)

  sum_next : (i : ℕ) (l : List Account) → i < length l → sum_to i l + due_of b desk (get_or l i no_account) ≡ sum_to (suc i) l
  unfolding sum_to
  sum_next i [] h = absurd (not-suc-le-zero h)
  sum_next zero (a ∷ l) h = omega arith
  sum_next (suc i) (a ∷ l) h = omega (arith, sum_next i l (le_of_suc-le-suc h))

  pub sum_none : (l : List Account) → sum_to 0 l ≡ 0
  unfolding sum_to
  sum_none l = refl

  pub sum_step : (i r : ℕ) (l : List Account) → i < length l → r ≡ due_of b desk (get_or (repaid_to i l) i no_account) → sum_to i l + r ≡ sum_to (i + 1) l
  sum_step i r l h e = rw (add-one, e, repaid_at i l, sum_next i l)

  pub sum_all : (l : List Account) → sum_to (length l) l ≡ total_of b desk l
  unfolding sum_to total_of sum
  sum_all [] = refl
  sum_all (a ∷ l) = ap (λ (s : ℕ). due_of b desk a + s) (sum_all l)
