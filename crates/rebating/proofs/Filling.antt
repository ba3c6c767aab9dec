-- Laws of lists that a loop fills from the front, one element a turn.
-- Assumes nothing.
use mathlib.Core.Path.{◌≡◌, refl, ◌∙◌, ap}
use mathlib.Core.List.{List, [], ◌∷◌, ◌++◌, map}
use Prim.Native.Nat.{ℕ, zero, suc, ◌+◌, ◌*◌, ◌<◌}
use native.Mathlib.Nat.{le_of_suc-le-suc}
use native.Mathlib.Numerals.{add-one}
use native.Mathlib.Omega.{arith}
use lib.ListN.{length, get_or, set, take, drop, length-append}
use lib.Seq.{take-suc-set, drop-drop, take_at}
use Rattle.rebates.specs.declared.Account.{Account}
use Rattle.rebates.specs.Reading.{no_account}
use Rattle.naming.specs.Naming.{account_numbers}
use Rattle.rebating.specs.Rebating.{account_of, first_accounts}

-- the first i elements are as they are meant, and one more is stored
pub stored_more : {A : Type 0} (xs : List A) (i : ℕ) (v : A) {ys : List A} → i < length xs → take i xs ≡ ys → take (i + 1) (set xs i v) ≡ ys ++ (v ∷ [])
stored_more xs i v {ys} h e = rw add-one (take-suc-set xs i v h ∙ ap (λ l. l ++ (v ∷ [])) e)

-- the front of a list, where as many stand behind it as the list has more
pub front_is : {A : Type 0} {xs : List A} (p q : List A) (n : ℕ) → xs ≡ p ++ q → length q + n ≡ length xs → take n xs ≡ p
front_is p q n e h = ap (take n) e ∙ take_at p q n (omega (arith, ap length e, length-append p q))

-- one account more of a line
accounts_next : (n : ℕ) (ns : List ℕ) → first_accounts (suc n) ns ≡ first_accounts n ns ++ (account_of (drop (n * account_numbers) ns) ∷ [])
unfolding first_accounts
accounts_next zero ns = refl
accounts_next (suc n) ns =
    let e : account_numbers + n * account_numbers ≡ suc n * account_numbers = omega arith in
    ap (λ l. account_of ns ∷ l)
    (accounts_next n (drop account_numbers ns)
    ∙ ap (λ xs. first_accounts n (drop account_numbers ns) ++ (account_of xs ∷ [])) (drop-drop (n * account_numbers) account_numbers ns ∙ ap (λ k. drop k ns) e))

pub accounts_more : (n : ℕ) (ns : List ℕ) → first_accounts (n + 1) ns ≡ first_accounts n ns ++ (account_of (drop (n * account_numbers) ns) ∷ [])
accounts_more n ns = rw add-one (accounts_next n ns)

-- one rebate more
rebates_next : (l : List Account) (i : ℕ) → i < length l → map (λ a. a.rebate) (take (suc i) l) ≡ map (λ a. a.rebate) (take i l) ++ ((get_or l i no_account).rebate ∷ [])
rebates_next [] i h = absurd (omega arith)
rebates_next (a ∷ l) zero h = refl
rebates_next (a ∷ l) (suc i) h = ap (λ xs. a.rebate ∷ xs) (rebates_next l i (le_of_suc-le-suc h))

pub rebates_more : (l : List Account) (i : ℕ) → i < length l → map (λ a. a.rebate) (take (i + 1) l) ≡ map (λ a. a.rebate) (take i l) ++ ((get_or l i no_account).rebate ∷ [])
rebates_more l i h = rw add-one (rebates_next l i h)
