-- The search for the first account that fails a test: at place i it stops, goes on, or is past the end; and what its outcome says of the list.
-- Assumes nothing.
use mathlib.Core.Path.{◌≡◌, refl, sym, subst}
use mathlib.Core.Bool.{Bool, true, false, not, cond}
use mathlib.Core.List.{List, [], ◌∷◌}
use mathlib.Core.Option.{Option, none, some}
use Prim.Native.Nat.{ℕ, zero, suc, ◌+◌, ◌<◌}
use native.Mathlib.Nat.{not-suc-le-zero, le_of_suc-le-suc, add-zero}
use native.Mathlib.Numerals.{add-one}
use native.Mathlib.Omega.{arith}
use lib.Dec.{T}
use lib.ListN.{length, get_or, drop}
use lib.Seq.{drop-cons, drop-length}
use Rattle.laws.proofs.Never.{never}
use Rattle.rebates.specs.declared.Account.{Account}
use Rattle.rebates.specs.Rebates.{first_from, first_place}
use Rattle.rebates.specs.Reading.{place_or, no_account}

pub holds : (t : Bool) → T t → t ≡ true
holds true _ = refl
holds false a = absurd a

pub fails : (t : Bool) → T (not t) → t ≡ false
fails true a = absurd a
fails false _ = refl

module _ (t : ℕ → Account → Bool) (ys : List Account) where
  pub hit : (i : ℕ) → i < length ys → t i (get_or ys i no_account) ≡ true → first_from t i (drop i ys) ≡ some i
  unfolding first_from
  hit i h e = rw (drop-cons ys i no_account, e)

  pub miss : (i : ℕ) → i < length ys → t i (get_or ys i no_account) ≡ false → first_from t i (drop i ys) ≡ first_from t (i + 1) (drop (i + 1) ys)
  unfolding first_from
  miss i h e = rw (add-one, drop-cons ys i no_account, e)

  pub over : first_from t (length ys) (drop (length ys) ys) ≡ none
  unfolding first_from
  over = rw (drop-length ys)

-- where there is none, no account fails; and one that is found is in the list
module _ (t : ℕ → Account → Bool) where
  pub none_fails : (l : List Account) (i k : ℕ) → first_from t i l ≡ none → k < length l → t (i + k) (get_or l k no_account) ≡ false
  unfolding first_from
  none_fails [] i k e h = absurd (not-suc-le-zero h)
  none_fails (a ∷ l) i zero e h = go (t i a) refl e
    where
      go : (y : Bool) → t i a ≡ y → cond y (some i) (first_from t (suc i) l) ≡ none → t (i + 0) a ≡ false
      go true p q = never (cc)
      go false p q = subst (λ j. t j a ≡ false) (sym (add-zero i)) p
  none_fails (a ∷ l) i (suc k) e h = subst (λ j. t j (get_or l k no_account) ≡ false) {x = suc i + k} {y = i + suc k} (omega arith) (none_fails l (suc i) k (go (t i a) e) (le_of_suc-le-suc h))
    where
      go : (y : Bool) → cond y (some i) (first_from t (suc i) l) ≡ none → first_from t (suc i) l ≡ none
      go true q = never (cc)
      go false q = q

  pub found_within : (l : List Account) (i k : ℕ) → first_from t i l ≡ some k → k < i + length l
  unfolding first_from
  found_within [] i k e = never (cc)
  found_within (a ∷ l) i k e = go (λ q. found_within l (suc i) k q) (t i a) e
    where
      same : some i ≡ some k → i ≡ k
      same q = cc

      go : (first_from t (suc i) l ≡ some k → k < suc i + length l) → (y : Bool) → cond y (some i) (first_from t (suc i) l) ≡ some k → k < i + suc (length l)
      go later true q = omega (arith, same q)
      go later false q = omega (arith, later q)

-- the code's place: below the length, it is the one found; and else there is none
pub place_found : (n : ℕ) (o : Option ℕ) → place_or n o < n → o ≡ some (place_or n o)
place_found n none h = absurd (omega arith)
place_found n (some k) h = refl

pub place_none : (t : ℕ → Account → Bool) (l : List Account) → (place_or (length l) (first_place t l) < length l → ⊥) → first_place t l ≡ none
place_none t l h = go (first_place t l) refl h
  where
    go : (o : Option ℕ) → first_place t l ≡ o → (place_or (length l) o < length l → ⊥) → o ≡ none
    go none e h = refl
    go (some k) e h = absurd (h (omega (arith, found_within t l 0 k e)))
