-- The places of an image, each of which holds nothing or a valid tariff.
-- Assumes nothing.
use mathlib.Core.Path.{◌≡◌, refl, sym, ◌∙◌, subst}
use mathlib.Core.Bool.{Bool, true, false}
use mathlib.Core.List.{List}
use Prim.Native.Nat.{ℕ, ◌≤◌, ◌<◌}
use native.Mathlib.Omega.{arith}
use lib.ListN.{length}
use Rattle.std.proofs.Common.{zero-add}
use Rattle.std.specs.Bool.{MatchBool}
use Rattle.std.specs.List.{AllWithin, HoldsAt, range_with_len}
use Rattle.std.proofs.lemmas.List.FromFn.{length-range_with_len, get_or-range_with_len}
use Rattle.laws.proofs.Never.{never}
use Rattle.stands.specs.Stands.{HoldsValid}
use Rattle.image.specs.Layout.{places_at, start_of}
use Rattle.image.specs.Image.{word}
use Rattle.image.proofs.Places.{place_alike}
use Rattle.image_sheets.specs.Stages.{AllValid}

-- `all` over the numbers below n, where P holds of those that it passes and of no other
pub told_all : (P : ℕ → Type 0) (n : ℕ) (r : Bool) → (let is = range_with_len 0 n in MatchBool r (AllWithin P is 0 (length is)) ((k : ℕ) × (k < length is) × HoldsAt (λ i. P i → ⊥) is k))
    → (r ≡ true → (i : ℕ) → i < n → P i) × (((i : ℕ) → i < n → P i) → r ≡ true)
told_all P n true m =
    (λ e i h. subst P (get_or-range_with_len 0 n i 0 h ∙ zero-add i) (m i 0 (omega arith) (rw length-range_with_len h)), λ all. refl)
told_all P n false m =
    (λ e. never (cc), λ all. absurd (m.2 0 (subst P (sym (get_or-range_with_len 0 n m.0 0 h ∙ zero-add m.0)) (all m.0 h))))
  where
    h : m.0 < n
    h = rw length-range_with_len at m.1

-- where the words of the places stayed
pub valid_alike : (l m : List ℕ) → ((j : ℕ) → places_at ≤ j → word m j ≡ word l j) → AllValid l → AllValid m
valid_alike l m h v i k = subst HoldsValid (sym (place_alike l m (start_of i) (λ j g q. h j (omega arith)))) (v i k)
