-- Laws of texts written one behind the other.
-- Assumes nothing.
use mathlib.Core.Path.{◌≡◌, refl, sym, ◌∙◌, ap}
use mathlib.Core.List.{List, [], ◌∷◌, ◌++◌, append_assoc, append-nil}
use Prim.Native.Nat.{ℕ, suc, ◌+◌, ◌<◌, ◌≤◌}
use native.Mathlib.Nat.{add-zero, add-suc, suc-add}
use native.Mathlib.Numerals.{add-one}
use native.Mathlib.Omega.{arith}
use lib.ListN.{length, get_or, set, take, length-append}
use lib.Seq.{sets, length-sets, take-suc}
use Rattle.texts.specs.Texts.{bytes_of, decimal, spaced}
use Rattle.texts.specs.Writing.{Puts}

sets_append : (a b l : List ℕ) (i : ℕ) → sets l i (a ++ b) ≡ sets (sets l i a) (i + length a) b
sets_append [] b l i = ap (λ k. sets l k b) (sym (add-zero i))
sets_append (x ∷ a) b l i =
    sets_append a b (set l i x) (suc i)
    ∙ ap (λ k. sets (sets (set l i x) (suc i) a) k b) (suc-add i (length a) ∙ sym (add-suc i (length a)))

-- writing keeps the length
pub puts_size : {l l₁ a : List ℕ} {at m : ℕ} → Puts l at a m l₁ → length l₁ ≡ length l
puts_size {l} {l₁} {a} {at} p = ap length p.holds ∙ length-sets l at a

-- a text behind a text
pub puts_behind : {l l₁ l₂ a b : List ℕ} {at m n : ℕ} → Puts l at a m l₁ → Puts l₁ m b n l₂ → Puts l at (a ++ b) n l₂
puts_behind {l} {l₁} {l₂} {a} {b} {at} {m} {n} p q =
    record {
      ends = omega (arith, p.ends, q.ends, length-append a b);
      within = omega (arith, q.within, puts_size p);
      holds = q.holds ∙ ap (λ k. sets k m b) p.holds ∙ ap (λ k. sets (sets l at a) k b) p.ends ∙ sym (sets_append a b l at);
    }

-- a text of no bytes
pub puts_none : (l : List ℕ) (at : ℕ) → at ≤ length l → Puts l at [] at l
puts_none l at h = record { ends = sym (add-zero at); within = h; holds = refl }

-- a byte behind a text
pub puts_byte : {l l₁ a : List ℕ} {at m : ℕ} (x : ℕ) → m < length l → Puts l at a m l₁
    → Puts l at (a ++ (x ∷ [])) (m + 1) (set l₁ m x)
puts_byte {l} {l₁} {a} {at} {m} x h p = puts_behind p (record { ends = refl; within = omega (arith, puts_size p); holds = refl })

-- numbers behind numbers
spaced_append : (a b : List ℕ) → spaced (a ++ b) ≡ spaced a ++ spaced b
unfolding spaced
spaced_append [] b = refl
spaced_append (n ∷ a) b = ap (λ t. bytes_of " " ++ decimal n ++ t) (spaced_append a b) ∙ sym (append_assoc (bytes_of " " ++ decimal n) (spaced a) (spaced b))

-- a turn of a loop that writes numbers
pub spaced_more : (ns : List ℕ) (i : ℕ) → i < length ns
    → spaced (take (i + 1) ns) ≡ (spaced (take i ns) ++ bytes_of " ") ++ decimal (get_or ns i 0)
unfolding spaced
spaced_more ns i h =
    let n = get_or ns i 0 in
    ap (λ k. spaced (take k ns)) (add-one i)
    ∙ ap spaced (take-suc ns i 0 h)
    ∙ spaced_append (take i ns) (n ∷ [])
    ∙ ap (λ t. spaced (take i ns) ++ t) (append-nil (bytes_of " " ++ decimal n))
    ∙ sym (append_assoc (spaced (take i ns)) (bytes_of " ") (decimal n))
