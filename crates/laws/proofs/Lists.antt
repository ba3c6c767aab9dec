-- Laws of lists by their index.
-- Assumes nothing.
use mathlib.Core.Path.{◌≡◌, refl, sym, ◌∙◌, ap}
use mathlib.Core.List.{List, [], ◌∷◌}
use Prim.Native.Nat.{ℕ, zero, suc, ◌+◌, ◌<◌, ◌≤◌}
use native.Mathlib.Nat.{add-zero, add-suc, suc-add, zero-add, le_of_suc-le-suc}
use native.Mathlib.Numerals.{add-one}
use native.Mathlib.Omega.{arith}
use lib.ListN.{length, get_or, take, drop, replicate, length-take, drop_of_length-le}
use lib.Seq.{drop-cons, ext_get_or, get_or-take, length-take-le}
use Rattle.laws.specs.Notions.{tabulate, tabulate_from}

-- the rest of the first n, with one element more or none
pub drop_take : (xs : List ℕ) (n i : ℕ) → i < n → n ≤ length xs → drop i (take n xs) ≡ get_or xs i 0 ∷ drop (i + 1) (take n xs)
drop_take xs n i h k =
    let l : i < length (take n xs) = omega (arith, length-take-le n xs k) in
    rw (add-one, ← get_or-take n xs i 0 h) (drop-cons (take n xs) i 0 l)

pub drop_end : (xs : List ℕ) (n i : ℕ) → n ≤ i → drop i (take n xs) ≡ []
drop_end xs n i h = drop_of_length-le (take n xs) {i = i} (omega (arith, length-take n xs))

-- a list of noughts
pub noughts : (n i : ℕ) → ◌≡◌ {A = ℕ} (get_or (replicate n 0) i 0) 0
noughts zero i = refl
noughts (suc n) zero = refl
noughts (suc n) (suc i) = noughts n i

-- a table by its index
length_from : (n i : ℕ) (f : ℕ → ℕ) → length (tabulate_from i n f) ≡ n
unfolding tabulate_from
length_from zero i f = refl
length_from (suc n) i f = ap suc (length_from n (suc i) f)

pub length_tabulate : (n : ℕ) (f : ℕ → ℕ) → length (tabulate n f) ≡ n
unfolding tabulate
length_tabulate n f = length_from n 0 f

get_d_from : (n i : ℕ) (f : ℕ → ℕ) (k : ℕ) → k < n → get_or (tabulate_from i n f) k 0 ≡ f (i + k)
unfolding tabulate_from
get_d_from zero i f k h = absurd (omega arith)
get_d_from (suc n) i f zero h = rw add-zero refl
get_d_from (suc n) i f (suc k) h = rw (add-suc, ← suc-add) (get_d_from n (suc i) f k (le_of_suc-le-suc h))

pub get_d_tabulate : (n : ℕ) (f : ℕ → ℕ) (k : ℕ) → k < n → get_or (tabulate n f) k 0 ≡ f k
unfolding tabulate
get_d_tabulate n f k h = rw zero-add at (get_d_from n 0 f k h)

-- a list that has its entry at each index is the table
pub is_table : (n : ℕ) (f : ℕ → ℕ) (xs : List ℕ) → length xs ≡ n → ((i : ℕ) → i < n → get_or xs i 0 ≡ f i) → xs ≡ tabulate n f
is_table n f xs l h =
    ext_get_or
    0
    xs
    (tabulate n f)
    (l ∙ sym (length_tabulate n f))
    (λ i k. h i (omega arith) ∙ sym (get_d_tabulate n f i (omega arith)))

-- two tables that have the same entry at each index
pub tabulate_alike : (n : ℕ) (f g : ℕ → ℕ) → ((i : ℕ) → i < n → f i ≡ g i) → tabulate n f ≡ tabulate n g
tabulate_alike n f g h = is_table n g (tabulate n f) (length_tabulate n f) (λ i k. get_d_tabulate n f i k ∙ h i k)
