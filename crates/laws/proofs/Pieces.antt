-- A quantity that runs straight from each corner to the next: where it differs most from a line, the corners alone tell.
-- Assumes nothing.
use mathlib.Core.Path.{◌≡◌, refl}
use mathlib.Core.List.{List, [], ◌∷◌}
use Prim.Native.Nat.{ℕ, zero, suc, ◌+◌, ◌*◌, ◌-◌, ◌≤◌}
use native.Mathlib.Nat.{mul-zero, add-zero, mul-add, add-sub_of_le, le_refl}
use native.Mathlib.Decide.{dec_le}
use native.Mathlib.Omega.{arith}
use lib.ListN.{get_or}
use borrow.Author.Tests.{le-ltb}
use Rattle.laws.specs.Greatest.{first_greatest}
use Rattle.laws.proofs.Greatest.{Best, better, difference, best_one, best_zero, first_best, grow, line, Straight}

-- the best of b and the numbers of a list, looked at in their order
unfoldable pub scan : (ℕ → ℕ) → (ℕ → ℕ) → ℕ → List ℕ → ℕ
scan u v b [] = b
scan u v b (c ∷ cs) = scan u v (better u v c b) cs

-- from p to `end`, through the corners: u rises by so much for each unit on the way to each. A corner may stand twice.
pub data Pieces (u : ℕ → ℕ) (end : ℕ) : ℕ → List ℕ → List ℕ → Type 0 where
  done : Pieces u end end [] []
  piece : {p c rise : ℕ} {rises cs : List ℕ} → p ≤ c → Straight u rise p c → Pieces u end c rises cs → Pieces u end p (rise ∷ rises) (c ∷ cs)

-- nothing rises on no way
pub still : (u : ℕ → ℕ) (rise p : ℕ) → Straight u rise p p
still u rise p x h k =
    let e : x ≡ p = omega arith in
    let z : x - p ≡ 0 = omega arith in
    rw (z, mul-zero, add-zero, e) refl

-- the first piece, and the others
pub first_piece : {u : ℕ → ℕ} {end p c rise : ℕ} {rises cs : List ℕ} → Pieces u end p (rise ∷ rises) (c ∷ cs)
    → (p ≤ c) × (u c ≡ u p + rise * (c - p)) × Pieces u end c rises cs
first_piece (piece {c = c} l s h) = (l, s c l (le_refl c), h)

-- no corner is past the end
ends_past : {u : ℕ → ℕ} {end p : ℕ} {rises cs : List ℕ} → Pieces u end p rises cs → p ≤ end
ends_past done = le_refl _
ends_past (piece l s h) = omega (arith, ends_past h)

pub corner_most : {u : ℕ → ℕ} {end p : ℕ} {rises cs : List ℕ} → Pieces u end p rises cs → (i : ℕ) → get_or cs i 0 ≤ end
corner_most done i = omega arith
corner_most (piece l s h) zero = ends_past h
corner_most (piece l s h) (suc i) = corner_most h i

module _ (u : ℕ → ℕ) (slope : ℕ) where
  abbrev allowed : ℕ → ℕ
  allowed x = slope * x

  even : (p q : ℕ) → Straight allowed slope p q
  even p q x h k = rw (← mul-add, add-sub_of_le)

  -- one look more; at a corner that stands twice it changes nothing
  look : {p c b : ℕ} (rise : ℕ) → p ≤ c → Straight u rise p c → Best u allowed p b → Best u allowed c (better u allowed c b)
  look {p} {c} {b} rise l s h = go (dec_le c p)
    where
      go : Dec (c ≤ p) → Best u allowed c (better u allowed c b)
      go (yes k) =
          let e : c ≡ p = omega arith in
          let m : u c + slope * b ≤ u b + slope * c = h.most c k in
          rw (le-ltb (u b + slope * c) (u c + slope * b) m, e) h
      go (no k) = grow u allowed (omega arith) h (line u allowed rise slope p c l s (even p c))

  pub pieces_best : {end p b : ℕ} {rises cs : List ℕ} → Pieces u end p rises cs → Best u (λ x. slope * x) p b
      → Best u (λ x. slope * x) end (scan u (λ x. slope * x) b cs)
  unfolding scan
  pieces_best done h = h
  pieces_best (piece {rise = rise} l s rest) h = pieces_best rest (look rise l s h)

  -- so the scan of the corners finds what trying 0 to the end does
  pub scan_is_first : {end : ℕ} {rises cs : List ℕ} → Pieces u end 0 rises cs
      → scan u (λ x. slope * x) 0 cs ≡ first_greatest (difference u (λ x. slope * x)) end
  scan_is_first {end} h = best_one u allowed (pieces_best h (best_zero u allowed)) (first_best u allowed end)
