-- A tariff's charge runs straight from each corner to the next, so the scan of the corners is the worst month.
-- Assumes nothing.
use mathlib.Core.Path.{◌≡◌, refl, sym, ◌∙◌, ap, subst₂}
use mathlib.Core.Bool.{true}
use mathlib.Core.List.{List, [], ◌∷◌, map}
use Prim.Native.Nat.{ℕ, zero, suc, ◌+◌, ◌*◌, ◌-◌, ◌<◌, ◌≤◌, min}
use native.Mathlib.Nat.{mul-zero, add-zero, zero-add, mul_assoc, mul-le-mul, le_refl, le_of_suc-le-suc, suc_inj}
use native.Mathlib.Omega.{arith}
use lib.ListN.{length, get_or, take}
use Rattle.laws.proofs.Bounds.{four_most}
use Rattle.laws.proofs.Parts.{four}
use Rattle.laws.proofs.Greatest.{Straight}
use Rattle.laws.proofs.Pieces.{Pieces, done, piece, still, corner_most, scan, scan_is_first}
use Rattle.shares.specs.Shares.{whole_share}
use Rattle.tariff.specs.declared.Tariff.{Tariff}
use Rattle.tariff.specs.Tariff.{valid_tariff}
use Rattle.charge.specs.declared.Tiers.{Tiers}
use Rattle.charge.specs.Charge.{month_most, tier_charge, month_charge}
use Rattle.charge.specs.Tiers.{tiers_of, by_tiers, Rising, TiersFit}
use Rattle.charge.proofs.TariffTiers.{month_tiers, month_most_lem, tiers_fit, tiers_most}
use Rattle.cap.specs.declared.CellNumbers.{CellNumbers}
use Rattle.cap.specs.Cap.{share, worst_month}
use Rattle.cap.specs.Corners.{level_most, month_charged_most, corners_to, corners_of, Cornered}
use Rattle.cap.specs.Deciding.{month_charged, month_capped}

-- the corners by their index: a step, or the end
pub step_corner : (end k : ℕ) (ss : List ℕ) (i : ℕ) → i < k → get_or (corners_to end k ss) i 0 ≡ get_or ss i 0
unfolding corners_to
step_corner end k [] i h = refl
step_corner end zero (s ∷ ss) i h = absurd (omega arith)
step_corner end (suc k) (s ∷ ss) zero h = refl
step_corner end (suc k) (s ∷ ss) (suc i) h = step_corner end k ss i (le_of_suc-le-suc h)

pub end_corner : (end k : ℕ) (ss : List ℕ) (i : ℕ) → k ≤ i → i < length ss → get_or (corners_to end k ss) i 0 ≡ end
unfolding corners_to
end_corner end k [] i h l = absurd (omega arith)
end_corner end zero (s ∷ ss) zero h l = refl
end_corner end zero (s ∷ ss) (suc i) h l = end_corner end zero ss i (omega arith) (le_of_suc-le-suc l)
end_corner end (suc k) (s ∷ ss) zero h l = absurd (omega arith)
end_corner end (suc k) (s ∷ ss) (suc i) h l = end_corner end k ss i (le_of_suc-le-suc h) (le_of_suc-le-suc l)

corner_count : (end k : ℕ) (ss : List ℕ) → length (corners_to end k ss) ≡ length ss
unfolding corners_to
corner_count end k [] = refl
corner_count end zero (s ∷ ss) = ap suc (corner_count end zero ss)
corner_count end (suc k) (s ∷ ss) = ap suc (corner_count end k ss)

-- below its start a tier charge is nothing
nothing_below : (rs ss : List ℕ) (from end x : ℕ) → Rising from ss end → x ≤ from → tier_charge from rs ss x ≡ 0
unfolding tier_charge Rising
nothing_below [] ss from end x h k = refl
nothing_below (r ∷ rs) [] from end x h k = let e : x - from ≡ 0 = omega arith in rw (e, mul-zero)
nothing_below (r ∷ rs) (s ∷ ss) from end x h k =
    let e : min x s - from ≡ 0 = omega arith in
    rw (e, mul-zero, zero-add) (nothing_below rs ss s end x h.1 (omega (arith, h.0)))

-- u is A times the charge of tiers; general in their number and in the end
module _ (u : ℕ → ℕ) (A end : ℕ) where
  -- the end in every place that is left
  pads : (rs ss : List ℕ) → length rs ≡ length ss → Pieces u end end (map (λ r. A * r) rs) (corners_to end 0 ss)
  unfolding corners_to
  pads [] [] l = done
  pads [] (s ∷ ss) l = absurd (omega arith)
  pads (r ∷ rs) [] l = absurd (omega arith)
  pads (r ∷ rs) (s ∷ ss) l = piece {p = end} {c = end} {rise = A * r} (le_refl end) (still u (A * r) end) (pads rs ss (suc_inj l))

  from_tiers : (k : ℕ) (rs ss : List ℕ) (from : ℕ) → length rs ≡ length ss → k < length ss → Rising from (take k ss) end
      → ((x : ℕ) → from ≤ x → u x ≡ u from + A * tier_charge from (take (suc k) rs) (take k ss) x)
      → Pieces u end from (map (λ r. A * r) rs) (corners_to end k ss)
  unfolding tier_charge Rising corners_to
  from_tiers k rs [] from l h ri hu = absurd (omega arith)
  from_tiers k [] (s ∷ ss) from l h ri hu = absurd (omega arith)
  from_tiers zero (r ∷ rs) (s ∷ ss) from l h ri hu =
      piece {p = from} {c = end} {rise = A * r} (omega arith) (λ x a b. rw mul_assoc (hu x a)) (pads rs ss (suc_inj l))
  from_tiers (suc k) (r ∷ rs) (s ∷ []) from l h ri hu = absurd (omega arith)
  from_tiers (suc k) (r ∷ []) (s ∷ z ∷ ss) from l h ri hu = absurd (omega arith)
  from_tiers (suc k) (r ∷ q ∷ rs) (s ∷ z ∷ ss) from l h ri hu =
      piece {p = from} {c = s} {rise = A * r} (omega (arith, ri.0)) first
      (from_tiers k (q ∷ rs) (z ∷ ss) s (suc_inj l) (le_of_suc-le-suc h) ri.1 later)
    where
      first : Straight u (A * r) from s
      first x a b =
          let e : min x s - from ≡ x - from = omega arith in
          let n : tier_charge s (q ∷ take k rs) (take k (z ∷ ss)) x ≡ 0 = nothing_below (q ∷ take k rs) (take k (z ∷ ss)) s end x ri.1 b in
          rw mul_assoc (rw (e, n, add-zero) at (hu x a))

      later : (x : ℕ) → s ≤ x → u x ≡ u s + A * tier_charge s (q ∷ take k rs) (take k (z ∷ ss)) x
      later x a =
          let e : min x s ≡ s = omega arith in
          let g : u x ≡ u from + A * (r * (s - from) + tier_charge s (q ∷ take k rs) (take k (z ∷ ss)) x) = rw e at (hu x (omega (arith, ri.0))) in
          let f : u s ≡ u from + A * (r * (s - from)) = rw mul_assoc at (first s (omega (arith, ri.0)) (le_refl s)) in
          omega (arith, g, f)

pub tiers_pieces : (u : ℕ → ℕ) (A end : ℕ) (t : Tiers) → TiersFit end t → ((x : ℕ) → u x ≡ A * by_tiers t x)
    → Pieces u end 0 (map (λ r. A * r) t.rates) (corners_of end t)
tiers_pieces u A end t h is =
    from_tiers u A end (t.n - 1) t.rates t.steps 0 (h.rate_count ∙ sym h.step_count) (omega (arith, h.some, h.few, h.step_count)) h.rising from_nothing
  where
    nought : by_tiers t 0 ≡ 0
    nought = nothing_below (take t.n t.rates) (take (t.n - 1) t.steps) 0 end 0 h.rising (omega arith)

    some : suc (t.n - 1) ≡ t.n
    some = omega (arith, h.some)

    from_nothing : (x : ℕ) → 0 ≤ x → u x ≡ u 0 + A * tier_charge 0 (take (suc (t.n - 1)) t.rates) (take (t.n - 1) t.steps) x
    from_nothing x l = rw some (omega (arith, is x, is 0 ∙ ap (λ (y : ℕ). A * y) nought))

-- the scan of such corners is the worst month of a cell
pub scan_is_worst : (e : CellNumbers) (x : Tariff) {rises cs : List ℕ} → Pieces (month_charged e x) month_most 0 rises cs
    → scan (month_charged e x) (month_capped e) 0 cs ≡ worst_month e x
unfolding worst_month share
scan_is_worst e x h = scan_is_first (month_charged e x) (12 * whole_share * (e.upper - e.lower)) h

-- the tiers of a valid tariff
module _ (peak : ℕ) (x : Tariff) (p : peak ≤ whole_share) (v : valid_tariff x ≡ true) (rs : length x.rates ≡ 4) (ss : length x.steps ≡ 4) (m : ℕ) where
  abbrev pub price_of : ℕ → ℕ
  price_of kwh = 12 * m * month_charge peak x kwh

  pub month_pieces : Pieces (λ kwh. 12 * m * month_charge peak x kwh) month_most 0 (map (λ r. 12 * m * r) (tiers_of peak x).rates) (corners_of month_most (tiers_of peak x))
  month_pieces =
      tiers_pieces price_of (12 * m) month_most (tiers_of peak x) (tiers_fit peak x p v rs ss) (λ kwh. ap (λ (y : ℕ). 12 * m * y) (month_tiers peak x kwh))

  -- no charge for no kWh
  pub price_nought : 12 * m * month_charge peak x 0 ≡ 0
  price_nought =
      let z : month_charge peak x 0 ≡ 0 = omega (arith, month_tiers peak x 0, tiers_most month_most (tiers_of peak x) (tiers_fit peak x p v rs ss) 0) in
      rw (z, mul-zero) refl

  pub price_most : m ≤ level_most → (kwh : ℕ) → kwh ≤ month_most → 12 * m * month_charge peak x kwh ≤ month_charged_most
  price_most l kwh h =
      let s : 12 * m ≤ 12 * level_most = omega arith in mul-le-mul s (month_most_lem peak x p v rs ss kwh h)

-- the four corners of the code's tiers, piece by piece
abbrev pub FourPieces : ℕ → Tariff → ℕ → Tiers → Type 0
FourPieces peak x m t =
    let at : ℕ → ℕ = λ i. get_or (corners_of month_most t) i 0 in
    let rise : ℕ → ℕ = λ i. 12 * m * get_or t.rates i 0 in
    Pieces (λ kwh. 12 * m * month_charge peak x kwh) month_most 0 (rise 0 ∷ rise 1 ∷ rise 2 ∷ rise 3 ∷ []) (at 0 ∷ at 1 ∷ at 2 ∷ at 3 ∷ [])

pub four_pieces : (peak : ℕ) (x : Tariff) (m : ℕ) (t : Tiers) → t ≡ tiers_of peak x → TiersFit month_most t → FourPieces peak x m t
four_pieces peak x m t is h =
    subst₂ (Pieces (λ kwh. 12 * m * month_charge peak x kwh) month_most 0)
    (ap (map (λ r. 12 * m * r)) (four t.rates h.rate_count))
    (four (corners_of month_most t) (corner_count month_most (t.n - 1) t.steps ∙ h.step_count))
    (tiers_pieces (λ kwh. 12 * m * month_charge peak x kwh) (12 * m) month_most t h
    (λ kwh. ap (λ (y : ℕ). 12 * m * y) (month_tiers peak x kwh ∙ ap (λ (u : Tiers). by_tiers u kwh) (sym is))))

-- no corner is past the end
pub corner_below : (end : ℕ) (t : Tiers) → TiersFit end t → (i : ℕ) → get_or (corners_of end t) i 0 ≤ end
corner_below end t h i = corner_most (tiers_pieces (λ kwh. 1 * by_tiers t kwh) 1 end t h (λ kwh. refl)) i

-- the charge at a corner, from that at the corner before it
pub price_next : (u : ℕ → ℕ) (A r a b a' b' p q : ℕ) → u b' ≡ u a' + A * r * (b' - a') → a ≡ a' → b ≡ b' → p ≡ u a → q ≡ p + A * (r * (b - a)) → q ≡ u b
price_next u A r a b a' b' p q s e f g h = rw f (omega (arith, rw e at g, rw (e, f) at h, s))

four_priced : (f : ℕ → ℕ) (a b c d p q r s : ℕ) → p ≡ f a → q ≡ f b → r ≡ f c → s ≡ f d
    → (i : ℕ) → i < 4 → get_or (p ∷ q ∷ r ∷ s ∷ []) i 0 ≡ f (get_or (a ∷ b ∷ c ∷ d ∷ []) i 0)
four_priced f a b c d p q r s g h k l zero n = g
four_priced f a b c d p q r s g h k l (suc zero) n = h
four_priced f a b c d p q r s g h k l (suc (suc zero)) n = k
four_priced f a b c d p q r s g h k l (suc (suc (suc zero))) n = l
four_priced f a b c d p q r s g h k l (suc (suc (suc (suc i)))) n = absurd (omega arith)

-- the corners and their charges, as the code lays them out
pub cornered : (peak : ℕ) (x : Tariff) (m : ℕ) (t : Tiers) → FourPieces peak x m t → (a b c d p q r s : ℕ)
    → (let at : ℕ → ℕ = λ i. get_or (corners_of month_most t) i 0 in
    (a ≡ at 0) × (a ≤ month_most) → (b ≡ at 1) × (b ≤ month_most) → (c ≡ at 2) × (c ≤ month_most) → (d ≡ at 3) × (d ≤ month_most)
    → ((kwh price : ℕ) → kwh ≤ month_most → price ≡ 12 * m * month_charge peak x kwh → price ≤ month_charged_most)
    → p ≡ 12 * m * month_charge peak x a → q ≡ 12 * m * month_charge peak x b → r ≡ 12 * m * month_charge peak x c → s ≡ 12 * m * month_charge peak x d
    → Cornered peak x m (record { at = a ∷ b ∷ c ∷ d ∷ []; charged = p ∷ q ∷ r ∷ s ∷ [] }))
cornered peak x m t f a b c d p q r s ha hb hc hd most hp hq hr hs =
    record {
      bounded =
          record {
            at_most = four_most month_most a b c d ha.1 hb.1 hc.1 hd.1;
            charged_most = four_most month_charged_most p q r s (most a p ha.1 hp) (most b q hb.1 hq) (most c r hc.1 hr) (most d s hd.1 hs);
          };
      rises = 12 * m * get_or t.rates 0 0 ∷ 12 * m * get_or t.rates 1 0 ∷ 12 * m * get_or t.rates 2 0 ∷ 12 * m * get_or t.rates 3 0 ∷ [];
      runs = rw (ha.0, hb.0, hc.0, hd.0) f;
      charges = four_priced (λ kwh. 12 * m * month_charge peak x kwh) a b c d p q r s hp hq hr hs;
    }
