-- Laws of tiers: their charge, and the tiers of a valid tariff.
-- Assumes nothing.
use mathlib.Core.Path.{◌≡◌, refl, sym, ◌∙◌, ap}
use mathlib.Core.Bool.{Bool, true, false, cond}
use mathlib.Core.List.{List, [], ◌∷◌, map}
use Prim.Native.Nat.{ℕ, zero, suc, ◌+◌, ◌-◌, ◌*◌, ◌≤◌, ◌<◌, min}
use native.Mathlib.Nat.{mul-le-mul_right, mul-add}
use native.Mathlib.Decide.{dec_lt}
use native.Mathlib.Numerals.{add-one}
use native.Mathlib.Omega.{arith}
use lib.Dec.{eqb}
use lib.ListN.{length, get_or, take, length-map, get_or-map, get_or-eq_default}
use borrow.Author.Tests.{eqb-true, eqb-false}
use Rattle.laws.specs.Notions.{sum}
use Rattle.laws.proofs.Bounds.{take_most, four_most}
use Rattle.laws.proofs.Parts.{take_map}
use Rattle.shares.specs.Shares.{whole_share, weighted}
use Rattle.shares.proofs.Weighted.{weighted_most}
use Rattle.tariff.specs.declared.Tariff.{Tariff}
use Rattle.tariff.specs.Tariff.{rate_most, step_most, valid_tariff}
use Rattle.tariff.proofs.Validity.{valid_rates, rates_at, within_at, rising_at, by_kind, valid_single, valid_multi, valid_n}
use Rattle.charge.specs.declared.Tiers.{Tiers}
use Rattle.charge.specs.Charge.{month_most, rates_in_use, tier_steps, shares, tier_charge, month_charge}
use Rattle.charge.specs.Most.{scaled_rate_most, month_charge_most}
use Rattle.charge.specs.Tiers.{scaled_rates, tiers_of, by_tiers, Rising, TiersFit}

-- a factor of every rate is one of the charge
tier_scaled : (k : ℕ) (rs ss : List ℕ) (from kwh : ℕ) → tier_charge from (map (λ r. k * r) rs) ss kwh ≡ k * tier_charge from rs ss kwh
unfolding tier_charge
tier_scaled k [] ss from kwh = omega arith
tier_scaled k (r ∷ rs) [] from kwh = omega arith
tier_scaled k (r ∷ rs) (s ∷ ss) from kwh = omega (arith, tier_scaled k rs ss s kwh)

-- a charge is at most the greatest rate for each kWh
charge_most_lem : (R : ℕ) (rs ss : List ℕ) (from end kwh : ℕ) → ((i : ℕ) → get_or rs i 0 ≤ R) → Rising from ss end → tier_charge from rs ss kwh ≤ R * (kwh - from)
unfolding tier_charge Rising
charge_most_lem R [] ss from end kwh a h = omega arith
charge_most_lem R (r ∷ rs) [] from end kwh a h = mul-le-mul_right (kwh - from) (a 0)
charge_most_lem R (r ∷ rs) (s ∷ ss) from end kwh a h =
    let e : (min kwh s - from) + (kwh - s) ≡ kwh - from = omega (arith, h.0) in
    let d : R * (min kwh s - from) + R * (kwh - s) ≡ R * (kwh - from) = rw (← mul-add, e) in
    omega (arith, mul-le-mul_right (min kwh s - from) (a 0), charge_most_lem R rs ss s end kwh (λ i. a (suc i)) h.1)

pub tiers_most : (end : ℕ) (t : Tiers) → TiersFit end t → (kwh : ℕ) → by_tiers t kwh ≤ scaled_rate_most * kwh
tiers_most end t h kwh =
    omega (arith, charge_most_lem scaled_rate_most (take t.n t.rates) (take (t.n - 1) t.steps) 0 end kwh (take_most scaled_rate_most t.n t.rates (λ i k. h.rates i)) h.rising)

-- the first k of a list rise where each is above the one before
rising_take : (end : ℕ) (xs : List ℕ) (k from : ℕ) → from < end → (0 < k → from < get_or xs 0 0) → ((i : ℕ) → i < k → get_or xs i 0 < end)
    → ((i : ℕ) → suc i < k → get_or xs i 0 < get_or xs (suc i) 0) → Rising from (take k xs) end
unfolding Rising
rising_take end xs zero from f a b c = f
rising_take end [] (suc k) from f a b c = f
rising_take end (x ∷ xs) (suc k) from f a b c =
    (a (omega arith), rising_take end xs k x (b 0 (omega arith)) (λ h. c 0 (omega arith)) (λ i h. b (suc i) (omega arith)) (λ i h. c (suc i) (omega arith)))

-- the tiers of a valid tariff, where the peak share is not above the whole
module _ (peak : ℕ) (x : Tariff) (p : peak ≤ whole_share) (v : valid_tariff x ≡ true) where
  -- the shares come to the whole
  shares_sum : eqb x.kind 1 ≡ false → sum (shares peak x) ≡ whole_share
  unfolding sum
  shares_sum e =
      by_kind x v
      (λ k. absurd (eqb-false x.kind 1 e k))
      (λ k. rw k (omega arith))
      (λ k. rw k (valid_multi x v k).2)

  -- the rates in use are at most the greatest
  in_use_most : (i : ℕ) → get_or (rates_in_use x) i 0 ≤ rate_most
  in_use_most = take_most rate_most x.n x.rates (λ i l. rates_at x.rates (valid_rates x v) i (omega (arith, valid_n x v)))

  -- and so is a weighted rate
  weighted_valid : eqb x.kind 1 ≡ false → weighted (rates_in_use x) (shares peak x) ≤ scaled_rate_most
  weighted_valid e = omega (arith, weighted_most rate_most (rates_in_use x) (shares peak x) in_use_most, shares_sum e)

  rate_most_lem : length x.rates ≡ 4 → (i : ℕ) → get_or x.rates i 0 ≤ rate_most
  rate_most_lem l i =
      elim (dec_lt i 4) [
        | yes k ↦ rates_at x.rates (valid_rates x v) i k
        | no k ↦ omega (arith, get_or-eq_default x.rates 0 {n = i} (omega arith))
      ]

  pub tiers_fit : length x.rates ≡ 4 → length x.steps ≡ 4 → TiersFit month_most (tiers_of peak x)
  unfolding tiers_of Rising
  tiers_fit l m = go (eqb x.kind 1) refl
    where
      go : (t : Bool) → eqb x.kind 1 ≡ t
          → TiersFit month_most (cond t (record { n = x.n; rates = scaled_rates x.rates; steps = x.steps }) (record { n = 1; rates = weighted (rates_in_use x) (shares peak x) ∷ 0 ∷ 0 ∷ 0 ∷ []; steps = 0 ∷ 0 ∷ 0 ∷ 0 ∷ [] }))
      go true e =
          let w = valid_single x v (eqb-true x.kind 1 e) in
          record {
            some = w.0;
            few = w.1;
            rate_count = length-map x.rates (λ r. whole_share * r) ∙ l;
            step_count = m;
            rates = λ i. omega (arith, get_or-map (λ r. whole_share * r) x.rates i 0, rate_most_lem l i);
            rising =
                rising_take month_most x.steps (x.n - 1) 0
                (omega arith)
                (λ h. omega (arith, (within_at x.steps (x.n - 1) 1 step_most w.2 0 h).0))
                (λ i h. omega (arith, (within_at x.steps (x.n - 1) 1 step_most w.2 i h).1))
                (λ i h. rw add-one at (rising_at x.steps (x.n - 1) w.3 i (omega arith)));
          }
      go false e =
          record {
            some = omega arith;
            few = omega arith;
            rate_count = refl;
            step_count = refl;
            rates = four_most scaled_rate_most _ 0 0 0 (weighted_valid e) (omega arith) (omega arith) (omega arith);
            rising = omega arith;
          }

-- a month's charge is that of the tiers
pub month_tiers : (peak : ℕ) (x : Tariff) (kwh : ℕ) → month_charge peak x kwh ≡ by_tiers (tiers_of peak x) kwh
unfolding month_charge tiers_of tier_charge
month_tiers peak x kwh = go (eqb x.kind 1)
  where
    W : ℕ
    W = weighted (rates_in_use x) (shares peak x)

    go : (t : Bool)
        → cond t (whole_share * tier_charge 0 (rates_in_use x) (tier_steps x) kwh) (W * kwh)
        ≡ by_tiers (cond t (record { n = x.n; rates = scaled_rates x.rates; steps = x.steps }) (record { n = 1; rates = W ∷ 0 ∷ 0 ∷ 0 ∷ []; steps = 0 ∷ 0 ∷ 0 ∷ 0 ∷ [] })) kwh
    go true = sym (rw take_map (tier_scaled whole_share (rates_in_use x) (tier_steps x) 0 kwh))
    go false = let e : kwh ≡ kwh - 0 = omega arith in ap (λ k. W * k) e

-- and is at most the greatest rate for each kWh
pub month_most_lem : (peak : ℕ) (x : Tariff) → peak ≤ whole_share → valid_tariff x ≡ true → length x.rates ≡ 4 → length x.steps ≡ 4
    → (kwh : ℕ) → kwh ≤ month_most → month_charge peak x kwh ≤ month_charge_most
month_most_lem peak x p v l m kwh h = omega (arith, month_tiers peak x kwh, tiers_most month_most (tiers_of peak x) (tiers_fit peak x p v l m) kwh)
