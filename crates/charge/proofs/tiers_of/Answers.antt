-- `charge::tiers_of` meets its contract. A single-register tariff keeps its steps and its rates, scaled; one with a weighted rate has
-- one tier.
-- Assumes nothing.
use Rattle.std.proofs.Common.{◌≡◌, true, false, ℕ, ◌*◌, ◌≤◌, List, [], ◌∷◌, length, rules, arith, refl, sym, ◌∙◌, subst}
use borrow.Author.Tests.{ne_eqb}
use lib.Dec.{eqb}
use Rattle.laws.specs.Notions.{sum}
use Rattle.laws.proofs.Filled.{map_filled}
use Rattle.shares.specs.Shares.{whole_share, weighted}
use Rattle.tariff.specs.declared.Tariff.{Tariff}
use Rattle.tariff.specs.Tariff.{valid_tariff}
use Rattle.tariff.proofs.Validity.{valid_rates, by_kind, valid_economy7, valid_multi}
use Rattle.charge.specs.declared.Tiers.{Tiers}
use Rattle.charge.specs.Charge.{month_most, rates_in_use, shares}
use Rattle.charge.specs.Tiers.{scaled_rates, tiers_of, TiersFit}
use Rattle.charge.proofs.TariffTiers.{tiers_fit}
use Rattle.charge.proofs.tiers_of.Goals as goal

-- the tiers of kind 1
abbrev own : Tariff → List ℕ → Tiers
own x rates = record { n = x.n; rates = rates; steps = x.steps }

single : (peak : ℕ) (x : Tariff) → x.kind ≡ 1 → (rates : List ℕ) → rates ≡ scaled_rates x.rates → own x rates ≡ tiers_of peak x
unfolding tiers_of
single peak x k rates r = rw (k, r)

-- the one tier of the other kinds
abbrev one : ℕ → Tiers
one w = record { n = 1; rates = w ∷ 0 ∷ 0 ∷ 0 ∷ []; steps = 0 ∷ 0 ∷ 0 ∷ 0 ∷ [] }

flat : (peak : ℕ) (x : Tariff) → eqb x.kind 1 ≡ false → (w : ℕ) → w ≡ weighted (rates_in_use x) (shares peak x) → one w ≡ tiers_of peak x
unfolding tiers_of
flat peak x k w e = rw (k, e)

-- what is so made fits
made : (peak : ℕ) (x : Tariff) → valid_tariff x ≡ true → peak ≤ whole_share → length x.rates ≡ 4 → length x.steps ≡ 4
    → (t : Tiers) → t ≡ tiers_of peak x → (t ≡ tiers_of peak x) × TiersFit month_most t
made peak x v p l m t e = (e, subst (TiersFit month_most) (sym e) (tiers_fit peak x p v l m))

-- what is neither of kind 1 nor of kind 2 is of kind 3
kind_3 : (x : Tariff) → valid_tariff x ≡ true → (x.kind ≡ 1 → ⊥) → (x.kind ≡ 2 → ⊥) → x.kind ≡ 3
kind_3 x v a b = by_kind x v (λ k. absurd (a k)) (λ k. absurd (b k)) (λ k. k)

pub weighted_rate-requires : goal.weighted_rate-requires
unfolding sum
weighted_rate-requires c =
    (omega arith, valid_rates c.args.x c.requires.0, omega (arith, c.requires.1))

pub weighted_rate-requires-in_default : goal.weighted_rate-requires-in_default
weighted_rate-requires-in_default c =
    let h = valid_multi c.args.x c.requires.0 (kind_3 c.args.x c.requires.0 (λ k. omega arith) (λ k. omega arith)) in
    (h.1, valid_rates c.args.x c.requires.0, h.2)

pub returns-in-1 : goal.returns-in-1
returns-in-1 c =
    let x = c.args.x in
    let l : length x.rates ≡ 4 = search rules in
    let m : length x.steps ≡ 4 = search rules in
    let scaled : c.map-rates.result ≡ scaled_rates x.rates =
    map_filled (λ r. whole_share * r) 0 x.rates _ (omega (arith, c.map-rates.ensures.items.long))
    (λ i k. let w = c.map-rates.ensures.items.at i 0 0 (omega arith) in grind arith) in
    made c.args.peak x c.requires.0 c.requires.1 l m _ (single c.args.peak x c.in-1.is _ scaled)

pub returns-in-2 : goal.returns-in-2
returns-in-2 c =
    let x = c.args.x in
    let l : length x.rates ≡ 4 = search rules in
    let m : length x.steps ≡ 4 = search rules in
    let k : x.kind ≡ 2 = c.in-2.is in
    let n : x.n ≡ 2 = valid_economy7 x c.requires.0 k in
    made c.args.peak x c.requires.0 c.requires.1 l m _
    (flat c.args.peak x (ne_eqb x.kind 1 (λ h. omega arith)) c.weighted_rate.result (c.weighted_rate.ensures.0 ∙ rw (k, n) refl))

pub returns-in_default : goal.returns-in_default
returns-in_default c =
    let x = c.args.x in
    let l : length x.rates ≡ 4 = search rules in
    let m : length x.steps ≡ 4 = search rules in
    let k : x.kind ≡ 3 = kind_3 x c.requires.0 (λ k. omega arith) (λ k. omega arith) in
    made c.args.peak x c.requires.0 c.requires.1 l m _
    (flat c.args.peak x (ne_eqb x.kind 1 (λ h. omega arith)) c.weighted_rate-in_default.result (c.weighted_rate-in_default.ensures.0 ∙ rw k refl))
