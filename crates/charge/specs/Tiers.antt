-- A tariff of any kind as tiers, as the code keeps it.
-- Assumes nothing.
use Rattle.std.specs.Prelude.{◌≡◌, cond, List, [], ◌∷◌, map, ℕ, ◌-◌, ◌*◌, ◌≤◌, ◌<◌, eqb, length, get_or, take}
use Rattle.shares.specs.Shares.{whole_share, weighted}
use Rattle.tariff.specs.declared.Tariff.{Tariff}
use Rattle.charge.specs.declared.Tiers.{Tiers}
use Rattle.charge.specs.Charge.{rates_in_use, shares, tier_charge}
use Rattle.charge.specs.Most.{scaled_rate_most}

-- rates times the whole of the shares
abbrev pub scaled_rates : List ℕ → List ℕ
scaled_rates rates = map (λ r. whole_share * r) rates

-- the tiers of a tariff: of kind 1 its own, of the other kinds one at the weighted rate
unfoldable pub tiers_of : ℕ → Tariff → Tiers
tiers_of peak x =
    cond (eqb x.kind 1)
    (record { n = x.n; rates = scaled_rates x.rates; steps = x.steps })
    (record { n = 1; rates = weighted (rates_in_use x) (shares peak x) ∷ 0 ∷ 0 ∷ 0 ∷ []; steps = 0 ∷ 0 ∷ 0 ∷ 0 ∷ [] })

-- what tiers charge for a month's kWh
abbrev pub by_tiers : Tiers → ℕ → ℕ
by_tiers t kwh = tier_charge 0 (take t.n t.rates) (take (t.n - 1) t.steps) kwh

-- strictly rising from `from`, and below `end`
unfoldable pub Rising : ℕ → List ℕ → ℕ → Type 0
Rising from [] end = from < end
Rising from (s ∷ ss) end = (from < s) × Rising s ss end

-- tiers as the code may hold them: 1 to 4, their rates not above the greatest, their steps rising below the end
pub record TiersFit (end : ℕ) (t : Tiers) : Type 0 where
  pub some : 1 ≤ t.n
  pub few : t.n ≤ 4
  pub rate_count : length t.rates ≡ 4
  pub step_count : length t.steps ≡ 4
  pub rates : (i : ℕ) → get_or t.rates i 0 ≤ scaled_rate_most
  pub rising : Rising 0 (take (t.n - 1) t.steps) end
