-- "A tariff" of document 01: the charge of a list of months.
-- Assumes nothing.
use Rattle.std.specs.Prelude.{cond, List, [], ◌∷◌, ℕ, ◌+◌, ◌-◌, ◌*◌, min, eqb, take}
use Rattle.laws.specs.Notions.{sum, total}
use Rattle.shares.specs.Shares.{whole_share, weighted}
use Rattle.tariff.specs.declared.Tariff.{Tariff}

-- "A month's consumption is 0 to 10,000."
abbrev pub month_most : ℕ
month_most = 10000

-- the rates in use; the steps between them; the shares, for Economy 7 the peak share and what is left of the whole (28AD.31)
abbrev pub rates_in_use : Tariff → List ℕ
rates_in_use x = take x.n x.rates

abbrev pub tier_steps : Tariff → List ℕ
tier_steps x = take (x.n - 1) x.steps

abbrev pub shares : (peak : ℕ) → Tariff → List ℕ
shares peak x = cond (eqb x.kind 2) (peak ∷ (whole_share - peak) ∷ []) (take x.n x.steps)

-- "Kind 1 is held to arrangement 0, kinds 2 and 3 to arrangement 1 (28AD.3, 28AD.4)."
unfoldable pub arrangement : Tariff → ℕ
arrangement x = cond (eqb x.kind 1) 0 1

-- "kWh up to the first step are at the first rate, and so on; the last rate has no end": of the kWh above `from`
unfoldable pub tier_charge : ℕ → List ℕ → List ℕ → ℕ → ℕ
tier_charge from [] steps kwh = 0
tier_charge from (r ∷ rs) [] kwh = r * (kwh - from)
tier_charge from (r ∷ rs) (s ∷ ss) kwh = r * (min kwh s - from) + tier_charge s rs ss kwh

-- A charge with shares in it is a fraction of a mill, so charges are kept times the whole of the shares.
-- a month's charge for its kWh, so scaled
unfoldable pub month_charge : (peak : ℕ) → Tariff → (kwh : ℕ) → ℕ
month_charge peak x kwh =
    cond (eqb x.kind 1) (whole_share * tier_charge 0 (rates_in_use x) (tier_steps x) kwh) (weighted (rates_in_use x) (shares peak x) * kwh)

-- "The charge is standing × days plus the months' tier charges, or plus total × the percentage-weighted rate", so scaled
unfoldable pub charge : (standing days peak : ℕ) → Tariff → List ℕ → ℕ
charge standing days peak x months =
    whole_share * (standing * days)
    + cond (eqb x.kind 1)
    (whole_share * total (tier_charge 0 (rates_in_use x) (tier_steps x)) months)
    (weighted (rates_in_use x) (shares peak x) * sum months)
