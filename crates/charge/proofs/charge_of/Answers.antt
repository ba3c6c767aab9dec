-- `charge::charge_of` meets its contract.
-- Assumes nothing.
use Rattle.std.proofs.Common.{◌≡◌, ℕ, ◌*◌, ◌≤◌, List, length, get_or, arith, rules, sym}
use Rattle.std.specs.List.{All, sum_by}
use Rattle.std.proofs.lemmas.List.{get_or_default}
use Rattle.std.proofs.iter.Serving.{serving}
use Rattle.std.proofs.iter.runs.Made.{chains}
use native.Mathlib.Nat.{mul-le-mul}
use Rattle.laws.specs.Notions.{total}
use Rattle.laws.proofs.Chains.{is_total}
use Rattle.laws.proofs.Bounds.{total_most_lem}
use Rattle.laws.proofs.Parts.{total_alike}
use Rattle.tariff.specs.declared.Tariff.{Tariff}
use Rattle.tariff.specs.Tariff.{standing_most}
use Rattle.charge.specs.declared.Tiers.{Tiers}
use Rattle.charge.specs.Charge.{month_most, month_charge}
use Rattle.charge.specs.Most.{months_most, days_most, month_charge_most}
use Rattle.charge.specs.Tiers.{tiers_of, by_tiers, TiersFit}
use Rattle.charge.proofs.Months.{charge_monthly}
use Rattle.charge.proofs.TariffTiers.{month_tiers, tiers_most}
use Rattle.charge.proofs.charge_of.Goals as goal

-- the standing charge is at most that of the most days
standing_most_lem : (standing days : ℕ) → standing ≤ standing_most → days ≤ days_most → standing * days ≤ standing_most * days_most
standing_most_lem standing days s d = mul-le-mul s d

-- and the charges of the months are at most as many times the greatest
months_most_lem : (t : Tiers) (months : List ℕ) → TiersFit month_most t → length months ≤ months_most → ((i : ℕ) → get_or months i 0 ≤ month_most)
    → total (by_tiers t) months ≤ months_most * month_charge_most
months_most_lem t months f l m =
    let at : (i : ℕ) → by_tiers t (get_or months i 0) ≤ month_charge_most = λ i. omega (arith, tiers_most month_most t f (get_or months i 0), m i) in
    omega (arith, total_most_lem (by_tiers t) month_charge_most months at)

-- the months' charges are the tariff's
same : (peak : ℕ) (x : Tariff) (t : Tiers) (months : List ℕ) → t ≡ tiers_of peak x → total (by_tiers t) months ≡ total (month_charge peak x) months
same peak x t months e = total_alike (by_tiers t) (month_charge peak x) (λ kwh. rw e (sym (month_tiers peak x kwh))) months

pub sum-sum-requires-clause-can : goal.sum-sum-requires-clause-can
sum-sum-requires-clause-can c =
    let each : All (λ x. x ≤ month_most) c.args.months.now = λ k d l. rw (get_or_default c.args.months.now k d 0 l) (c.requires.5 k) in
    grind serving

pub overflow_add-result : goal.overflow_add-result
overflow_add-result c =
    let a = c.args in
    let t = c.tiers_of-tiers.result in
    let s : c.sum-sum.result ≡ sum_by (by_tiers t) a.months.now = search (rules, chains) in
    rw (c.from.ensures, c.from-2.ensures)
    (record { fits = omega (arith, s, is_total (by_tiers t) a.months.now, months_most_lem t a.months.now c.tiers_of-tiers.ensures.1 c.requires.4 c.requires.5, standing_most_lem a.standing a.days c.requires.1 c.requires.2) })

pub returns : goal.returns
returns c =
    let a = c.args in
    let t = c.tiers_of-tiers.result in
    let s : c.sum-sum.result ≡ sum_by (by_tiers t) a.months.now = search (rules, chains) in
    rw (c.from.ensures, c.from-2.ensures) (
      omega (arith, s, is_total (by_tiers t) a.months.now, same a.peak a.x t a.months.now c.tiers_of-tiers.ensures.0, charge_monthly a.standing a.days a.peak a.x a.months.now),
      omega (arith, s, is_total (by_tiers t) a.months.now, months_most_lem t a.months.now c.tiers_of-tiers.ensures.1 c.requires.4 c.requires.5, standing_most_lem a.standing a.days c.requires.1 c.requires.2),
    )
