-- How it is decided whether a tariff exceeds in a cell: by the worst months, and the laws that make that enough.
-- Assumes nothing.
use Rattle.std.specs.Prelude.{◌≡◌, List, ℕ, zero, suc, ◌+◌, ◌-◌, ◌*◌, ◌≤◌, ◌<◌, pos, get_or, replicate, ◌<ℤ◌}
use Rattle.std.proofs.Math.Path.{ap}
use Rattle.std.proofs.Math.Decide.{dec_lt}
use native.Mathlib.Omega.{arith}
use Rattle.std.proofs.lemmas.List.{length-replicate}
use Rattle.laws.specs.Notions.{total}
use Rattle.laws.specs.Greatest.{Greatest}
use Rattle.laws.proofs.Sums.{total_same, total_scaled, total_line}
use Rattle.laws.proofs.Differences.{difference_above, above_difference}
use Rattle.laws.proofs.Greatest.{Best, first_best, first_greatest_lem, total_best}
use Rattle.shares.specs.Shares.{whole_share}
use Rattle.tariff.specs.declared.Tariff.{Tariff}
use Rattle.charge.specs.Charge.{month_most, month_charge}
use Rattle.charge.proofs.Months.{charge_monthly}
use Rattle.cap.specs.declared.CellNumbers.{CellNumbers}
use Rattle.cap.specs.Deciding.{month_charged, month_capped, fixed_charged, fixed_capped}
use Rattle.cap.specs.Cap.{maximum, charged, capped, excess, Months, Exceeds, share, worst_month, worst_months}

module _ (e : CellNumbers) (x : Tariff) where
  pub charged_monthly : (months : List ℕ) → charged e x months ≡ fixed_charged e + total (month_charged e x) months
  unfolding charged
  charged_monthly months =
      omega (
        arith,
        ap (λ (c : ℕ). 12 * e.m * c) (charge_monthly e.standing e.days e.peak x months),
        total_scaled (12 * e.m) (month_charge e.peak x) months,
      )

  pub capped_monthly : (months : List ℕ) → capped e months ≡ fixed_capped e + total (month_capped e) months
  unfolding capped maximum
  capped_monthly months = omega (arith, total_line (12 * whole_share * (e.upper - e.lower)) months)

  -- the worst month is the smallest of greatest share
  pub worst_best : Best (month_charged e x) (month_capped e) month_most (worst_month e x)
  unfolding worst_month share
  worst_best = first_best (month_charged e x) (month_capped e) month_most

  pub worst_is : Greatest (share e x) month_most (worst_month e x)
  unfolding worst_month share
  worst_is = first_greatest_lem (month_charged e x) (month_capped e) month_most

  -- the worst months are a list of t months
  same_at : (t w : ℕ) → w ≤ month_most → (i : ℕ) → get_or (replicate t w) i 0 ≤ month_most
  same_at zero w h i = omega arith
  same_at (suc t) w h zero = h
  same_at (suc t) w h (suc i) = same_at t w h i

  pub equal_months : (w : ℕ) → w ≤ month_most → Months e.months (replicate e.months w)
  equal_months w h = (length-replicate e.months w, same_at e.months w h)

  pub worst_months_lem : Months e.months (worst_months e x)
  unfolding worst_months
  worst_months_lem = equal_months (worst_month e x) worst_best.within

  -- no list of t months brings a greater difference than the worst
  pub worst_most : (months : List ℕ) → Months e.months months
      → charged e x months + capped e (worst_months e x) ≤ charged e x (worst_months e x) + capped e months
  unfolding worst_months
  worst_most months h =
      let w = worst_month e x in
      omega (
        arith,
        charged_monthly months,
        capped_monthly months,
        charged_monthly (worst_months e x),
        capped_monthly (worst_months e x),
        total_same (month_charged e x) e.months w,
        total_same (month_capped e) e.months w,
        total_best (month_charged e x) (month_capped e) month_most w worst_best e.months months h.0 h.1,
      )

  pub exceeds_if : (months : List ℕ) → capped e months < charged e x months → pos 0 <ℤ excess e x months
  unfolding excess
  exceeds_if months h = difference_above (charged e x months) (capped e months) h

  pub only_if : (months : List ℕ) → pos 0 <ℤ excess e x months → capped e months < charged e x months
  unfolding excess
  only_if months h = above_difference (charged e x months) (capped e months) h

  pub at_the_worst : Dec (Exceeds e x)
  at_the_worst =
      elim (dec_lt (capped e (worst_months e x)) (charged e x (worst_months e x))) [
        | yes l ↦ yes (worst_months e x, worst_months_lem, exceeds_if (worst_months e x) l)
        | no l ↦ no (λ h. l (omega (arith, worst_most h.0 h.1, only_if h.0 h.2)))
      ]
