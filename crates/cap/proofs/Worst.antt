-- The worst months are worst: what "exceeds" comes to, for every list of t months.
-- Assumes nothing.
use mathlib.Core.Path.{sym, subst}
use mathlib.Core.List.{List}
use Prim.Native.Nat.{ℕ, ◌<◌, ◌≤◌}
use native.Mathlib.Omega.{arith}
use lib.IntN.{pos}
use lib.ListN.{length, get_or, replicate, length-replicate, get_or-replicate}
use lib.Signed.{◌<ℤ◌, ◌≤ℤ◌}
use Rattle.laws.specs.Greatest.{Greatest}
use Rattle.laws.proofs.Differences.{difference_at_most}
use Rattle.tariff.specs.declared.Tariff.{Tariff}
use Rattle.cap.specs.declared.CellNumbers.{CellNumbers}
use Rattle.charge.specs.Charge.{month_most}
use Rattle.cap.specs.Cap.{charged, capped, excess, Months, Exceeds, share, worst_month, worst_months}
use Rattle.cap.proofs.Deciding.{worst_best, worst_is, worst_most, exceeds_if, only_if}

module _ (e : CellNumbers) (x : Tariff) where
  -- for every list of t months, the excess is at most that of the worst months
  pub excess_most : (months : List ℕ) → Months e.months months → excess e x months ≤ℤ excess e x (worst_months e x)
  unfolding excess
  excess_most months h =
      difference_at_most (charged e x months) (capped e months) (charged e x (worst_months e x)) (capped e (worst_months e x))
      (worst_most e x months h)

  -- so a tariff exceeds exactly when it does at the worst months
  pub exceeds_at_worst : Exceeds e x → pos 0 <ℤ excess e x (worst_months e x)
  exceeds_at_worst h =
      exceeds_if e x (worst_months e x) (omega (arith, worst_most e x h.0 h.1, only_if e x h.0 h.2))

  -- each of the worst months is the smallest of greatest share
  pub each_worst : (i : ℕ) → i < length (worst_months e x) → Greatest (share e x) month_most (get_or (worst_months e x) i 0)
  unfolding worst_months
  each_worst i h =
      let l : i < e.months = omega (arith, length-replicate e.months (worst_month e x)) in
      subst (Greatest (share e x) month_most) (sym (get_or-replicate e.months i (worst_month e x) 0 l)) worst_here
    where
      worst_here : Greatest (share e x) month_most (worst_month e x)
      worst_here = worst_is e x

  -- Kinds 1 to 3: where some division of use between the months exceeds, one with equal months does
  pub equal_months_exceed : Exceeds e x → (kwh : ℕ) × (kwh ≤ month_most) × (pos 0 <ℤ excess e x (replicate e.months kwh))
  unfolding worst_months
  equal_months_exceed h = (worst_month e x, (worst_best e x).within, exceeds_at_worst h)

  -- so a tariff that passes with equal months passes at every division
  pub equal_months_pass : ((kwh : ℕ) → kwh ≤ month_most → (pos 0 <ℤ excess e x (replicate e.months kwh)) → ⊥) → Exceeds e x → ⊥
  unfolding worst_months
  equal_months_pass pass h = pass (worst_month e x) (worst_best e x).within (exceeds_at_worst h)
