-- Only Economy 7 depends on the split: of any other kind the excess, the worst months and whether the tariff exceeds in a cell are the same
-- under another peak share.
-- Assumes nothing.
use mathlib.Core.Path.{◌≡◌, refl, sym, ◌∙◌, ap}
use mathlib.Core.Bool.{false}
use mathlib.Core.List.{List}
use Prim.Native.Nat.{ℕ, ◌*◌, ◌-◌}
use lib.Dec.{eqb, ltb}
use lib.IntN.{pos, ◌-ℤ◌}
use lib.ListN.{replicate}
use Rattle.laws.specs.Greatest.{first_greatest}
use Rattle.shares.specs.Shares.{whole_share}
use Rattle.tariff.specs.declared.Tariff.{Tariff}
use Rattle.charge.specs.Charge.{month_most}
use Rattle.charge.proofs.Registers.{month_without_split, charge_without_split}
use Rattle.cap.specs.declared.CellNumbers.{CellNumbers}
use Rattle.cap.specs.Cap.{maximum, charged, capped, excess, share, worst_month, worst_months}
use Rattle.cap.specs.Decided.{decided}
use Rattle.cap.proofs.Decided.{exceeds?}
use Rattle.cap.proofs.Comparing.{decided_at_worst}

-- the numbers of a cell with another peak share
abbrev pub numbers_under : ℕ → CellNumbers → CellNumbers
numbers_under tenths e =
    record { lower = e.lower; upper = e.upper; m = e.m; months = e.months; days = e.days; standing = e.standing; peak = tenths }

module _ (tenths : ℕ) (e : CellNumbers) (x : Tariff) (other : eqb x.kind 2 ≡ false) where
  charged_same : (months : List ℕ) → charged e x months ≡ charged (numbers_under tenths e) x months
  unfolding charged
  charged_same months = ap (λ (c : ℕ). 12 * e.m * c) (charge_without_split e.peak tenths x other e.standing e.days months)

  capped_same : (months : List ℕ) → capped e months ≡ capped (numbers_under tenths e) months
  unfolding capped maximum
  capped_same months = refl

  share_same : (kwh : ℕ) → share e x kwh ≡ share (numbers_under tenths e) x kwh
  unfolding share
  share_same kwh =
      ap (λ (c : ℕ). pos (12 * e.m * c) -ℤ pos (12 * whole_share * (e.upper - e.lower) * kwh)) (month_without_split e.peak tenths x other kwh)

  pub months_without_split : worst_months e x ≡ worst_months (numbers_under tenths e) x
  unfolding worst_months worst_month
  months_without_split = λ i. replicate e.months (first_greatest (λ kwh. share_same kwh i) month_most)

  pub excess_without_split : (months : List ℕ) → excess e x months ≡ excess (numbers_under tenths e) x months
  unfolding excess
  excess_without_split months = λ i. pos (charged_same months i) -ℤ pos (capped_same months i)

  over_same : (months : List ℕ) → ltb (capped e months) (charged e x months) ≡ ltb (capped (numbers_under tenths e) months) (charged (numbers_under tenths e) x months)
  over_same months = λ i. ltb (capped_same months i) (charged_same months i)

  pub exceeds_without_split : decided (exceeds? e x) ≡ decided (exceeds? (numbers_under tenths e) x)
  exceeds_without_split =
      decided_at_worst e x
      ∙ over_same (worst_months e x)
      ∙ ap (λ months. ltb (capped (numbers_under tenths e) months) (charged (numbers_under tenths e) x months)) months_without_split
      ∙ sym (decided_at_worst (numbers_under tenths e) x)
