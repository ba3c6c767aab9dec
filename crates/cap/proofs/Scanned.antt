-- The worst months by a look at the corners alone: the same as the definition's, and quick to compute.
-- Assumes nothing.
use mathlib.Core.Path.{◌≡◌, sym, ap}
use mathlib.Core.Bool.{true}
use mathlib.Core.List.{List}
use Prim.Native.Nat.{ℕ, ◌≤◌}
use lib.ListN.{length, replicate}
use Rattle.laws.proofs.Pieces.{scan}
use Rattle.shares.specs.Shares.{whole_share}
use Rattle.tariff.specs.declared.Tariff.{Tariff}
use Rattle.tariff.specs.Tariff.{valid_tariff}
use Rattle.charge.specs.Charge.{month_most}
use Rattle.charge.specs.Tiers.{tiers_of}
use Rattle.cap.specs.declared.CellNumbers.{CellNumbers}
use Rattle.cap.specs.Cap.{worst_months}
use Rattle.cap.specs.Corners.{corners_of}
use Rattle.cap.specs.Deciding.{month_charged, month_capped}
use Rattle.cap.proofs.Runs.{month_pieces, scan_is_worst}

unfoldable pub scanned_months : CellNumbers → Tariff → List ℕ
scanned_months e x = replicate e.months (scan (month_charged e x) (month_capped e) 0 (corners_of month_most (tiers_of e.peak x)))

pub months_scanned : (e : CellNumbers) (x : Tariff) → e.peak ≤ whole_share → valid_tariff x ≡ true → length x.rates ≡ 4 → length x.steps ≡ 4
    → worst_months e x ≡ scanned_months e x
unfolding worst_months scanned_months
months_scanned e x p v rs ss = ap (replicate e.months) (sym (scan_is_worst e x (month_pieces e.peak x p v rs ss e.m)))
