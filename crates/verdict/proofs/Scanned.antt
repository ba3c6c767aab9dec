-- The verdict by a look at the corners alone: the same as the definition's, and quick to compute.
-- Assumes nothing.
use mathlib.Core.Path.{◌≡◌, refl, ◌∙◌, ap}
use mathlib.Core.Bool.{Bool, true, ◌&&◌}
use mathlib.Core.List.{List}
use mathlib.Core.Option.{Option, none, some}
use Prim.Native.Nat.{ℕ, zero, suc, ◌≤◌}
use lib.Dec.{ltb}
use lib.ListN.{length}
use Rattle.shares.specs.Shares.{whole_share}
use Rattle.benchmark.specs.declared.Benchmarks.{Benchmarks}
use Rattle.tariff.specs.declared.Tariff.{Tariff}
use Rattle.tariff.specs.Tariff.{valid_tariff}
use Rattle.cap.specs.declared.CellNumbers.{CellNumbers}
use Rattle.cap.specs.Cap.{charged, capped, excess, worst_months}
use Rattle.cap.proofs.Comparing.{decided_at_worst}
use Rattle.cap.proofs.Scanned.{scanned_months, months_scanned}
use Rattle.verdict.specs.Cells.{Cell, offered, cell_numbers, tariff_numbers, cell_at, exceeds_at, first_of, first_below, first_over, cell_count, Verdict, opens, over, verdict_at, verdict}

-- the test by the scan
abbrev pub over_at : CellNumbers → Tariff → List ℕ → Bool
over_at e x months = ltb (capped e months) (charged e x months)

unfoldable pub scanned_below : Benchmarks → Tariff → ℕ → Option Cell
scanned_below b x zero = none
scanned_below b x (suc n) =
    first_of (scanned_below b x n)
    (offered x (cell_at n) && over_at (tariff_numbers b x (cell_at n)) x (scanned_months (tariff_numbers b x (cell_at n)) x)) (cell_at n)

abbrev pub scanned_at : Benchmarks → Tariff → Option Cell → Verdict
scanned_at b x none = opens (cell_count x)
scanned_at b x (some c) = over c (scanned_months (tariff_numbers b x c) x) (excess (tariff_numbers b x c) x (scanned_months (tariff_numbers b x c) x))

unfoldable pub scanned_verdict : Benchmarks → Tariff → Verdict
scanned_verdict b x = scanned_at b x (scanned_below b x 28)

module _ (b : Benchmarks) (x : Tariff) (k : b.peak ≤ whole_share) (v : valid_tariff x ≡ true) (rs : length x.rates ≡ 4) (ss : length x.steps ≡ 4) where
  same_months : (c : Cell) → worst_months (tariff_numbers b x c) x ≡ scanned_months (tariff_numbers b x c) x
  unfolding cell_numbers
  same_months c = months_scanned (tariff_numbers b x c) x k v rs ss

  same_below : (n : ℕ) → first_below b x n ≡ scanned_below b x n
  unfolding first_below scanned_below exceeds_at
  same_below zero = refl
  same_below (suc n) = rw (same_below n, decided_at_worst (tariff_numbers b x (cell_at n)) x, same_months (cell_at n)) refl

  same_at : (o : Option Cell) → verdict_at b x o ≡ scanned_at b x o
  same_at none = refl
  same_at (some c) = rw (same_months c) refl

  pub verdict_scanned : verdict b x ≡ scanned_verdict b x
  unfolding verdict scanned_verdict first_over
  verdict_scanned = same_at (first_below b x 28) ∙ ap (scanned_at b x) (same_below 28)
