-- Standing charges by region (document 02, M-104): what a region adds counts in its own cells alone; a tariff with 0 in all fourteen has the
-- charge that document 01 gives, in every region; and the months of greatest excess depend on no standing charge.
-- Assumes nothing.
use mathlib.Core.Path.{◌≡◌, ap, subst}
use mathlib.Core.List.{List}
use Prim.Native.Nat.{ℕ, ◌+◌, ◌*◌}
use native.Mathlib.Omega.{arith}
use lib.ListN.{get_or}
use Rattle.benchmark.specs.declared.Benchmarks.{Benchmarks}
use Rattle.tariff.specs.declared.Tariff.{Tariff}
use Rattle.tariff.specs.Tariff.{standing_in}
use Rattle.charge.specs.Charge.{arrangement, charge}
use Rattle.cap.specs.Cap.{charged, capped, excess, Exceeds, worst_months}
use Rattle.cap.proofs.Standing.{worst_without_standing}
use Rattle.verdict.specs.Cells.{Cell, cell_numbers, tariff_numbers, ExceedsIn}

-- a tariff with other numbers in the fourteen
abbrev pub with_numbers : List ℕ → Tariff → Tariff
with_numbers fourteen x =
    record { kind = x.kind; n = x.n; standing = x.standing; regions = x.regions; methods = x.methods; rates = x.rates; steps = x.steps; regional = fourteen }

-- two that add the same in the region of a cell exceed there alike
pub counts_in_its_region : (b : Benchmarks) (x : Tariff) (c : Cell) (some others : List ℕ) → get_or some c.region 0 ≡ get_or others c.region 0
    → ExceedsIn b (with_numbers some x) c → ExceedsIn b (with_numbers others x) c
unfolding standing_in cell_numbers arrangement excess charged capped charge
counts_in_its_region b x c some others same h =
    subst (λ (s : ℕ). Exceeds (cell_numbers b (arrangement x) (x.standing + s) c) x) same h

-- 0 in all fourteen
abbrev pub NothingAdded : Tariff → Type 0
NothingAdded x = (region : ℕ) → get_or x.regional region 0 ≡ 0

module _ (b : Benchmarks) (x : Tariff) (c : Cell) where
  -- document 01: "The charge is standing × days plus ..", its standing charge field 2
  pub standing_of_field_2 : NothingAdded x → standing_in x c.region ≡ x.standing
  unfolding standing_in
  standing_of_field_2 none = omega (arith, none c.region)

  pub numbers_of_field_2 : NothingAdded x → tariff_numbers b x c ≡ cell_numbers b (arrangement x) x.standing c
  numbers_of_field_2 none = ap (λ (s : ℕ). cell_numbers b (arrangement x) s c) (standing_of_field_2 none)

  pub charge_of_field_2 : NothingAdded x → (months : List ℕ)
      → charged (tariff_numbers b x c) x months ≡ 12 * (tariff_numbers b x c).m * charge x.standing b.days b.peak x months
  unfolding charged cell_numbers
  charge_of_field_2 none months = ap (λ (s : ℕ). 12 * get_or b.levels (arrangement x) 0 * charge s b.days b.peak x months) (standing_of_field_2 none)

  -- the worst months of a cell, whatever is charged a day
  pub worst_for_any_standing : (standing : ℕ) → worst_months (tariff_numbers b x c) x ≡ worst_months (cell_numbers b (arrangement x) standing c) x
  unfolding cell_numbers
  worst_for_any_standing standing = worst_without_standing standing (tariff_numbers b x c) x
