-- The cells of a tariff, OPEN's walk over them and its verdict: "OPEN" of document 01 from refusal 11 on.
-- Assumes nothing.
use Rattle.std.specs.Prelude.{◌≡◌, Bool, true, false, ◌&&◌, List, ◌⊎◌, ℕ, zero, suc, ◌*◌, ◌/◌, ◌%◌, ◌<◌, ℤ, get_or}
use Rattle.std.proofs.Math.Option.{Option, none, some}
use Rattle.std.specs.Int.Count.{ones}
use Rattle.laws.specs.Notions.{bit}
use Rattle.benchmark.specs.declared.Benchmarks.{Benchmarks}
use Rattle.benchmark.specs.Benchmark.{figure_index}
use Rattle.tariff.specs.declared.Tariff.{Tariff}
use Rattle.tariff.specs.Tariff.{standing_in}
use Rattle.charge.specs.Charge.{arrangement}
use Rattle.cap.specs.declared.CellNumbers.{CellNumbers}
use Rattle.cap.specs.Cap.{excess, Exceeds, worst_months}
use Rattle.cap.specs.Decided.{decided}
use Rattle.cap.proofs.Decided.{exceeds?}

-- a cell: "one of its offered regions with one of its offered methods"
pub record Cell : Type 0 where
  pub region : ℕ
  pub method : ℕ

abbrev pub cell : ℕ → ℕ → Cell
cell region method = record { region = region; method = method }

unfoldable pub offered : Tariff → Cell → Bool
offered x c = bit x.regions c.region && bit x.methods c.method

abbrev pub Offered : Tariff → Cell → Type 0
Offered x c = (c.region < 14) × (c.method < 2) × (offered x c ≡ true)

-- the numbers of a cell in an arrangement, with the figures of a sheet, for a standing charge
unfoldable pub cell_numbers : Benchmarks → (arrangement standing : ℕ) → Cell → CellNumbers
cell_numbers b arrangement standing c =
    record {
      lower = get_or b.charges (figure_index c.region arrangement c.method 0) 0;
      upper = get_or b.charges (figure_index c.region arrangement c.method 1) 0;
      m = get_or b.levels arrangement 0;
      months = b.months;
      days = b.days;
      standing = standing;
      peak = b.peak;
    }

-- those of a tariff's cell: kind 1 is held to arrangement 0, kinds 2 and 3 to arrangement 1; M-104: "at or below the cap with the charge of
-- the region concerned"
abbrev pub tariff_numbers : Benchmarks → Tariff → Cell → CellNumbers
tariff_numbers b x c = cell_numbers b (arrangement x) (standing_in x c.region) c

-- "A tariff exceeds in a cell"
abbrev pub ExceedsIn : Benchmarks → Tariff → Cell → Type 0
ExceedsIn b x c = Exceeds (tariff_numbers b x c) x

-- "Cells are taken by region, then method, both rising": one cell before another, and cell n in this order
-- (proofs/Meaning.antt, `in_order`)
abbrev pub Before : Cell → Cell → Type 0
Before d c = (d.region < c.region) ⊎ ((d.region ≡ c.region) × (d.method < c.method))

abbrev pub cell_at : ℕ → Cell
cell_at n = record { region = n / 2; method = n % 2 }

-- cell n is offered and exceeds
unfoldable pub exceeds_at : Benchmarks → Tariff → ℕ → Bool
exceeds_at b x n = offered x (cell_at n) && decided (exceeds? (tariff_numbers b x (cell_at n)) x)

-- the cell found before, or else this one where it is a hit
abbrev pub first_of : Option Cell → Bool → Cell → Option Cell
first_of (some c) hit d = some c
first_of none true d = some d
first_of none false d = none

-- the first of the cells before cell n that exceeds
unfoldable pub first_below : Benchmarks → Tariff → ℕ → Option Cell
first_below b x zero = none
first_below b x (suc n) = first_of (first_below b x n) (exceeds_at b x n) (cell_at n)

-- the first of all 28 (proofs/Meaning.antt, `first_exceeds` and `none_exceeds`)
unfoldable pub first_over : Benchmarks → Tariff → Option Cell
first_over b x = first_below b x 28

-- "the number of cells, offered regions times offered methods" (proofs/Count.antt, `cells_counted`)
unfoldable pub cell_count : Tariff → ℕ
cell_count x = ones x.regions * ones x.methods

-- the verdict: the tariff opens, with the number of its cells; or it is over the cap, with the first cell that exceeds, t months
-- of greatest excess there, and their excess
pub data Verdict : Type 0 where
  opens : ℕ → Verdict
  over : Cell → List ℕ → ℤ → Verdict

abbrev pub verdict_at : Benchmarks → Tariff → Option Cell → Verdict
verdict_at b x none = opens (cell_count x)
verdict_at b x (some c) = over c (worst_months (tariff_numbers b x c) x) (excess (tariff_numbers b x c) x (worst_months (tariff_numbers b x c) x))

unfoldable pub verdict : Benchmarks → Tariff → Verdict
verdict b x = verdict_at b x (first_over b x)
