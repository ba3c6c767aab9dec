-- BENCHMARK and MAXIMUM of document 01: what each answers, on refused input too; and the answers of all calls that tell.
-- Assumes nothing.
use Rattle.std.specs.Prelude.{Bool, ◌&&◌, ℕ, ◌*◌, leb, ltb, ℤ, pos}
use Rattle.refusal.specs.Checks.{need, given}
use Rattle.benchmark.specs.Benchmark.{benchmark}
use Rattle.desks.specs.Desks.{may_query}
use Rattle.cap.specs.Cap.{maximum}
use Rattle.verdict.specs.Cells.{cell, cell_numbers}
use Rattle.book.specs.declared.Book.{Book}
use Rattle.book.specs.Calls.{Sheet}
use Rattle.book.specs.Checks.{figures_of}
use Rattle.book.specs.Book.{in_force}
use Rattle.queries.specs.declared.Told.{Told}
use Rattle.queries.specs.declared.Told.TheVariants as told

-- "the whole number above and 12 × m": the maximum "kept as this whole number over 12 × m"
pub record Fraction : Type 0 where
  pub number : ℕ
  pub denominator : ℕ

-- M-103: "QUOTE scales by 1,000 × 12 × m", the charge and the maximum
pub record Quotation : Type 0 where
  pub charge : ℕ
  pub maximum : ℕ

-- "A refusal returns its number"; else BENCHMARK gives the Benchmark Maximum Charge in mills, MAXIMUM the Relevant Maximum Charge as
-- a fraction, QUOTE a quotation, and TRIAL "a set of codes, bit code - 1" (trial/specs/Trial.antt)
pub data Telling : Type 0 where
  refused : (number : ℕ) → Telling
  benchmark_charge : (mills : ℤ) → Telling
  maximum_charge : Fraction → Telling
  quotation : Quotation → Telling
  falling : (codes : ℕ) → Telling

-- the code's answer in these words: "this paper's number and values for each of the enum's cases"
abbrev pub telling_of : Told → Telling
telling_of (told.Refused n) = refused n
telling_of (told.Benchmark mills) = benchmark_charge (pos mills)
telling_of (told.Maximum n d) = maximum_charge (record { number = n; denominator = d })
telling_of (told.Quote c m) = quotation (record { charge = c; maximum = m })
telling_of (told.Falling codes) = falling codes

-- "13: an argument outside its range": region 0 to 13; arrangement, method and level 0 or 1
abbrev pub in_ranges : ℕ → ℕ → ℕ → Bool
in_ranges region arrangement method = ltb region 14 && ltb arrangement 2 && ltb method 2

-- BENCHMARK (region, arrangement, method, level), of a desk. 13. 17: the region is not the desk's. 10: no sheet
unfoldable pub benchmark_of : Book → (desk : ℕ) → ℕ → ℕ → ℕ → ℕ → Telling
benchmark_of b desk r a p l =
    need refused (in_ranges r a p && ltb l 2) 13
    (need refused (may_query desk r) 17 (given refused (in_force b) 10 (λ s. benchmark_charge (benchmark s.fields r a p l))))

-- MAXIMUM (region, arrangement, method, total 0 to 120,000): "the same two", and 17 as in BENCHMARK; "gives the whole number above and 12 × m". No standing
-- charge enters the maximum
abbrev pub maximum_in : Sheet → ℕ → ℕ → ℕ → ℕ → Fraction
maximum_in s r a p total =
    let e = cell_numbers (figures_of s) a 0 (cell r p) in record { number = maximum e total; denominator = 12 * e.m }

unfoldable pub maximum_of : Book → (desk : ℕ) → ℕ → ℕ → ℕ → ℕ → Telling
maximum_of b desk r a p total =
    need refused (in_ranges r a p && leb total 120000) 13
    (need refused (may_query desk r) 17 (given refused (in_force b) 10 (λ s. maximum_charge (maximum_in s r a p total))))
