-- Two sheets that are alike for a desk have the same figures in its regions: a figure depends only on fields 0 to 36 and on its region's own
-- network fields.
-- Assumes nothing.
use mathlib.Core.Path.{◌≡◌, sym, ◌∙◌, ap}
use mathlib.Core.Bool.{true, false}
use mathlib.Core.List.{List, [], ◌∷◌}
use Prim.Native.Nat.{ℕ, ◌+◌, ◌*◌, ◌/◌, ◌%◌, ◌<◌, ◌≤◌}
use native.Mathlib.Omega.{arith}
use lib.IntN.{nat_abs}
use lib.ListN.{get_or}
use Rattle.calendar.specs.Calendar.{period_days}
use Rattle.sheet.specs.Sheet.{field}
use Rattle.sheet.specs.CommonFields.{Agree}
use Rattle.benchmark.specs.Benchmark.{four, nc, panc, benchmark, figure_index, figure, figures, benchmarks_of}
use Rattle.benchmark.proofs.Commons.{common_same, benchmark_parts}
use Rattle.benchmark.proofs.Lawful.{figure_at_index}
use Rattle.desks.specs.Desks.{in_desk}
use Rattle.verdict.specs.Cells.{Cell, cell_numbers}
use Rattle.verdict.proofs.Meaning.{not_both}
use Rattle.book.specs.Calls.{Sheet}
use Rattle.book.specs.Checks.{figures_of}
use Rattle.alike.specs.Alike.{NetworkOutside, SheetsAlike}

-- a benchmark of two sheets that agree in fields 0 to 36, where NC is the same too
same_benchmark : (s t : List ℕ) → Agree s t → (r a p l : ℕ) → a < 2 → p < 2 → l < 2
    → field s (37 + 4 * r + four a l) ≡ field t (37 + 4 * r + four a l) → benchmark s r a p l ≡ benchmark t r a p l
unfolding nc panc
same_benchmark s t same r a p l ha hp hl network =
    benchmark_parts s r a p l ∙ rw (common_same s t same a p l ha hp hl, network, same (18 + p) (omega arith)) (sym (benchmark_parts t r a p l))

module _ (desk : ℕ) (s t : Sheet) (h : SheetsAlike desk s t) where
  low_same : Agree s.fields t.fields
  low_same k l = h.fields k (λ n. omega (arith, n.4))

  high_same : (k : ℕ) → 93 ≤ k → field s.fields k ≡ field t.fields k
  high_same k l = h.fields k (λ n. omega (arith, n.2, n.3, n.4))

  network_same : (r f : ℕ) → in_desk desk r ≡ true → f < 4 → field s.fields (37 + 4 * r + f) ≡ field t.fields (37 + 4 * r + f)
  network_same r f i l = h.fields (37 + 4 * r + f) (λ n. not_both i (its n))
    where
      its : NetworkOutside desk (37 + 4 * r + f) → in_desk desk r ≡ false
      its n = let q : r ≡ n.0 = omega (arith, n.3, n.4) in rw q n.5

  -- a figure of one of the desk's regions
  pub benchmark_same : (r a p l : ℕ) → in_desk desk r ≡ true → a < 2 → p < 2 → l < 2 → benchmark s.fields r a p l ≡ benchmark t.fields r a p l
  benchmark_same r a p l i ha hp hl = same_benchmark s.fields t.fields low_same r a p l ha hp hl (network_same r (four a l) i (omega arith))

  figure_same : (r a p l : ℕ) → in_desk desk r ≡ true → r < 14 → a < 2 → p < 2 → l < 2
      → get_or (figures s.fields) (figure_index r a p l) 0 ≡ get_or (figures t.fields) (figure_index r a p l) 0
  unfolding figure
  figure_same r a p l i hr ha hp hl =
      let k = figure_index r a p l in
      let er : k / 8 ≡ r = omega arith in
      figure_at_index s.fields k (omega arith)
      ∙ ap nat_abs (benchmark_same (k / 8) (k / 4 % 2) (k / 2 % 2) (k % 2) (rw er i) (omega arith) (omega arith) (omega arith))
      ∙ sym (figure_at_index t.fields k (omega arith))

  -- m of either arrangement
  pub m_same : (a standing : ℕ) (c : Cell) → (cell_numbers (figures_of s) a standing c).m ≡ (cell_numbers (figures_of t) a standing c).m
  unfolding cell_numbers benchmarks_of
  m_same a standing c = λ j. get_or (high_same 93 (omega arith) j ∷ high_same 94 (omega arith) j ∷ []) a 0

  -- and the numbers of one of its cells
  pub numbers_same : (a standing : ℕ) (c : Cell) → in_desk desk c.region ≡ true → c.region < 14 → a < 2 → c.method < 2
      → cell_numbers (figures_of s) a standing c ≡ cell_numbers (figures_of t) a standing c
  unfolding cell_numbers benchmarks_of
  numbers_same a standing c i hr ha hp =
      let low = figure_same c.region a c.method 0 i hr ha hp (omega arith) in
      let up = figure_same c.region a c.method 1 i hr ha hp (omega arith) in
      λ j. record {
        lower = low j;
        upper = up j;
        m = get_or (high_same 93 (omega arith) j ∷ high_same 94 (omega arith) j ∷ []) a 0;
        months = (h.period j).months;
        days = period_days (h.period j);
        standing = standing;
        peak = high_same 95 (omega arith) j;
      }
