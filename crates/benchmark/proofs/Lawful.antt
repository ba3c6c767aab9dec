-- A sheet and a period that SET accepts: what its checks give, each of the 112 figures, and that what they come to is lawful.
-- Assumes nothing.
use mathlib.Core.Path.{◌≡◌, refl, ◌∙◌, ap}
use mathlib.Core.Bool.{true}
use mathlib.Core.List.{List, [], ◌∷◌}
use Prim.Native.Nat.{ℕ, zero, suc, ◌+◌, ◌*◌, ◌/◌, ◌%◌, ◌<◌, ◌≤◌}
use native.Mathlib.Decide.{dec_le}
use native.Mathlib.Omega.{arith}
use lib.Dec.{leb, eqb}
use lib.IntN.{pos}
use lib.ListN.{length, get_or, get_or-eq_default}
use borrow.Author.Tests.{leb-true, eqb-true}
use Rattle.laws.proofs.Lists.{length_tabulate, get_d_tabulate}
use Rattle.laws.proofs.Every.{every_at}
use Rattle.refusal.specs.declared.Check.TheVariants.{Pass}
use Rattle.calendar.specs.declared.Period.{Period}
use Rattle.calendar.specs.Calendar.{period_in_range}
use Rattle.calendar.proofs.Periods.{within}
use Rattle.calendar.proofs.Lengths.{days_most_lem}
use Rattle.sheet.specs.Sheet.{field_count, field, fields_in_range, terms_fit}
use Rattle.sheet.specs.CommonFields.{common_fields}
use Rattle.sheet.specs.Ranged.{Ranged}
use Rattle.sheet.proofs.Bounds.{all_ranged, level_some, level_most_lem, peak_most}
use Rattle.benchmark.specs.Benchmark.{figure_index, benchmark, figure, figures, ocs_fit, ordered, benchmarks_of, set_check}
use Rattle.benchmark.specs.Signs.{Costed, NoneBelowZero}
use Rattle.benchmark.specs.Lawful.{Lawful}
use Rattle.refusal.proofs.Checks.{unless_passes}
use Rattle.benchmark.proofs.Commons.{figure_is_whole, figure_most}
use Rattle.benchmark.proofs.Signs.{common_costed, none_below_zero}

module _ (s : List ℕ) (p : Period) (e : set_check s p ≡ Pass) where
  checks_passed :
      (eqb (length s) field_count ≡ true) × (fields_in_range s ≡ true) × (period_in_range p ≡ true) × (terms_fit s ≡ true) × (ocs_fit s ≡ true) × (ordered (figures s) ≡ true)
  unfolding set_check
  checks_passed =
      let one = unless_passes (eqb (length s) field_count) 1 _ e in
      let two = unless_passes (fields_in_range s) 2 _ one.1 in
      let three = unless_passes (period_in_range p) 3 _ two.1 in
      let four = unless_passes (terms_fit s) 4 _ three.1 in
      let fourteen = unless_passes (ocs_fit s) 14 _ four.1 in
      let five = unless_passes (ordered (figures s)) 5 _ fourteen.1 in
      (one.0, two.0, three.0, four.0, fourteen.0, five.0)

  pub passed_count : length s ≡ field_count
  passed_count = eqb-true (length s) field_count checks_passed.0

  pub passed_ranges : fields_in_range s ≡ true
  passed_ranges = checks_passed.1

  pub passed_period : period_in_range p ≡ true
  passed_period = checks_passed.2

  pub passed_terms : terms_fit s ≡ true
  passed_terms = checks_passed.3

  pub passed_ocs : ocs_fit s ≡ true
  passed_ocs = checks_passed.4

  pub passed_ordered : ordered (figures s) ≡ true
  passed_ordered = checks_passed.5

  pub passed_ranged : Ranged field_count s
  passed_ranged = all_ranged s passed_count passed_ranges

  pub passed_costed : Costed (common_fields s)
  passed_costed = common_costed s passed_ranged passed_terms passed_ocs

  -- M-102: no benchmark of a negative OC is formed, and no negative number is rounded
  pub passed_signs : (r a m l : ℕ) → r < 14 → a < 2 → m < 2 → l < 2 → NoneBelowZero s r a m l
  passed_signs = none_below_zero s passed_ranged passed_costed

-- each of the 112 figures, by its index: the paper's formula
pub figure_at_index : (s : List ℕ) (k : ℕ) → k < 112 → get_or (figures s) k 0 ≡ figure s k
unfolding figures
figure_at_index s k h = get_d_tabulate 112 (figure s) k h

pub figure_count : (s : List ℕ) → length (figures s) ≡ 112
unfolding figures
figure_count s = length_tabulate 112 (figure s)

module _ (s : List ℕ) (h : Ranged field_count s) (i : Costed (common_fields s)) where
  figure_of_index : (r a p l : ℕ) → r < 14 → a < 2 → p < 2 → l < 2 → pos (figure s (figure_index r a p l)) ≡ benchmark s r a p l
  figure_of_index r a p l hr ha hp hl =
      let k = figure_index r a p l in
      let er : k / 8 ≡ r = omega arith in
      let ea : k / 4 % 2 ≡ a = omega arith in
      let ep : k / 2 % 2 ≡ p = omega arith in
      let el : k % 2 ≡ l = omega arith in
      figure_is_whole s h i k (omega arith) ∙ rw (er, ea, ep, el)

  pub charge_at_index : (r a p l : ℕ) → r < 14 → a < 2 → p < 2 → l < 2 → pos (get_or (figures s) (figure_index r a p l) 0) ≡ benchmark s r a p l
  charge_at_index r a p l hr ha hp hl =
      ap pos (figure_at_index s (figure_index r a p l) (omega arith)) ∙ figure_of_index r a p l hr ha hp hl

  pub charge_most_lem : (k : ℕ) → get_or (figures s) k 0 ≤ 2400000000
  charge_most_lem k = go (dec_le 112 k)
    where
      go : Dec (112 ≤ k) → get_or (figures s) k 0 ≤ 2400000000
      go (yes l) = omega (arith, get_or-eq_default (figures s) 0 {n = k} (omega (arith, figure_count s)))
      go (no l) = omega (arith, figure_at_index s k (omega arith), figure_most s h i k (omega arith))

-- no figure at m is below its figure at nil
pub ordered_at : (charges : List ℕ) → ordered charges ≡ true → (j : ℕ) → j < 56 → get_or charges (2 * j) 0 ≤ get_or charges (2 * j + 1) 0
unfolding ordered
ordered_at charges e j h =
    leb-true
    (get_or charges (2 * j) 0)
    (get_or charges (2 * j + 1) 0)
    (every_at (λ i. leb (get_or charges (2 * i) 0) (get_or charges (2 * i + 1) 0)) 56 e j h)

-- the two levels by their index
pair_some : (x y : ℕ) → 1 ≤ x → 1 ≤ y → (a : ℕ) → a < 2 → 1 ≤ get_or (x ∷ y ∷ []) a 0
pair_some x y hx hy zero l = hx
pair_some x y hx hy (suc zero) l = hy
pair_some x y hx hy (suc (suc a)) l = absurd (omega arith)

pair_most : (m x y : ℕ) → x ≤ m → y ≤ m → (a : ℕ) → get_or (x ∷ y ∷ []) a 0 ≤ m
pair_most m x y hx hy zero = hx
pair_most m x y hx hy (suc zero) = hy
pair_most m x y hx hy (suc (suc a)) = omega arith

-- what a sheet and a period that SET accepts come to
pub lawful : (s : List ℕ) (p : Period) → set_check s p ≡ Pass → Lawful (benchmarks_of s p)
unfolding benchmarks_of
lawful s p e =
    let h : Ranged field_count s = passed_ranged s p e in
    record {
      charge_count = figure_count s;
      level_count = refl;
      charges_most = charge_most_lem s h (passed_costed s p e);
      nil_at_most_m = ordered_at (figures s) (passed_ordered s p e);
      level_some = pair_some (field s 93) (field s 94) (level_some s h 93 (omega arith) (omega arith) (omega arith)) (level_some s h 94 (omega arith) (omega arith) (omega arith));
      level_most_lem = pair_most 20000 (field s 93) (field s 94) (level_most_lem s h 93 (omega arith) (omega arith) (omega arith)) (level_most_lem s h 94 (omega arith) (omega arith) (omega arith));
      peak_most = omega (arith, peak_most s h);
      months_some = (within p (passed_period s p e)).months_least;
      months_most_lem = (within p (passed_period s p e)).months_most_lem;
      days_most_lem = days_most_lem p (passed_period s p e);
    }
