-- The tests say what `Lawful` and `HoldsValid` say.
-- Assumes nothing.
use mathlib.Core.Path.{◌≡◌, refl, sym, ◌∙◌, ap}
use mathlib.Core.Bool.{Bool, true, ◌&&◌}
use mathlib.Core.List.{List}
use Prim.Native.Nat.{ℕ, zero, suc, ◌+◌, ◌*◌, ◌/◌, ◌%◌, ◌≤◌, ◌<◌}
use native.Mathlib.Decide.{dec_lt}
use native.Mathlib.Omega.{arith}
use lib.Dec.{leb}
use lib.ListN.{length, get_or, get_or-eq_default}
use borrow.Author.Tests.{leb-true, le-leb, eq-eqb}
use Rattle.laws.specs.Notions.{every}
use Rattle.laws.proofs.Never.{never}
use Rattle.laws.proofs.Every.{and_left, and_right, and_both, every_at, every_all}
use Rattle.shares.specs.Shares.{whole_share}
use Rattle.refusal.specs.declared.Check.{Check}
use Rattle.refusal.specs.declared.Check.TheVariants.{Pass, Refuse}
use Rattle.benchmark.specs.declared.Benchmarks.{Benchmarks}
use Rattle.benchmark.specs.Lawful.{Lawful}
use Rattle.tariff.specs.Tariff.{record_length, tariff_of, valid_tariff, record_check}
use Rattle.book.specs.declared.State.{State}
use Rattle.book.specs.declared.State.TheVariants.{Empty, Draft, Marked, Open}
use Rattle.book.proofs.Places.{record_valid}
use Rattle.stands.specs.Stands.{HoldsValidAs}
use Rattle.image_tests.specs.Tests.{between, pair_fits, levels_fit, rest_fits, lawful_test, passes, valid_as}

-- a record of 27 numbers whose tariff is valid passes refusal 8
valid_passes : (x : List ℕ) → length x ≡ record_length → valid_tariff (tariff_of x) ≡ true → record_check x ≡ Pass
unfolding record_check
valid_passes x size e = rw (eq-eqb _ _ size, e)

-- a number between two others
inside_of : (low high x : ℕ) → between low high x ≡ true → (low ≤ x) × (x ≤ high)
inside_of low high x e = (leb-true low x (and_left _ _ e), leb-true x high (and_right (leb low x) _ e))

within : (low high x : ℕ) → low ≤ x → x ≤ high → between low high x ≡ true
within low high x h k = and_both _ _ (le-leb low x h) (le-leb x high k)

-- each charge is one of a pair
module _ (charges : List ℕ) (e : every 56 (pair_fits charges) ≡ true) where
  pair_at : (j : ℕ) → j < 56 → (get_or charges (2 * j) 0 ≤ get_or charges (2 * j + 1) 0) × (get_or charges (2 * j + 1) 0 ≤ 2400000000)
  pair_at j h = inside_of _ _ _ (every_at (pair_fits charges) 56 e j h)

  each_most : length charges ≡ 112 → (k : ℕ) → get_or charges k 0 ≤ 2400000000
  each_most size k =
      elim (dec_lt k 112) [
        | yes h ↦ go (k / 2) (k % 2) (omega arith) (omega arith) (omega arith)
        | no h ↦ (let out : get_or charges k 0 ≡ 0 = get_or-eq_default charges 0 (omega arith) in omega arith)
      ]
    where
      go : (j d : ℕ) → k ≡ 2 * j + d → d < 2 → j < 56 → get_or charges k 0 ≤ 2400000000
      go j zero q h l = let at : k ≡ 2 * j = omega arith in rw at (omega (arith, pair_at j l))
      go j (suc d) q h l = let at : k ≡ 2 * j + 1 = omega arith in rw at (pair_at j l).1

-- m of each arrangement
levels_at_lem : (levels : List ℕ) → length levels ≡ 2 → levels_fit levels ≡ true
    → ((a : ℕ) → a < 2 → 1 ≤ get_or levels a 0) × ((a : ℕ) → get_or levels a 0 ≤ 20000)
levels_at_lem levels size e =
    (some, most)
  where
    first : (1 ≤ get_or levels 0 0) × (get_or levels 0 0 ≤ 20000)
    first = inside_of _ _ _ (and_left (between 1 20000 (get_or levels 0 0)) (between 1 20000 (get_or levels 1 0)) e)

    second : (1 ≤ get_or levels 1 0) × (get_or levels 1 0 ≤ 20000)
    second = inside_of _ _ _ (and_right (between 1 20000 (get_or levels 0 0)) (between 1 20000 (get_or levels 1 0)) e)

    some : (a : ℕ) → a < 2 → 1 ≤ get_or levels a 0
    some zero h = first.0
    some (suc zero) h = second.0
    some (suc (suc a)) h = absurd (omega arith)

    most : (a : ℕ) → get_or levels a 0 ≤ 20000
    most zero = first.1
    most (suc zero) = second.1
    most (suc (suc a)) = let out : get_or levels (suc (suc a)) 0 ≡ 0 = get_or-eq_default levels 0 (omega arith) in omega arith

-- the test of figures, both ways
module _ (f : Benchmarks) where
  tested_lawful : length f.charges ≡ 112 → length f.levels ≡ 2 → lawful_test f ≡ true → Lawful f
  unfolding lawful_test
  tested_lawful charged levelled e =
      let front = and_left (every 56 (pair_fits f.charges) && levels_fit f.levels) _ e in
      let pairs = and_left (every 56 (pair_fits f.charges)) _ front in
      let levels = levels_at_lem f.levels levelled (and_right (every 56 (pair_fits f.charges)) _ front) in
      let rest = and_right (every 56 (pair_fits f.charges) && levels_fit f.levels) (rest_fits f.peak f.months f.days) e in
      let first = and_left (leb f.peak whole_share && between 1 12 f.months) (leb f.days 372) rest in
      let months = inside_of 1 12 f.months (and_right (leb f.peak whole_share) (between 1 12 f.months) first) in
      record {
        charge_count = charged;
        level_count = levelled;
        charges_most = each_most f.charges pairs charged;
        nil_at_most_m = λ j h. (pair_at f.charges pairs j h).0;
        level_some = levels.0;
        level_most_lem = levels.1;
        peak_most = leb-true _ _ (and_left (leb f.peak whole_share) (between 1 12 f.months) first);
        months_some = months.0;
        months_most_lem = months.1;
        days_most_lem = leb-true _ _ (and_right (leb f.peak whole_share && between 1 12 f.months) (leb f.days 372) rest);
      }

  lawful_tested : Lawful f → lawful_test f ≡ true
  unfolding lawful_test
  lawful_tested h =
      and_both _ _
      (and_both _ _ (every_all (pair_fits f.charges) 56 (λ j k. within _ _ _ (h.nil_at_most_m j k) (h.charges_most (2 * j + 1))))
      (and_both _ _ (within _ _ _ (h.level_some 0 (omega arith)) (h.level_most_lem 0)) (within _ _ _ (h.level_some 1 (omega arith)) (h.level_most_lem 1))))
      (and_both _ _ (and_both _ _ (le-leb _ _ h.peak_most) (within _ _ _ h.months_some h.months_most_lem)) (le-leb _ _ h.days_most_lem))

  pub told_lawful : (r : Bool) → r ≡ lawful_test f → length f.charges ≡ 112 → length f.levels ≡ 2
      → (r ≡ true → Lawful f) × (Lawful f → r ≡ true)
  told_lawful r q c l = (λ e. tested_lawful c l (sym q ∙ e), λ h. q ∙ lawful_tested h)

-- and of a place with a record of 27 numbers
passed : (t : Check) → passes t ≡ true → t ≡ Pass
passed Pass e = refl
passed (Refuse n) e = never (cc)

tested_valid : (s : State) (x : List ℕ) → valid_as s (record_check x) ≡ true → HoldsValidAs s (tariff_of x)
tested_valid Empty x e = tt
tested_valid Draft x e = record_valid x (passed _ e)
tested_valid Marked x e = record_valid x (passed _ e)
tested_valid Open x e = record_valid x (passed _ e)

valid_tested : (s : State) (x : List ℕ) → length x ≡ record_length → HoldsValidAs s (tariff_of x) → valid_as s (record_check x) ≡ true
valid_tested s x size h = go s h
  where
    go : (s : State) → HoldsValidAs s (tariff_of x) → valid_as s (record_check x) ≡ true
    go Empty h = refl
    go Draft h = ap passes (valid_passes x size h)
    go Marked h = ap passes (valid_passes x size h)
    go Open h = ap passes (valid_passes x size h)

pub told_valid : (s : State) (x : List ℕ) (r : Bool) → r ≡ valid_as s (record_check x) → length x ≡ record_length
    → (r ≡ true → HoldsValidAs s (tariff_of x)) × (HoldsValidAs s (tariff_of x) → r ≡ true)
told_valid s x r q size = (λ e. tested_valid s x (sym q ∙ e), λ h. q ∙ valid_tested s x size h)
