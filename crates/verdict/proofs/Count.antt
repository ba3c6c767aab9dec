-- The ones of the region set times the ones of the method set are the number of offered cells among the walk's 28.
-- Assumes nothing.
use mathlib.Core.Path.{◌≡◌, refl, sym, ◌∙◌, ap, ap₂}
use mathlib.Core.Bool.{Bool, true, false, cond, ◌&&◌}
use Prim.Native.Nat.{ℕ, zero, suc, ◌+◌, ◌*◌, ◌/◌, ◌%◌, ◌^◌, ◌<◌}
use native.Mathlib.Nat.{pow-suc, div-div-eq-div-mul, div-lt_iff_lt-mul, div-one}
use native.Mathlib.Omega.{arith}
use lib.Count.{ones, ones_in, ones_step}
use lib.Dec.{eqb, lit<}
use borrow.Author.Tests.{eqb-true, eqb-false}
use Rattle.laws.specs.Notions.{sum, tabulate, tabulate_from, count, bit}
use Rattle.tariff.specs.declared.Tariff.{Tariff}
use Rattle.verdict.specs.Cells.{cell, offered, cell_at, cell_count}
use Rattle.verdict.proofs.Meaning.{cell_at_rank}

abbrev one : Bool → ℕ
one t = cond t 1 0

-- a digit is 1 where its bit is there
digit : (set i : ℕ) → one (bit set i) ≡ set / 2 ^ i % 2
unfolding bit
digit set i = go (eqb (set / 2 ^ i % 2) 1) refl
  where
    go : (t : Bool) → eqb (set / 2 ^ i % 2) 1 ≡ t → one t ≡ set / 2 ^ i % 2
    go true e = sym (eqb-true (set / 2 ^ i % 2) 1 e)
    go false e = let h = eqb-false (set / 2 ^ i % 2) 1 e in omega arith

half : (set i : ℕ) → set / 2 ^ i / 2 ≡ set / 2 ^ suc i
half set i = div-div-eq-div-mul set (2 ^ i) 2 ∙ rw pow-suc refl

no_ones : ones 0 ≡ 0
unfolding ones ones_in
no_ones = refl

-- the ones of a set are the sum of its digits
ones_from : (n set i : ℕ) → set / 2 ^ i < 2 ^ n → sum (tabulate_from i n (λ j. one (bit set j))) ≡ ones (set / 2 ^ i)
unfolding tabulate_from sum
ones_from zero set i h = let z : set / 2 ^ i ≡ 0 = omega arith in sym (rw z no_ones)
ones_from (suc n) set i h =
    let l : set / 2 ^ i / 2 < 2 ^ n = (div-lt_iff_lt-mul (lit< tt)).1 (rw pow-suc at h) in
    let r : sum (tabulate_from (suc i) n (λ j. one (bit set j))) ≡ ones (set / 2 ^ suc i) = ones_from n set (suc i) (rw (half set i) at l) in
    sym (ones_step (set / 2 ^ i) ∙ rw (half set i, ← r, ← digit set i) refl)

pub ones_counted : (n set : ℕ) → set < 2 ^ n → count n (bit set) ≡ ones set
unfolding count tabulate
ones_counted n set h = rw div-one at (ones_from n set 0 (rw div-one h))

-- the cells of a region
both_one : (a b : Bool) → one (a && b) ≡ one a * one b
both_one true b = omega arith
both_one false b = omega arith

module _ (x : Tariff) where
  here : ℕ → ℕ
  here n = one (offered x (cell_at n))

  -- cell 2 × r + m of the walk is that of region r and method m
  in_region_lem : (n r m : ℕ) → m < 2 → n ≡ 2 * r + m → here n ≡ one (bit x.regions r) * one (bit x.methods m)
  unfolding here offered
  in_region_lem n r m h e =
      ap here e
      ∙ ap (λ c. one (offered x c)) (cell_at_rank (cell r m) h)
      ∙ both_one (bit x.regions r) (bit x.methods m)

  regions_from : (n r : ℕ) → sum (tabulate_from (2 * r) (2 * n) here)
      ≡ sum (tabulate_from r n (λ j. one (bit x.regions j))) * (one (bit x.methods 0) + one (bit x.methods 1))
  unfolding tabulate_from sum
  regions_from zero r = omega arith
  regions_from (suc n) r =
      let e : 2 * suc n ≡ suc (suc (2 * n)) = omega arith in
      let f : suc (suc (2 * r)) ≡ 2 * suc r = omega arith in
      let first = in_region_lem (2 * r) r 0 (omega arith) (omega arith) in
      let second = in_region_lem (suc (2 * r)) r 1 (omega arith) (omega arith) in
      rw (e, f) (omega (arith, first, second, regions_from n (suc r)))

  pub cells_counted : x.regions < 16384 → x.methods < 4 → count 28 (λ n. offered x (cell_at n)) ≡ cell_count x
  unfolding count tabulate tabulate_from sum cell_count here
  cells_counted h k =
      let m : one (bit x.methods 0) + (one (bit x.methods 1) + 0) ≡ ones x.methods = ones_counted 2 x.methods k in
      let r : sum (tabulate_from 0 14 (λ j. one (bit x.regions j))) ≡ ones x.regions = ones_counted 14 x.regions h in
      regions_from 14 0 ∙ ap₂ ◌*◌ r (let q : one (bit x.methods 0) + one (bit x.methods 1) ≡ ones x.methods = omega arith in q)
