-- `trial::fallen` meets its contract. The invariant: the set of the places passed, and the bit of the next.
-- Assumes nothing.
use mathlib.Core.Path.{◌≡◌, refl, ◌∙◌, ap, ap₂}
use mathlib.Core.Bool.{Bool, cond}
use Prim.Native.Nat.{ℕ, suc, ◌+◌, ◌*◌, ◌^◌, ◌≤◌, ◌<◌}
use native.Mathlib.Nat.{pow-suc}
use native.Mathlib.Numerals.{add-one}
use native.Mathlib.Omega.{arith}
use lib.Pow.{pow_mono}
use Rattle.laws.specs.Notions.{set_of}
use Rattle.laws.proofs.Sets.{set_below, set_more}
use Rattle.trial.specs.Places.{fell_from}
use Rattle.trial.proofs.fallen.Goals as goal

-- what a turn adds makes the set of one place more
more : (test : ℕ → Bool) (i bit codes added : ℕ) → bit ≡ 2 ^ i → codes ≡ set_of i test → added ≡ cond (test i) bit 0 → codes + added ≡ set_of (i + 1) test
more test i bit codes added b s a = ap₂ ◌+◌ s (a ∙ ap (λ n. cond (test i) n 0) b) ∙ set_more test i

doubled : (i bit : ℕ) → bit ≡ 2 ^ i → bit * 2 ≡ 2 ^ (i + 1)
doubled i bit b = rw (add-one, pow-suc, b) refl

-- both fit: they are at most 2 ^ 32
fits : (i : ℕ) → i < 32 → 2 ^ (i + 1) ≤ 4294967296
fits i h = pow_mono {j = 32} (omega arith)

-- all places are passed
all : (test : ℕ → Bool) (i codes : ℕ) → i ≡ 32 → codes ≡ set_of i test → codes ≡ set_of 32 test
all test i codes e s = s ∙ ap (λ n. set_of n test) e

pub loop-i-init : goal.loop-i-init
unfolding set_of
loop-i-init c = (omega arith, refl, refl)

pub overflow_add-codes : goal.overflow_add-codes
overflow_add-codes c =
    let lp = c.loop-i in
    let test = λ (j : ℕ). fell_from c.args.before c.args.after (suc j) in
    omega (
      arith,
      more test lp.i lp.bit lp.codes c.bit_if_fell-codes.result lp.invariant.1 lp.invariant.2 c.bit_if_fell-codes.ensures,
      set_below (lp.i + 1) test,
      fits lp.i c.loop-i-test.true,
    )

pub overflow_mul-bit : goal.overflow_mul-bit
overflow_mul-bit c =
    let lp = c.loop-i in
    omega (arith, doubled lp.i lp.bit lp.invariant.1, fits lp.i c.loop-i-test.true)

pub loop-i-preserved : goal.loop-i-preserved
loop-i-preserved c =
    let lp = c.loop-i in
    let test = λ (j : ℕ). fell_from c.args.before c.args.after (suc j) in (
      omega (arith, c.loop-i-test.true),
      doubled lp.i lp.bit lp.invariant.1,
      more test lp.i lp.bit lp.codes c.bit_if_fell-codes.result lp.invariant.1 lp.invariant.2 c.bit_if_fell-codes.ensures,
    )

pub overflow_cast-result : goal.overflow_cast-result
overflow_cast-result c =
    let lp = c.loop-i in
    let test = λ (j : ℕ). fell_from c.args.before c.args.after (suc j) in
    omega (arith, all test lp.i lp.codes (omega (arith, c.loop-i-test.false, lp.invariant.0)) lp.invariant.2, set_below 32 test)

pub returns : goal.returns
returns c =
    let lp = c.loop-i in
    all (λ (j : ℕ). fell_from c.args.before c.args.after (suc j)) lp.i lp.codes (omega (arith, c.loop-i-test.false, lp.invariant.0)) lp.invariant.2
