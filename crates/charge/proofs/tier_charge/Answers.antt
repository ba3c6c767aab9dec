-- `charge::tier_charge` meets its contract. The loop's invariant: what is summed, with the charge of the tiers that are left, is
-- the whole charge, which is at most the greatest rate for each kWh.
-- Assumes nothing.
use Rattle.std.proofs.Common.{◌≡◌, ℕ, ◌+◌, ◌-◌, ◌*◌, ◌<◌, ◌≤◌, min, length, get_or, take, drop, arith}
use Rattle.laws.proofs.Lists.{drop_take, drop_end}
use Rattle.charge.specs.declared.Tiers.{Tiers}
use Rattle.charge.specs.Charge.{month_most, tier_charge}
use Rattle.charge.specs.Tiers.{TiersFit}
use Rattle.charge.proofs.TariffTiers.{tiers_most}
use Rattle.charge.proofs.tier_charge.Goals as goal

module _ (t : Tiers) (f : TiersFit month_most t) (x : ℕ) where
  -- what the tiers from i on charge for the kWh above `from`
  abbrev left : ℕ → ℕ → ℕ
  left from i = tier_charge from (drop i (take t.n t.rates)) (drop i (take (t.n - 1) t.steps)) x

  -- one tier more
  turn : (from i : ℕ) → i < t.n - 1 → left from i ≡ get_or t.rates i 0 * (min x (get_or t.steps i 0) - from) + left (get_or t.steps i 0) (i + 1)
  unfolding tier_charge
  turn from i h =
      let n : t.n ≤ length t.rates = omega arith in
      let m : t.n - 1 ≤ length t.steps = omega arith in
      rw (drop_take t.rates t.n i (omega arith) n, drop_take t.steps (t.n - 1) i h m)

  -- and the last
  last : (from : ℕ) → left from (t.n - 1) ≡ get_or t.rates (t.n - 1) 0 * (x - from)
  unfolding tier_charge
  last from =
      let n : t.n ≤ length t.rates = omega arith in
      rw (drop_take t.rates t.n (t.n - 1) (omega arith) n, drop_end t.steps (t.n - 1) (t.n - 1) (omega arith))

pub overflow_add-sum : goal.overflow_add-sum
overflow_add-sum c =
    let e = turn c.args.t c.requires.0 c.args.used.0 c.loop-i.from c.loop-i.i c.loop-i-test.true in
    let most = tiers_most month_most c.args.t c.requires.0 c.args.used.0 in
    grind arith

pub loop-i-preserved : goal.loop-i-preserved
loop-i-preserved c =
    let e = turn c.args.t c.requires.0 c.args.used.0 c.loop-i.from c.loop-i.i c.loop-i-test.true in
    grind arith

pub overflow_add-result : goal.overflow_add-result
overflow_add-result c =
    let e = last c.args.t c.requires.0 c.args.used.0 c.loop-i.from in
    let most = tiers_most month_most c.args.t c.requires.0 c.args.used.0 in
    grind arith

pub returns : goal.returns
returns c =
    let e = last c.args.t c.requires.0 c.args.used.0 c.loop-i.from in
    let most = tiers_most month_most c.args.t c.requires.0 c.args.used.0 in
    grind arith
