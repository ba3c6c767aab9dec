-- `charge::tier_charge` meets its contract. The loop's invariant: what is summed, with the charge of the tiers that are left, is
-- the whole charge, which is at most the greatest rate for each kWh.
-- Assumes nothing.
use mathlib.Core.Path.{◌≡◌}
use Prim.Native.Nat.{◌+◌, ◌-◌}
use lib.ListN.{take, drop}
use Rattle.charge.specs.Charge.{tier_charge}
use Rattle.charge.specs.Tiers.{by_tiers}
use Rattle.charge.proofs.tier_charge.Given as goal

abbrev pub invariant-loop-i : goal.invariant-loop-i
invariant-loop-i l = l.sum + tier_charge l.from (drop l.i (take l.t.n l.t.rates)) (drop l.i (take (l.t.n - 1) l.t.steps)) l.x ≡ by_tiers l.t l.x
