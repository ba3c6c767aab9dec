-- One word written.
-- Assumes nothing.
use mathlib.Core.List.{List}
use Prim.Native.Nat.{ℕ, ◌<◌}
use native.Mathlib.Omega.{arith}
use lib.ListN.{length, set}
use Rattle.std.proofs.lemmas.Grind.{common_steps}
use Rattle.image.specs.Changing.{Written}

pub written_one : (l : List ℕ) (at v : ℕ) → at < length l → Written l (set l at v) at 1 (λ j. v)
written_one l at v h =
    record {
      size = grind (arith, common_steps);
      outside = λ j o. grind (arith, common_steps);
      inside = λ j k. grind (arith, common_steps);
    }
