-- Arguments that pass refusal 13.
-- Assumes nothing.
use mathlib.Core.Path.{◌≡◌}
use mathlib.Core.Bool.{Bool, true, ◌&&◌}
use Prim.Native.Nat.{ℕ, ◌<◌, ◌≤◌}
use lib.Dec.{leb, ltb}
use borrow.Author.Tests.{ltb-true, leb-true}
use Rattle.laws.proofs.Every.{and_left, and_right}
use Rattle.queries.specs.Queries.{in_ranges}

-- those of BENCHMARK and MAXIMUM
pub record Within (r a p : ℕ) (last : Bool) : Type 0 where
  pub region : r < 14
  pub arrangement : a < 2
  pub method : p < 2
  pub fourth : last ≡ true

pub within : (r a p : ℕ) (last : Bool) → (in_ranges r a p && last) ≡ true → Within r a p last
within r a p last e =
    let all = and_left (in_ranges r a p) last e in
    let both = and_left (ltb r 14 && ltb a 2) (ltb p 2) all in
    record {
      region = ltb-true r 14 (and_left (ltb r 14) (ltb a 2) both);
      arrangement = ltb-true a 2 (and_right (ltb r 14) (ltb a 2) both);
      method = ltb-true p 2 (and_right (ltb r 14 && ltb a 2) (ltb p 2) all);
      fourth = and_right (in_ranges r a p) last e;
    }

pub total_in_range : (r a p n : ℕ) → (in_ranges r a p && leb n 120000) ≡ true → n ≤ 120000
total_in_range r a p n e = leb-true n 120000 (within r a p (leb n 120000) e).fourth
