-- Document 02, M-101: "everything that has no region in it": WC, PC, OC, PAENC and H, from fields 0 to 36 alone. Each benchmark is its sum,
-- NC and PANC (proofs/Commons.antt, `benchmark_is_sum`).
-- Assumes nothing.
use Rattle.std.specs.Prelude.{List, ℕ, ◌+◌, ◌*◌, ◌/◌, ◌%◌, ℤ, nat_abs, ◌+ℤ◌}
use Rattle.laws.specs.Notions.{tabulate}
use Rattle.benchmark.specs.Benchmark.{four, wc, pc, oc, paenc, headroom}

-- WC + PC + OC at place f of the four: an arrangement and a level are in it, no method
unfoldable pub costs_at : List ℕ → ℕ → ℤ
costs_at s f = wc s f +ℤ pc s f +ℤ oc s f

-- the sum of the five for an arrangement and a method, where costs is WC + PC + OC
unfoldable pub sum_from : List ℕ → ℕ → ℕ → ℤ → ℤ
sum_from s a p costs =
    let e = paenc s p costs in
    costs +ℤ e +ℤ headroom s a (costs +ℤ e)

-- the sum of an arrangement, a method and a level
unfoldable pub common : List ℕ → ℕ → ℕ → ℕ → ℤ
common s a p l = sum_from s a p (costs_at s (four a l))

-- "the eight sums" in one list, by arrangement, method and level: the index of a sum, and the sum of an index, kept as the figures are
abbrev pub sum_index : ℕ → ℕ → ℕ → ℕ
sum_index a p l = 4 * a + 2 * p + l

unfoldable pub common_at : List ℕ → ℕ → ℕ
common_at s j = nat_abs (common s (j / 4) (j / 2 % 2) (j % 2))

unfoldable pub commons : List ℕ → List ℕ
commons s = tabulate 8 (common_at s)
