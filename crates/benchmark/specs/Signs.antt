-- Document 02, M-102: what refusal 14 keeps from below zero. No negative number is rounded.
-- Assumes nothing.
use Rattle.std.specs.Prelude.{◌≡◌, true, List, ℕ, pos, ◌+ℤ◌, ◌*ℤ◌, ◌≤ℤ◌}
use Rattle.sheet.specs.Ranged.{Indexed}
use Rattle.benchmark.specs.Benchmark.{four, hap, pap, nc, oc, paenc, benchmark, ocs_fit}
use Rattle.benchmark.specs.Common.{costs_at}

-- what the code that works out the sums asks of the common fields: refusals 2, 4 and 14 let them pass
pub record Costed (part : List ℕ) : Type 0 where
  pub indexed : Indexed part
  pub ocs : ocs_fit part ≡ true

-- a benchmark, its OC, and what its three Rounds are of: PAENC's, H's and PANC's
pub record NoneBelowZero (s : List ℕ) (r a p l : ℕ) : Type 0 where
  pub oc_least : pos 0 ≤ℤ oc s (four a l)
  pub paenc_rounds : pos 0 ≤ℤ (pap s p *ℤ costs_at s (four a l))
  pub headroom_rounds : pos 0 ≤ℤ (hap s a *ℤ (costs_at s (four a l) +ℤ paenc s p (costs_at s (four a l))))
  pub panc_rounds : pos 0 ≤ℤ (pap s p *ℤ nc s r (four a l))
  pub benchmark_least : pos 0 ≤ℤ benchmark s r a p l
