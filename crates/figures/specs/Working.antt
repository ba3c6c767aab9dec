-- What `work_out` hands on beside SET's answer: the figures where every check passes, and nothing beside a refusal.
-- Assumes nothing.
use Rattle.refusal.specs.declared.Check.{Check}
use Rattle.refusal.specs.declared.Check.TheVariants.{Pass, Refuse}
use Rattle.benchmark.specs.declared.Benchmarks.{Benchmarks}
use Rattle.benchmark.specs.Benchmark.{no_benchmarks}

abbrev pub worked_if : Check → Benchmarks → Benchmarks
worked_if Pass b = b
worked_if (Refuse n) b = no_benchmarks
