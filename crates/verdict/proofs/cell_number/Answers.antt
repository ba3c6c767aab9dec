-- `verdict::cell_number` meets its contract.
-- Assumes nothing.
use Rattle.std.proofs.Common.{◌≡◌, ℕ, ◌+◌, ◌*◌, ◌<◌, arith, sym, ◌∙◌, ap, subst}
use mathlib.Core.Option.{some}
use borrow.Author.Tests.{lt-ltb}
use Rattle.benchmark.specs.declared.Benchmarks.{Benchmarks}
use Rattle.tariff.specs.declared.Tariff.{Tariff}
use Rattle.verdict.specs.declared.Found.{Found}
use Rattle.verdict.specs.declared.Found.TheVariants as found
use Rattle.verdict.specs.Cells.{cell}
use Rattle.verdict.specs.Rulings.{Finds, found_at}
use Rattle.verdict.proofs.Meaning.{cell_at_rank, first_exceeds}
use Rattle.verdict.proofs.cell_number.Goals as goal

-- a cell that is found is one of the 28
small : {f : Found} {r m : ℕ} → f ≡ found.Over r m → (b : Benchmarks) × (x : Tariff) × Finds b x f → (r < 14) × (m < 2)
small {r = r} {m = m} e h =
    let o = (first_exceeds h.0 h.1 (cell r m) (subst (Finds h.0 h.1) e h.2)).0 in
    (o.0, o.1)

found_at_lem : (r m : ℕ) → r < 14 → m < 2 → some (cell r m) ≡ found_at (2 * r + m)
found_at_lem r m hr hm = rw (lt-ltb (2 * r + m) 28 (omega arith)) (ap some (sym (cell_at_rank (cell r m) hm)))

pub overflow_mul-result : goal.overflow_mul-result
overflow_mul-result c = omega (arith, small c.in-Over.is c.requires)

pub overflow_add-result : goal.overflow_add-result
overflow_add-result c = omega (arith, small c.in-Over.is c.requires)

pub returns-in-Over : goal.returns-in-Over
returns-in-Over c = λ b x h.
    let s = small c.in-Over.is c.requires in
    subst (Finds b x) c.in-Over.is h ∙ found_at_lem c.in-Over.region c.in-Over.method s.0 s.1
