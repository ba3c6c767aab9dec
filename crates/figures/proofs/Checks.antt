-- SET's answer, from the answers of its checks: one law for each refusal, and one where all pass.
-- Assumes nothing.
use mathlib.Core.Path.{◌≡◌, ◌∙◌}
use mathlib.Core.Bool.{true}
use mathlib.Core.List.{List}
use Prim.Native.Nat.{ℕ}
use lib.Dec.{eqb}
use lib.ListN.{length}
use borrow.Author.Tests.{eq-eqb}
use Rattle.refusal.specs.declared.Check.{Check}
use Rattle.refusal.specs.declared.Check.TheVariants.{Pass, Refuse}
use Rattle.refusal.specs.Checks.{unless}
use Rattle.refusal.proofs.Checks.{unless_refuses}
use Rattle.calendar.specs.declared.Period.{Period}
use Rattle.calendar.specs.Calendar.{period_in_range}
use Rattle.sheet.specs.Sheet.{field_count, fields_in_range, terms_fit}
use Rattle.figures.specs.declared.Worked.{Worked}
use Rattle.benchmark.specs.Benchmark.{figures, ocs_fit, ordered, benchmarks_of, set_check, no_benchmarks}
use Rattle.figures.specs.Working.{worked_if}

module _ (s : List ℕ) (p : Period) (n : ℕ) where
  pub first_refuses : unless (eqb (length s) field_count) 1 Pass ≡ Refuse n → set_check s p ≡ Refuse n
  unfolding set_check
  first_refuses e = unless_refuses (eqb (length s) field_count) 1 n _ e

  pub second_refuses : length s ≡ field_count → unless (fields_in_range s) 2 Pass ≡ Refuse n → set_check s p ≡ Refuse n
  unfolding set_check
  second_refuses h e = rw (eq-eqb (length s) field_count h) (unless_refuses (fields_in_range s) 2 n _ e)

  pub third_refuses : length s ≡ field_count → fields_in_range s ≡ true → unless (period_in_range p) 3 Pass ≡ Refuse n → set_check s p ≡ Refuse n
  unfolding set_check
  third_refuses h r e = rw (eq-eqb (length s) field_count h, r) (unless_refuses (period_in_range p) 3 n _ e)

  pub fourth_refuses :
      length s ≡ field_count → fields_in_range s ≡ true → period_in_range p ≡ true → unless (terms_fit s) 4 Pass ≡ Refuse n → set_check s p ≡ Refuse n
  unfolding set_check
  fourth_refuses h r q e = rw (eq-eqb (length s) field_count h, r, q) (unless_refuses (terms_fit s) 4 n _ e)

  pub fourteenth_refuses :
      length s ≡ field_count → fields_in_range s ≡ true → period_in_range p ≡ true → terms_fit s ≡ true → unless (ocs_fit s) 14 Pass ≡ Refuse n → set_check s p ≡ Refuse n
  unfolding set_check
  fourteenth_refuses h r q f e = rw (eq-eqb (length s) field_count h, r, q, f) (unless_refuses (ocs_fit s) 14 n _ e)

module _ (s : List ℕ) (p : Period) where
  -- where the others pass, the fifth is the answer
  pub fifth_answers :
      length s ≡ field_count → fields_in_range s ≡ true → period_in_range p ≡ true → terms_fit s ≡ true → ocs_fit s ≡ true
      → set_check s p ≡ unless (ordered (figures s)) 5 Pass
  unfolding set_check
  fifth_answers h r q f o = rw (eq-eqb (length s) field_count h, r, q, f, o)

  -- what `work_out` promises, where SET refuses and where it passes
  abbrev pub Answered : Worked → Type 0
  Answered w = (w.check ≡ set_check s p) × (w.benchmarks ≡ worked_if (set_check s p) (benchmarks_of s p))

  pub answers_refusal :
      (w : Worked) (check : Check) (n : ℕ) → check ≡ Refuse n → (w.check ≡ check) × (w.benchmarks ≡ no_benchmarks) → set_check s p ≡ Refuse n
      → Answered w
  answers_refusal w check n told h e = rw e (h.0 ∙ told, h.1)

  pub answers_pass : (w : Worked) → w.check ≡ Pass → w.benchmarks ≡ benchmarks_of s p → set_check s p ≡ Pass → Answered w
  answers_pass w a b e = rw e (a, b)
