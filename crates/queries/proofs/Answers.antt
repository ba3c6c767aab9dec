-- The answers of BENCHMARK and MAXIMUM by the checks that the code makes.
-- Assumes nothing.
use mathlib.Core.Path.{◌≡◌, refl, sym, ◌∙◌, ap}
use mathlib.Core.Bool.{Bool, true, false, ◌&&◌}
use Prim.Native.Nat.{ℕ}
use lib.Dec.{leb, ltb}
use Rattle.refusal.specs.declared.Check.{Check}
use Rattle.refusal.specs.declared.Check.TheVariants.{Pass, Refuse}
use Rattle.refusal.specs.Checks.{unless, first, checked, need, given}
use Rattle.benchmark.specs.Benchmark.{benchmark}
use Rattle.desks.specs.Desks.{may_query}
use Rattle.book.specs.declared.Book.{Book}
use Rattle.book.specs.Calls.{Sheet}
use Rattle.book.specs.Book.{sheet_if, sheet_in}
use Rattle.queries.specs.declared.Told.{Told}
use Rattle.queries.specs.Queries.{Telling, refused, benchmark_charge, maximum_charge, telling_of, in_ranges, benchmark_of, maximum_of, maximum_in}
use Rattle.queries.specs.Reading.{refusal_told}

-- a check that refuses, handed on
pub hands_on : (check k : Check) (n : ℕ) (r : Told) (next told : Telling) → told ≡ checked refused check next → k ≡ check → k ≡ Refuse n → r ≡ refusal_told k
    → telling_of r ≡ told
hands_on check k n r next told e f g h =
    ap telling_of (h ∙ ap refusal_told g) ∙ sym (e ∙ ap (λ c. checked refused c next) (sym f ∙ g))

-- checks that pass
pub passed_on : (check k : Check) (next told : Telling) → told ≡ checked refused check next → k ≡ check → k ≡ Pass → next ≡ told
passed_on check k next told e f g = sym (e ∙ ap (λ c. checked refused c next) (sym f ∙ g))

-- 13, 17 and then 10
asked_table : (t m l : Bool) (s : Sheet) (told : Sheet → Telling)
    → need refused t 13 (need refused m 17 (given refused (sheet_if l s) 10 told)) ≡ checked refused (first (first (unless t 13 Pass) (unless m 17 Pass)) (unless l 10 Pass)) (told s)
asked_table false m l s told = refl
asked_table true false l s told = refl
asked_table true true false s told = refl
asked_table true true true s told = refl

module _ (b : Book) (desk r a p n : ℕ) where
  pub benchmark_answer : benchmark_of b desk r a p n
      ≡ checked refused (first (first (unless (in_ranges r a p && ltb n 2) 13 Pass) (unless (may_query desk r) 17 Pass)) (unless b.loaded 10 Pass)) (benchmark_charge (benchmark b.fields r a p n))
  unfolding benchmark_of
  benchmark_answer = asked_table (in_ranges r a p && ltb n 2) (may_query desk r) b.loaded (sheet_in b) (λ s. benchmark_charge (benchmark s.fields r a p n))

  pub maximum_answer : maximum_of b desk r a p n
      ≡ checked refused (first (first (unless (in_ranges r a p && leb n 120000) 13 Pass) (unless (may_query desk r) 17 Pass)) (unless b.loaded 10 Pass)) (maximum_charge (maximum_in (sheet_in b) r a p n))
  unfolding maximum_of
  maximum_answer = asked_table (in_ranges r a p && leb n 120000) (may_query desk r) b.loaded (sheet_in b) (λ s. maximum_charge (maximum_in s r a p n))
