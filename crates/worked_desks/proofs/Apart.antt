-- The example of two books holds: both SETs are accepted, no place is filled, and the sheets differ in field 41 alone.
-- Assumes nothing.
use mathlib.Core.Path.{◌≡◌, refl, sym, ap, subst₂}
use mathlib.Core.List.{[], ◌∷◌}
use mathlib.Core.Option.{some}
use Prim.Native.Nat.{ℕ}
use native.Mathlib.Decide.{ℕ_discrete}
use native.Mathlib.Omega.{arith}
use lib.Seq.{get_or-set_other}
use Rattle.laws.specs.Notions.{every, tabulate, tabulate_from, bit}
use Rattle.refusal.specs.declared.Check.TheVariants.{Pass}
use Rattle.refusal.specs.Checks.{checked}
use Rattle.calendar.specs.Calendar.{period_in_range}
use Rattle.sheet.specs.Sheet.{field, signed, value_of, range_of, field_in_range, fields_in_range, round, round_signed, indexed, four_fit, paac_fits, terms_fit}
use Rattle.benchmark.specs.Benchmark.{benchmark, wc, pc, oc, nc, paenc, headroom, panc, figure, figures, ocs_fit, ordered, set_check}
use Rattle.desks.specs.Desks.{in_desk}
use Rattle.book.specs.Calls.{Sheet, SET, call, accepted, refused}
use Rattle.book.specs.Book.{fresh, changed, book_after, Reachable}
use Rattle.book.proofs.Steps.{made}
use Rattle.queries.specs.Queries.{benchmark_of}
use Rattle.reference.specs.SheetS.{times, sheet_s}
use Rattle.reference.proofs.Table.{starred}
use Rattle.alike.specs.Alike.{NetworkOutside}
use Rattle.worked.specs.Worked.{quarter, book_of}
use Rattle.worked_desks.specs.Apart.{cheaper, one, other, Apart}

cheaper_accepted : set_check cheaper.fields cheaper.period ≡ Pass
unfolding set_check fields_in_range field_in_range value_of signed range_of every terms_fit four_fit paac_fits ocs_fit ordered period_in_range figures figure tabulate tabulate_from benchmark wc pc oc nc paenc headroom panc indexed round round_signed sheet_s times
cheaper_accepted = refl

-- the book that a first SET leaves
module _ (s : Sheet) (passes : set_check s.fields s.period ≡ Pass) where
  after_set : book_of (SET s ∷ []) ≡ changed fresh (SET s)
  unfolding book_after
  after_set = made fresh (call (SET s)) accepted (ap (λ c. checked refused c accepted) passes) refl

  set_reachable : Reachable (changed fresh (SET s))
  set_reachable = record { calls = call (SET s) ∷ []; left = sym after_set }

fields_alike : (k : ℕ) → (NetworkOutside 1 k → ⊥) → field quarter.fields k ≡ field cheaper.fields k
unfolding in_desk bit
fields_alike k n = go (ℕ_discrete k 41)
  where
    go : Dec (k ≡ 41) → field quarter.fields k ≡ field cheaper.fields k
    go (yes e) = absurd (n (1, 0, omega arith, omega arith, e, refl))
    go (no e) = sym (get_or-set_other sheet_s 41 k 1000000 0 e)

sheets_differ : some quarter ≡ some cheaper → ⊥
unfolding sheet_s times
sheets_differ e = let q : quarter ≡ cheaper = cc in omega (arith, ap (λ (s : Sheet). field s.fields 41) q)

computed : Apart (changed fresh (SET quarter)) (changed fresh (SET cheaper))
unfolding benchmark_of benchmark wc pc oc nc paenc headroom panc value_of signed indexed round round_signed sheet_s times in_desk bit
computed =
    record {
      reachable = (set_reachable quarter starred.accepted, set_reachable cheaper cheaper_accepted);
      alike = record { places = refl; sheets = record { period = refl; fields = fields_alike } };
      sheets_differ = sheets_differ;
      not_told = (refl, refl);
      told_apart = (refl, refl);
    }

pub apart : Apart one other
apart = subst₂ Apart (sym (after_set quarter starred.accepted)) (sym (after_set cheaper cheaper_accepted)) computed
