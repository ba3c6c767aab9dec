-- `figures::work_out` meets its contract: each check that refuses is the first that applies, and what is left is what the sheet and
-- its period come to.
-- Assumes nothing.
use mathlib.Core.Path.{◌≡◌, refl, sym, ◌∙◌, ap}
use mathlib.Core.Bool.{Bool, true}
use mathlib.Core.List.{List}
use Prim.Native.Nat.{ℕ}
use lib.Dec.{eqb}
use lib.ListN.{length}
use borrow.Author.Tests.{eqb-true}
use Rattle.refusal.specs.declared.Check.{Check}
use Rattle.refusal.specs.declared.Check.TheVariants.{Pass}
use Rattle.refusal.specs.Checks.{unless}
use Rattle.sheet.specs.Sheet.{field_count, fields_in_range}
use Rattle.sheet.specs.Ranged.{Ranged}
use Rattle.sheet.proofs.Bounds.{all_ranged}
use Rattle.sheet.proofs.CommonFields.{common_indexed}
use Rattle.benchmark.specs.Benchmark.{figures, ordered, benchmarks_of}
use Rattle.benchmark.proofs.Signs.{common_costed}
use Rattle.refusal.proofs.Checks.{unless_passes}
use Rattle.figures.proofs.Checks.{first_refuses, second_refuses, third_refuses, fourth_refuses, fourteenth_refuses, fifth_answers, answers_refusal, answers_pass}
use Rattle.figures.proofs.work_out.Goals as goal

-- what an answer that passed has shown
passed : (t : Bool) (n : ℕ) (check : Check) → check ≡ unless t n Pass → check ≡ Pass → t ≡ true
passed t n check answer told = (unless_passes t n Pass (sym answer ∙ told)).0

module _ (s : List ℕ) (count : Check) (answer : count ≡ unless (eqb (length s) field_count) 1 Pass) (told : count ≡ Pass) where
  counted : length s ≡ field_count
  counted = eqb-true (length s) field_count (passed _ _ count answer told)

  ranged : (fields : Check) → fields ≡ unless (fields_in_range s) 2 Pass → fields ≡ Pass → Ranged field_count s
  ranged fields a t = all_ranged s counted (passed _ _ fields a t)

-- the last answer is of the sheet's own figures
order_is : (s charges : List ℕ) (order : Check) → charges ≡ figures s → order ≡ unless (ordered charges) 5 Pass → order ≡ unless (ordered (figures s)) 5 Pass
order_is s charges order made answer = answer ∙ ap (λ c. unless (ordered c) 5 Pass) made

pub returns-in_default : goal.returns-in_default
returns-in_default c =
    let told = c.in_default.is in
    answers_refusal _ _ _ _ _ told c.refused.ensures (first_refuses _ _ _ (sym c.count_check-counted.ensures ∙ told))

pub returns-in_default-fields : goal.returns-in_default-fields
returns-in_default-fields c =
    let told = c.in_default-fields.is in
    let one = counted _ _ c.count_check-counted.ensures c.in-Pass.is in
    answers_refusal _ _ _ _ _ told c.refused-in_default-fields.ensures
    (second_refuses _ _ _ one (sym c.fields_check-fields.ensures ∙ told))

pub terms_check-terms-requires : goal.terms_check-terms-requires
terms_check-terms-requires c =
    ranged _ _ c.count_check-counted.ensures c.in-Pass.is _ c.fields_check-fields.ensures c.in-Pass-fields.is

pub returns-in_default-period : goal.returns-in_default-period
returns-in_default-period c =
    let told = c.in_default-period.is in
    let one = counted _ _ c.count_check-counted.ensures c.in-Pass.is in
    let two = passed _ _ _ c.fields_check-fields.ensures c.in-Pass-fields.is in
    answers_refusal _ _ _ _ _ told c.refused-in_default-period.ensures
    (third_refuses _ _ _ one two (sym c.period_check-period.ensures ∙ told))

pub returns-in_default-terms : goal.returns-in_default-terms
returns-in_default-terms c =
    let told = c.in_default-terms.is in
    let one = counted _ _ c.count_check-counted.ensures c.in-Pass.is in
    let two = passed _ _ _ c.fields_check-fields.ensures c.in-Pass-fields.is in
    let three = passed _ _ _ c.period_check-period.ensures c.in-Pass-period.is in
    answers_refusal _ _ _ _ _ told c.refused-in_default-terms.ensures
    (fourth_refuses _ _ _ one two three (sym c.terms_check-terms.ensures ∙ told))

pub ocs_check-ocs-requires : goal.ocs_check-ocs-requires
ocs_check-ocs-requires c =
    let h = ranged _ _ c.count_check-counted.ensures c.in-Pass.is _ c.fields_check-fields.ensures c.in-Pass-fields.is in
    (h, common_indexed _ h (passed _ _ _ c.terms_check-terms.ensures c.in-Pass-terms.is))

pub returns-in_default-ocs : goal.returns-in_default-ocs
returns-in_default-ocs c =
    let told = c.in_default-ocs.is in
    let one = counted _ _ c.count_check-counted.ensures c.in-Pass.is in
    let two = passed _ _ _ c.fields_check-fields.ensures c.in-Pass-fields.is in
    let three = passed _ _ _ c.period_check-period.ensures c.in-Pass-period.is in
    let four = passed _ _ _ c.terms_check-terms.ensures c.in-Pass-terms.is in
    answers_refusal _ _ _ _ _ told c.refused-in_default-ocs.ensures
    (fourteenth_refuses _ _ _ one two three four (sym c.ocs_check-ocs.ensures ∙ told))

pub figures_of-charges-requires : goal.figures_of-charges-requires
figures_of-charges-requires c =
    let h = ranged _ _ c.count_check-counted.ensures c.in-Pass.is _ c.fields_check-fields.ensures c.in-Pass-fields.is in
    let four = passed _ _ _ c.terms_check-terms.ensures c.in-Pass-terms.is in
    (h, common_costed _ h four (passed _ _ _ c.ocs_check-ocs.ensures c.in-Pass-ocs.is))

pub returns-in_default-order : goal.returns-in_default-order
returns-in_default-order c =
    let told = c.in_default-order.is in
    let one = counted _ _ c.count_check-counted.ensures c.in-Pass.is in
    let two = passed _ _ _ c.fields_check-fields.ensures c.in-Pass-fields.is in
    let three = passed _ _ _ c.period_check-period.ensures c.in-Pass-period.is in
    let four = passed _ _ _ c.terms_check-terms.ensures c.in-Pass-terms.is in
    let fourteen = passed _ _ _ c.ocs_check-ocs.ensures c.in-Pass-ocs.is in
    let five = order_is _ _ _ c.figures_of-charges.ensures c.order_check-order.ensures in
    answers_refusal _ _ _ _ _ told c.refused-in_default-order.ensures
    (fifth_answers _ _ one two three four fourteen ∙ sym five ∙ told)

pub returns : goal.returns
unfolding benchmarks_of
returns c =
    let one = counted _ _ c.count_check-counted.ensures c.in-Pass.is in
    let two = passed _ _ _ c.fields_check-fields.ensures c.in-Pass-fields.is in
    let three = passed _ _ _ c.period_check-period.ensures c.in-Pass-period.is in
    let four = passed _ _ _ c.terms_check-terms.ensures c.in-Pass-terms.is in
    let fourteen = passed _ _ _ c.ocs_check-ocs.ensures c.in-Pass-ocs.is in
    let five = order_is _ _ _ c.figures_of-charges.ensures c.order_check-order.ensures in
    answers_pass _ _ _ refl (rw (c.figures_of-charges.ensures, c.days.ensures.0))
    (fifth_answers _ _ one two three four fourteen ∙ sym five ∙ c.in-Pass-order.is)
