use Rattle.std.proofs.Common.{refl, sym, ◌∙◌, ap, arith, length-set, length-drop}
use Rattle.std.specs.Option.{ok_or}
use Rattle.std.proofs.lemmas.Result.{err_from_is_err_and}
use Rattle.lines.proofs.Reading.{number_within, read_starts, read_bad, read_further, read_goes, read_all, stored_all}
use Rattle.lines.proofs.numbers_from.Goals as goal

pub loop-i-init : goal.loop-i-init
loop-i-init c =
    (read_starts c.args.line.now c.args.from c.args.out.now c.word_start-i.result c.word_start-i.ensures.value c.word_start-i.ensures.upper_bound, refl)

pub returns-in_err-v-clause-value : goal.returns-in_err-v-clause-value
returns-in_err-v-clause-value c =
    let e = c.in_err-v.ensures in
    let p = err_from_is_err_and c.from_residual.result c.from_residual.ensures.1 in
    let word = e.value ∙ ap (λ r. ok_or r (record { word = c.loop-i.n })) e.ok_part in
    let bad = read_bad c.args.line.now c.args.from c.loop-i.out c.loop-i.n c.loop-i.i c.loop-i.invariant.0 c.loop-i-test.true (sym e.ok_part ∙ c.number_at.ensures) in
    rw (p.1, p.2) (cc (word, bad))

pub word_start-i-requires-in-loop-i : goal.word_start-i-requires-in-loop-i
word_start-i-requires-in-loop-i c = number_within c.args.line.now c.loop-i.i _ _ (sym c.in_ok-v.ensures.ok_part ∙ c.number_at.ensures) c.loop-i.invariant.0.within

pub loop-i-smaller : goal.loop-i-smaller
loop-i-smaller c =
    let further =
    read_further c.args.line.now c.args.from c.loop-i.out c.loop-i.n c.loop-i.i c.loop-i.invariant.0 c.loop-i-test.true _ _ c.word_start-i-in-loop-i.result
    (omega (arith, c.loop-i.invariant, c.requires))
    (sym c.in_ok-v.ensures.ok_part ∙ c.number_at.ensures)
    c.word_start-i-in-loop-i.ensures.value
    c.word_start-i-in-loop-i.ensures.upper_bound in
    omega (arith, further, c.loop-i-test.true)

pub loop-i-preserved : goal.loop-i-preserved
loop-i-preserved c = (
  read_goes c.args.line.now c.args.from c.loop-i.out c.loop-i.n c.loop-i.i c.loop-i.invariant.0 c.loop-i-test.true _ _ c.word_start-i-in-loop-i.result
      (omega (arith, c.loop-i.invariant, c.requires))
      (sym c.in_ok-v.ensures.ok_part ∙ c.number_at.ensures)
      c.word_start-i-in-loop-i.ensures.value
      c.word_start-i-in-loop-i.ensures.upper_bound,
  length-set c.loop-i.out c.loop-i.n _ ∙ c.loop-i.invariant.1,
)

pub returns-clause-value : goal.returns-clause-value
returns-clause-value c = read_all c.args.line.now c.args.from c.loop-i.out c.loop-i.n c.loop-i.i c.loop-i.invariant.0 c.loop-i-test.false

pub returns-clause-written : goal.returns-clause-written
returns-clause-written c = (
  omega (arith, c.loop-i.invariant.0, length-drop c.args.from c.args.line.now),
  stored_all c.args.line.now c.args.from c.loop-i.out c.loop-i.n c.loop-i.i c.loop-i.invariant.0 c.loop-i-test.false,
)
