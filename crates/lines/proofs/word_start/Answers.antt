use Rattle.std.proofs.Common.{rules, tests, ◌∙◌, ap, drop, arith, eqb}
use Rattle.std.specs.Slice.Iter.{iter_rest}
use Rattle.std.proofs.lemmas.Iterator.{YieldsList-from_slice}
use Rattle.std.proofs.lemmas.Iterator.Consumers.{count_from_yields_List}
use Rattle.std.proofs.lemmas.Iterator.Search.{YieldsList-from_take_while}
use Rattle.std.proofs.lemmas.List.{take_rest}
use Rattle.std.proofs.lemmas.List.Folds.{length-prefix_len}
use Rattle.lines.proofs.Splitting.{spaces_are}
use Rattle.lines.proofs.word_start.Goals as goal

pub returns-clause-value : goal.returns-clause-value
returns-clause-value c =
    let rest = drop c.args.from c.args.line.now in
    omega (
      arith,
      count_from_yields_List c.take_while.result _ c.count.ensures.ran
          (YieldsList-from_take_while _ (λ x. eqb x 32)
          (YieldsList-from_slice rest (ap iter_rest c.take_while.ensures.source ∙ c.iter.ensures.rest ∙ take_rest c.args.line.now c.args.from))
          c.take_while.ensures.closure c.take_while.ensures.done λ x b q k. search (rules, tests)),
      length-prefix_len (λ x. eqb x 32) rest,
      spaces_are rest,
    )
