use Rattle.std.proofs.Common.{◌∙◌, sym, arith}
use Rattle.naming.proofs.Names.{names_nothing, names}
use Rattle.naming.proofs.call_named.Goals as goal

pub returns-in_err-first : goal.returns-in_err-first
returns-in_err-first c = rw c.from_residual.ensures (names_nothing c.args.word.now (omega (arith, c.in_err-first.ensures.item.3)))

-- only the call whose name begins as the word does can be named by it
pub returns : goal.returns
returns c =
    let first = c.in_ok-first.ensures.item.4 (omega arith) 0 in
    c.then_some.ensures
    ∙ names _ _ c.beginning-call.result c.form_of.ensures.text (λ w e. c.beginning-call.ensures w (e ∙ sym first)) _ c.eq.ensures
