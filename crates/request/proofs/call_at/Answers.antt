use Rattle.std.proofs.Common.{sym, ◌∙◌, ap, length-drop, arith}
use Rattle.request.specs.Requests.{call_in}
use Rattle.request.proofs.Requests.{word_at, no_words, call_unknown, call_bad, call_asks, call_wrong, ready}
use Rattle.request.proofs.call_at.Goals as goal

pub returns-then-start-line-clause-value : goal.returns-then-start-line-clause-value
returns-then-start-line-clause-value c =
    ap (call_in c.args.desk c.args.skipped) (sym (no_words c.args.line.now _ _ c.word_start-start.ensures.value c.if-start-line.true))

pub returns-in_default-clause-value : goal.returns-in_default-clause-value
returns-in_default-clause-value c =
    let s = c.word_start-start.ensures in
    call_unknown (word_at s.value s.upper_bound c.if-start-line.false c.word_end-end.ensures.value) _ _ c.in_default.ensures

pub returns-in-Err-clause-value : goal.returns-in-Err-clause-value
returns-in-Err-clause-value c =
    let s = c.word_start-start.ensures in
    call_bad (word_at s.value s.upper_bound c.if-start-line.false c.word_end-end.ensures.value) c.args.desk c.args.skipped c.in-Some.ensures c.in-Err.ensures.value

pub returns-in-Ok-clause-value : goal.returns-in-Ok-clause-value
returns-in-Ok-clause-value c =
    let s = c.word_start-start.ensures in
    call_asks (word_at s.value s.upper_bound c.if-start-line.false c.word_end-end.ensures.value) _ _ c.in-Some.ensures c.in-Ok.ensures.value
    (sym c.right_count.ensures ∙ c.if-right_count.true)

pub returns-in-Ok-clause-standing_for : goal.returns-in-Ok-clause-standing_for
returns-in-Ok-clause-standing_for c =
    let s = c.word_start-start.ensures in
    let written = c.in-Ok.ensures.written in
    ready (word_at s.value s.upper_bound c.if-start-line.false c.word_end-end.ensures.value) _ _ c.numbers_from.new.out
    (sym c.right_count.ensures ∙ c.if-right_count.true)
    (omega (arith, written.0, c.numbers_from.auto.out, length-drop c.word_end-end.result c.args.line.now, c.requires.from_in_bounds))
    written.1

pub returns-in-Ok-2-clause-value : goal.returns-in-Ok-2-clause-value
returns-in-Ok-2-clause-value c =
    let s = c.word_start-start.ensures in
    call_wrong (word_at s.value s.upper_bound c.if-start-line.false c.word_end-end.ensures.value) _ _ c.in-Some.ensures c.in-Ok.ensures.value
    (sym c.right_count.ensures ∙ c.if-right_count.false)
