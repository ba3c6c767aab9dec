use Rattle.std.proofs.Common.{refl, true, false}
use Rattle.request.proofs.Requests.{word_at, asks_nothing, asks_comment, asks, asks_numbers}
use Rattle.request.proofs.request_of.Goals as goal
use Rattle.request.proofs.request_of.Goals.{then-start-line-via-then-start-line, then-start-line-via-else-start-line+then-line-start-eq35}

pub returns-then-start-line-clause-value : goal.returns-then-start-line-clause-value
returns-then-start-line-clause-value c =
    let s = c.word_start-start.ensures in
    elim c.then-start-line.branch [
      | then-start-line-via-then-start-line w ↦ asks_nothing c.args.line.now _ s.value w.if-start-line.true
      | then-start-line-via-else-start-line+then-line-start-eq35 w ↦ asks_comment (word_at s.value s.upper_bound w.if-start-line.false refl) w.if-line-start-eq35.true
    ]

pub returns-then-eq-clause-value : goal.returns-then-eq-clause-value
returns-then-eq-clause-value c =
    let s = c.word_start-start.ensures in
    asks (word_at s.value s.upper_bound c.if-start-line.false c.word_end-end.ensures.value) true _ c.as_slice.ensures c.if-eq.ensures
    c.if-line-start-eq35.false
    c.desk_line.ensures.value

pub returns-then-eq-clause-standing : goal.returns-then-eq-clause-standing
returns-then-eq-clause-standing c =
    let s = c.word_start-start.ensures in
    c.desk_line.ensures.standing_for _
    (asks_numbers (word_at s.value s.upper_bound c.if-start-line.false c.word_end-end.ensures.value) true _ c.as_slice.ensures c.if-eq.ensures)

pub returns-else-eq-clause-value : goal.returns-else-eq-clause-value
returns-else-eq-clause-value c =
    let s = c.word_start-start.ensures in
    asks (word_at s.value s.upper_bound c.if-start-line.false c.word_end-end.ensures.value) false _ c.as_slice.ensures c.if-eq.ensures
    c.if-line-start-eq35.false
    c.call_at.ensures.value

pub returns-else-eq-clause-standing : goal.returns-else-eq-clause-standing
returns-else-eq-clause-standing c =
    let s = c.word_start-start.ensures in
    c.call_at.ensures.standing_for _
    (asks_numbers (word_at s.value s.upper_bound c.if-start-line.false c.word_end-end.ensures.value) false _ c.as_slice.ensures c.if-eq.ensures)
