use Rattle.std.proofs.Common.{◌∙◌, ap, map}
use Rattle.lines.specs.Numerals.{value}
use Rattle.lines.proofs.Reading.{number_within}
use Rattle.request.proofs.Requests.{no_number, desk_asks, desk_numbers}
use Rattle.request.proofs.desk_line.Goals as goal

pub call_at-requires-clause-from_in_bounds : goal.call_at-requires-clause-from_in_bounds
call_at-requires-clause-from_in_bounds c =
    (number_within c.args.line.now _ _ _ c.in-Some.ensures c.word_start-start.ensures.upper_bound, c.requires.1)

pub returns-in-Some-clause-value : goal.returns-in-Some-clause-value
returns-in-Some-clause-value c =
    desk_asks c.args.line.now _ _ c.word_start-start.ensures.value c.in-Some.ensures c.call_at.ensures.value

pub returns-in-Some-clause-standing_for : goal.returns-in-Some-clause-standing_for
returns-in-Some-clause-standing_for c whole e =
    c.call_at.ensures.standing_for whole
    (e ∙ ap (map value) (desk_numbers c.args.line.now _ _ c.word_start-start.ensures.value c.in-Some.ensures))

pub returns-in-None-clause-value : goal.returns-in-None-clause-value
returns-in-None-clause-value c =
    no_number c.args.line.now _ _ c.word_start-start.ensures.value c.word_start-start.ensures.upper_bound c.in-None.ensures
