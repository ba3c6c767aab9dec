-- `taking::take_lines` meets its contract: at each turn the line is answered, whichever of the arms answers it.
-- Assumes nothing.
use Rattle.std.proofs.Common.{◌≡◌, ℕ, ◌+◌, ◌^◌, ◌≤◌, ◌<◌, List, length, take, refl, sym, ◌∙◌, ap, arith}
use lib.Seq.{length-take-le}
use borrow.Author.Tests.{ltb-true}
use Rattle.book.specs.declared.Book.{Book}
use Rattle.stands.proofs.Placed.{kept_gone, kept_stays}
use Rattle.answers.specs.Answers.{answer_room}
use Rattle.lines.specs.Words.{between}
use Rattle.protocol.specs.Lines.{Response, line_at}
use Rattle.protocol.specs.Promises.{Answered}
use Rattle.taking.specs.Taking.{has_room}
use Rattle.taking.proofs.Taking.{feed_left, room_yes, some_number, has_place, stored_answered, sofar_none, sofar_more}
use Rattle.taking.proofs.take_lines.Goals as goal
use Rattle.taking.proofs.take_lines.Goals.{in-Answer, in-Set, in-Undo, in-On+then-ends_undo, in-On+else-ends_undo, in-Tells, then-loop-end-test+else-room, else-loop-end-test}

-- an answered line, of what is the same
answered_as : {line line' : Response} {b b' : Book} {before before' : List ℕ} {at next next' : ℕ} {after after' : List ℕ}
    → line' ≡ line → b' ≡ b → before ≡ before' → next' ≡ next → after' ≡ after
    → Answered line b before at next after → Answered line' b' before' at next' after'
answered_as e f p g h a = rw (e, f, sym p, g, h) a

pub loop-end-init : goal.loop-end-init
loop-end-init c =
    sofar_none _ _ c.args.i _ _ c.requires.1.inside _ c.requires.0 c.line_end-end.ensures.lower_bound.0 c.line_end-end.ensures.lower_bound.1 c.line_end-end.ensures.value

pub slice_bounds-do_set-end : goal.slice_bounds-do_set-end
slice_bounds-do_set-end c = (c.in-Set.ensures c.loop-end.book c.loop-end.invariant.reachable).1

pub slice_bounds-do_set-end-in-Set : goal.slice_bounds-do_set-end-in-Set
slice_bounds-do_set-end-in-Set c = sym (length-take-le _ _ (c.in-Set.ensures c.loop-end.book c.loop-end.invariant.reachable).1)

pub do_set-after-requires : goal.do_set-after-requires
do_set-after-requires c =
    let a = c.in-Set.ensures c.loop-end.book c.loop-end.invariant.reachable in
    let room : (c.loop-end.at + answer_room ≤ length c.loop-end.out) × (c.loop-end.l + 1 < 2 ^ 64) = room_yes _ _ _ (sym c.room.ensures ∙ c.if-room.true) in
    (c.loop-end.invariant.reachable, rw (length-take-le c.in-Set.n c.say_line-said.new.numbers a.1) a.2, omega arith)

pub slice_bounds-do_on-end : goal.slice_bounds-do_on-end
slice_bounds-do_on-end c = (c.in-On.ensures c.loop-end.book c.loop-end.invariant.reachable).1

pub slice_bounds-do_on-end-in-On : goal.slice_bounds-do_on-end-in-On
slice_bounds-do_on-end-in-On c = sym (length-take-le _ _ (c.in-On.ensures c.loop-end.book c.loop-end.invariant.reachable).1)

pub do_on-after-requires : goal.do_on-after-requires
do_on-after-requires c =
    let a = c.in-On.ensures c.loop-end.book c.loop-end.invariant.reachable in
    let room : (c.loop-end.at + answer_room ≤ length c.loop-end.out) × (c.loop-end.l + 1 < 2 ^ 64) = room_yes _ _ _ (sym c.room.ensures ∙ c.if-room.true) in (
      (c.loop-end.book, c.index_of-index.result, has_place c.loop-end.book c.say_line-said.new.numbers c.in-On.n c.index_of-index.result c.loop-end.invariant.reachable (some_number c.in-On.step c.in-On.n a.2) c.index_of-index.ensures),
      rw (length-take-le c.in-On.n c.say_line-said.new.numbers a.1) a.2,
      omega arith,
    )

pub slice_bounds-do_tell-end : goal.slice_bounds-do_tell-end
slice_bounds-do_tell-end c = (c.in-Tells.ensures c.loop-end.book c.loop-end.invariant.reachable).1

pub slice_bounds-do_tell-end-in-Tells : goal.slice_bounds-do_tell-end-in-Tells
slice_bounds-do_tell-end-in-Tells c = sym (length-take-le _ _ (c.in-Tells.ensures c.loop-end.book c.loop-end.invariant.reachable).1)

pub do_tell-at-requires : goal.do_tell-at-requires
do_tell-at-requires c =
    let a = c.in-Tells.ensures c.loop-end.book c.loop-end.invariant.reachable in
    let room : (c.loop-end.at + answer_room ≤ length c.loop-end.out) × (c.loop-end.l + 1 < 2 ^ 64) = room_yes _ _ _ (sym c.room.ensures ∙ c.if-room.true) in
    let within : c.in-Tells.n ≤ length c.say_line-said.new.numbers = a.1 in
    let count : length (take c.in-Tells.n c.say_line-said.new.numbers) ≡ c.in-Tells.n = length-take-le c.in-Tells.n c.say_line-said.new.numbers a.1 in
    (c.loop-end.invariant.reachable, rw count a.2, omega (arith, c.requires.2), omega arith)

pub loop-end-preserved : goal.loop-end-preserved
loop-end-preserved c =
    let b = c.loop-end.book in
    let r = c.loop-end.invariant.reachable in
    let numbers = c.say_line-said.new.numbers in
    -- after any of the arms the line is answered
    let done : Answered (line_at c.loop-end.book (c.loop-end.l + 1) c.loop-end.cut (between c.args.input.now c.loop-end.from c.loop-end.end)) c.match-said.book c.loop-end.out c.loop-end.at c.match-said.at c.match-said.out =
    elim c.match-said.branch [
      | in-Answer w ↦ answered_as refl w.book-is refl w.at-is w.out-is (w.in-Answer.ensures b r)
      | in-Set w ↦
          let a = w.in-Set.ensures b r in
          answered_as a.0 w.book-is a.3 w.at-is w.out-is w.do_set-after.ensures
      | in-Undo w ↦
          let a = w.in-Undo.ensures b r in
          answered_as a.0 w.book-is a.1 w.at-is w.out-is w.do_undo-after.ensures
      | in-On+then-ends_undo w ↦
          let a = w.in-On.ensures b r in
          let gone = w.nothing_kept-book.ensures ∙ kept_gone w.do_on-after.result.reply b.kept (sym w.ends_undo.ensures ∙ w.if-ends_undo.true) in
          let there = has_place b numbers w.in-On.n w.index_of-index.result r (some_number w.in-On.step w.in-On.n a.2) w.index_of-index.ensures in
          answered_as a.0 w.book-is a.3 w.at-is w.out-is
          (stored_answered b w.index_of-index.result w.do_on-after.result.place w.do_on-after.result.reply gone (w.do_on-after.ensures _ _ there))
      | in-On+else-ends_undo w ↦
          let a = w.in-On.ensures b r in
          let stays = kept_stays w.do_on-after.result.reply b r (sym w.ends_undo.ensures ∙ w.if-ends_undo.false) in
          let there = has_place b numbers w.in-On.n w.index_of-index.result r (some_number w.in-On.step w.in-On.n a.2) w.index_of-index.ensures in
          answered_as a.0 w.book-is a.3 w.at-is w.out-is
          (stored_answered b w.index_of-index.result w.do_on-after.result.place w.do_on-after.result.reply stays (w.do_on-after.ensures _ _ there))
      | in-Tells w ↦
          let a = w.in-Tells.ensures b r in
          answered_as a.0 w.book-is a.3 w.at-is w.out-is w.do_tell-at.ensures
    ] in
    sofar_more _ _ c.args.i c.args.input.now c.args.out.now c.requires.1.inside _ _ _ _ _ _ _ _ _ _ _ c.loop-end.invariant c.loop-end-test.true done.book done.reachable done.text
    c.line_end-end-in-loop-end.ensures.lower_bound.0 c.line_end-end-in-loop-end.ensures.lower_bound.1 c.line_end-end-in-loop-end.ensures.value

pub returns : goal.returns
returns c =
    let s = c.loop-end.invariant in
    record {
      text = s.text;
      takes = s.takes;
      puts = s.puts;
      reachable = s.reachable;
      holds = record { ordered = omega (arith, s.order, s.inside); inside = c.requires.1.inside };
      passed = s.passed;
      left = rw (feed_left c.args.input.now c.loop-end.from c.args.i.to c.loop-end.end c.requires.1.inside s.order s.found) refl;
      full = λ e.
          elim c.loop-end-test.branch [
            | then-loop-end-test+else-room w ↦ ap (λ n. has_room c.loop-end.at n c.loop-end.l) (sym c.loop-end.auto.out) ∙ sym w.room.ensures ∙ w.if-room.false
            | else-loop-end-test w ↦ absurd (omega (arith, ltb-true c.loop-end.end c.args.i.to e, w.loop-end-test.false))
          ];
    }
