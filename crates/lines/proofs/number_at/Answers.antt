use Rattle.std.proofs.Common.{◌≡◌, ◌+◌, ◌<◌, ◌-◌, [], ℕ, List, length, take, drop, get_or, sym, ◌∙◌, arith}
use Rattle.std.proofs.Math.Seq.{get_or-drop}
use Rattle.std.proofs.lemmas.List.{take_rest}
use Rattle.lines.specs.Words.{word_in}
use Rattle.lines.proofs.Parts.{length_between}
use Rattle.lines.proofs.Splitting.{word_stop, word_none}
use Rattle.lines.proofs.Reading.{scan_starts, left_at, left_large, scan_goes, no_word, word_read}
use Rattle.lines.proofs.number_at.Goals as goal
use Rattle.lines.proofs.number_at.Goals.{else-loop-b-test, then-loop-b-test+then-b-eq32}

-- the byte at a place behind `from`
byte : (line : List ℕ) (from k i : ℕ) → i ≡ from + k → get_or (take (length line - from) (drop from line)) k 0 ≡ get_or line i 0
byte line from k i e = rw (take_rest, get_or-drop, e)

inside : (line : List ℕ) (from k i : ℕ) → i ≡ from + k → k < length (take (length line - from) (drop from line)) → i < length line
inside line from k i e h = omega (arith, length_between line from (length line) (omega arith))

pub loop-b-init : goal.loop-b-init
loop-b-init c = (omega arith, scan_starts c.args.line.now c.args.from c.requires)

pub returns-then-not-is_ascii_digit : goal.returns-then-not-is_ascii_digit
returns-then-not-is_ascii_digit c =
    left_at c.args.line.now _ _ _ c.loop-b.invariant.1 (inside _ _ _ _ c.loop-b.invariant.0 c.loop-b-test.true) _ (byte _ _ _ _ c.loop-b.invariant.0) c.if-b-eq32.false
    (sym c.is_ascii_digit.ensures.value ∙ c.if-not-is_ascii_digit.true)

pub returns-then-v-from : goal.returns-then-v-from
returns-then-v-from c =
    left_large c.args.line.now _ _ _ c.loop-b.invariant.1 (inside _ _ _ _ c.loop-b.invariant.0 c.loop-b-test.true) _ (byte _ _ _ _ c.loop-b.invariant.0) c.if-b-eq32.false
    (omega arith)

pub loop-b-preserved : goal.loop-b-preserved
loop-b-preserved c = (
  omega arith,
  rw c.from.ensures
      (scan_goes c.args.line.now _ _ _ c.loop-b.invariant.1 (inside _ _ _ _ c.loop-b.invariant.0 c.loop-b-test.true) _ (byte _ _ _ _ c.loop-b.invariant.0) c.if-b-eq32.false
      (sym c.is_ascii_digit.ensures.value ∙ c.if-not-is_ascii_digit.false)
      (omega arith)),
)

-- behind the loop the word ends, at a space or with the line
pub returns-then-end-from : goal.returns-then-end-from
returns-then-end-from c =
    let line = c.args.line.now in
    let ended : word_in (drop c.loop-b.end line) ≡ [] = elim c.loop-b-test.branch [
      | else-loop-b-test w ↦ word_none line c.loop-b.end (omega (arith, length_between line c.args.from (length line) (omega arith), w.loop-b-test.false))
      | then-loop-b-test+then-b-eq32 w ↦ word_stop line c.loop-b.end (inside _ _ _ _ c.loop-b.invariant.0 w.loop-b-test.true) (sym (byte _ _ _ _ c.loop-b.invariant.0) ∙ w.if-b-eq32.true)
    ] in
    no_word line _ _ _ c.loop-b.invariant.1 ended c.if-end-from.true

pub returns-else-end-from : goal.returns-else-end-from
returns-else-end-from c =
    let line = c.args.line.now in
    let ended : word_in (drop c.loop-b.end line) ≡ [] = elim c.loop-b-test.branch [
      | else-loop-b-test w ↦ word_none line c.loop-b.end (omega (arith, length_between line c.args.from (length line) (omega arith), w.loop-b-test.false))
      | then-loop-b-test+then-b-eq32 w ↦ word_stop line c.loop-b.end (inside _ _ _ _ c.loop-b.invariant.0 w.loop-b-test.true) (sym (byte _ _ _ _ c.loop-b.invariant.0) ∙ w.if-b-eq32.true)
    ] in
    word_read line _ _ _ c.loop-b.invariant.1 ended c.if-end-from.false
