-- Where a whole line is there a turn takes one: the output is empty when lines are taken, so there is room for its answer.
-- Assumes nothing.
use mathlib.Core.Path.{◌≡◌, refl, ◌∙◌, ap}
use mathlib.Core.Bool.{Bool, true, false}
use mathlib.Core.List.{List}
use Prim.Native.Nat.{ℕ, ◌+◌, ◌-◌, ◌^◌, ◌<◌, ◌≤◌}
use native.Mathlib.Omega.{arith}
use lib.Dec.{leb, ltb}
use lib.ListN.{length, take, drop}
use borrow.Author.Tests.{ltb-true, ltb-false, lt-ltb, le-leb}
use Rattle.laws.proofs.Every.{and_both}
use Rattle.book.specs.declared.Book.{Book}
use Rattle.laws.proofs.Never.{never}
use Rattle.answers.specs.Answers.{answer_room}
use Rattle.lines.specs.Words.{between}
use Rattle.input.specs.declared.Input.{Input}
use Rattle.taking.specs.declared.Desk.{Desk}
use Rattle.taking.specs.Taking.{has_feed, has_room, Took}
use Rattle.taking.proofs.Taking.{takes_none}

pub progress : {b : Book} {l : ℕ} {i : Input} {input before : List ℕ} {r : Desk} {after : List ℕ} → Took b l i input before r after
    → answer_room ≤ length before → l + 1 < 2 ^ 64 → has_feed (between input i.from i.to) ≡ true → i.from < r.input.from
unfolding has_feed
progress {b} {l} {i} {input} {before} {r} {after} t room number line = go (ltb i.from r.input.from) refl
  where
    go : (x : Bool) → ltb i.from r.input.from ≡ x → i.from < r.input.from
    go true e = ltb-true i.from r.input.from e
    go false e =
        let same : r.input.from ≡ i.from = omega (arith, ltb-false i.from r.input.from e, t.passed) in
        let zero : r.input.from - i.from ≡ 0 = omega arith in
        let n = takes_none t.takes (ap (λ k. has_feed (take k (drop i.from input))) zero) in
        let no = t.full (ap (λ x. x.more) t.left ∙ ap (λ k. has_feed (between input k i.to)) same ∙ line) in
        let yes : has_room r.at (length before) r.lines ≡ true =
        and_both (leb (r.at + answer_room) (length before)) (ltb (r.lines + 1) (2 ^ 64))
        (le-leb (r.at + answer_room) (length before) (omega (arith, room, t.puts.ends, n.1)))
        (lt-ltb (r.lines + 1) (2 ^ 64) (omega (arith, number, n.0))) in
        never (cc (no, yes))
