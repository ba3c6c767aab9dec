-- `accounts::first_failing` meets its contract: whether an account fails is known from the place of its code in the book, and so where the first that fails is.
-- Assumes nothing.
use Rattle.std.proofs.Common.{◌≡◌, ℕ, length, drop, sym, ◌∙◌, ap, arith}
use mathlib.Core.Path.{subst}
use Rattle.book.proofs.Places.{has_there}
use Rattle.rebates.specs.Rebates.{first_from, first_place}
use Rattle.rebates.specs.Reading.{fails_by, place_or}
use Rattle.rebates.proofs.Scanned.{hit, miss, over}
use Rattle.accounts.proofs.first_failing.Goals as goal

pub returns-then-fails : goal.returns-then-fails
returns-then-fails c =
    let test = fails_by c.args.number c.args.b c.args.desk in
    let found = hit test c.args.accounts.now c.loop-i.i c.loop-i-test.true (sym (c.fails.ensures _ _ (has_there c.requires _ _ c.index_of-at.ensures)) ∙ c.if-fails.true) in
    ap (place_or (length c.args.accounts.now)) (sym found ∙ c.loop-i.invariant.none_before)

pub loop-i-preserved : goal.loop-i-preserved
loop-i-preserved c =
    let test = fails_by c.args.number c.args.b c.args.desk in
    let passed = miss test c.args.accounts.now c.loop-i.i c.loop-i-test.true (sym (c.fails.ensures _ _ (has_there c.requires _ _ c.index_of-at.ensures)) ∙ c.if-fails.false) in
    record { in_range = omega arith; none_before = sym passed ∙ c.loop-i.invariant.none_before }

pub returns : goal.returns
returns c =
    let test = fails_by c.args.number c.args.b c.args.desk in
    let n = length c.args.accounts.now in
    let at_end : c.loop-i.i ≡ length c.args.accounts.now = omega arith in
    let none_found = subst (λ (k : ℕ). first_from test k (drop k c.args.accounts.now) ≡ first_place test c.args.accounts.now) at_end c.loop-i.invariant.none_before in
    at_end ∙ ap (place_or n) (sym (over test c.args.accounts.now) ∙ none_found)
