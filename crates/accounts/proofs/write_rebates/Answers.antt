-- `accounts::write_rebates` meets its contract: the rebate due to an account is known from the place of its code in the book.
-- Assumes nothing.
use Rattle.std.proofs.Common.{◌≡◌, ℕ, ◌+◌, ◌<◌, List, length, get_or, set, sym, ◌∙◌, ap, arith, refl}
use Rattle.book.specs.declared.Book.{Book}
use Rattle.book.proofs.Places.{has_there}
use Rattle.rebates.specs.declared.Account.{Account}
use Rattle.rebates.specs.Rebates.{due_of, with_rebate, repaid}
use Rattle.rebates.specs.Reading.{no_account}
use Rattle.rebates.proofs.Written.{repaid_to, sum_to, repaid_step, repaid_all, sum_none, sum_step, sum_all}
use Rattle.accounts.proofs.write_rebates.Goals as goal

-- one account more: `xs` is the list where the first i accounts of `ys` have their rebates
module _ (b : Book) (desk i : ℕ) (ys xs : List Account) (before : xs ≡ repaid_to b desk i ys) (more : i < length ys) (r : ℕ) (is_due : r ≡ due_of b desk (get_or xs i no_account)) where
  stored : set xs i (with_rebate r (get_or xs i no_account)) ≡ repaid_to b desk (i + 1) ys
  stored =
      ap (λ (m : ℕ). set xs i (with_rebate m (get_or xs i no_account))) is_due
      ∙ ap (λ (zs : List Account). set zs i (repaid b desk (get_or zs i no_account))) before
      ∙ repaid_step b desk i ys more

  summed : (s : ℕ) → s ≡ sum_to b desk i ys → s + r ≡ sum_to b desk (i + 1) ys
  summed s e =
      ap (λ (m : ℕ). m + r) e
      ∙ sum_step b desk i r ys more (is_due ∙ ap (λ (zs : List Account). due_of b desk (get_or zs i no_account)) before)

pub loop-i-init : goal.loop-i-init
unfolding repaid_to
loop-i-init c = record { in_range = omega arith; stored = refl; summed = sym (sum_none c.args.b c.args.desk c.args.accounts.now); small = omega arith }

pub loop-i-preserved : goal.loop-i-preserved
loop-i-preserved c =
    let ys = c.args.accounts.now in
    let is_due = c.due-rebate.ensures.0 _ _ (has_there c.requires.0 _ _ c.index_of-at.ensures) in
    let more : c.loop-i.i < length c.args.accounts.now = omega arith in
    record {
      in_range = omega arith;
      stored = c.store_rebate.ensures ∙ stored c.args.b c.args.desk c.loop-i.i ys c.loop-i.accounts c.loop-i.invariant.stored more c.due-rebate.result is_due;
      summed = summed c.args.b c.args.desk c.loop-i.i ys c.loop-i.accounts c.loop-i.invariant.stored more c.due-rebate.result is_due c.loop-i.total c.loop-i.invariant.summed;
      small = omega (arith, c.due-rebate.ensures.1);
    }

pub returns : goal.returns
returns c =
    let ys = c.args.accounts.now in
    let at_end : c.loop-i.i ≡ length c.args.accounts.now = omega arith in (
      c.loop-i.invariant.summed ∙ ap (λ (k : ℕ). sum_to c.args.b c.args.desk k ys) at_end ∙ sum_all c.args.b c.args.desk ys,
      c.loop-i.invariant.stored ∙ ap (λ (k : ℕ). repaid_to c.args.b c.args.desk k ys) at_end ∙ repaid_all c.args.b c.args.desk ys,
    )
