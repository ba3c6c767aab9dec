-- `rebating::first_accounts` meets its contract. The invariant: the accounts passed are stored.
-- Assumes nothing.
use mathlib.Core.Path.{refl, sym, ◌∙◌, ap}
use mathlib.Core.List.{[], ◌∷◌, ◌++◌}
use native.Mathlib.Omega.{arith}
use lib.ListN.{length-set, length-replicate}
use Rattle.lines.proofs.Parts.{rest}
use Rattle.rebating.specs.Rebating.{first_accounts}
use Rattle.rebating.proofs.Filling.{stored_more, accounts_more}
use Rattle.rebating.proofs.first_accounts.Goals as goal

pub loop-i-init : goal.loop-i-init
unfolding first_accounts
loop-i-init c = (simp length-replicate, refl)

pub loop-i-preserved : goal.loop-i-preserved
loop-i-preserved c =
    let lp = c.loop-i in
    let ns = c.args.numbers.now in
    let i = lp.i in
    let a = c.account_of.result in (
      length-set lp.accounts i a ∙ lp.invariant.0,
      stored_more lp.accounts i a (omega (arith, lp.invariant.0, c.requires.0, c.loop-i-test.true)) lp.invariant.1
          ∙ ap (λ x. first_accounts i ns ++ (x ∷ [])) (rw rest at c.account_of.ensures)
          ∙ sym (accounts_more i ns),
    )
