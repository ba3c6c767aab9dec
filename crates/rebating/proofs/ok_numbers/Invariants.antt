-- `rebating::ok_numbers` meets its contract. The invariant: behind the total stand the rebates of the accounts passed.
-- Assumes nothing.
use Rattle.std.proofs.Common.{◌≡◌, ◌+◌, ◌∷◌, map, length, take}
use Rattle.answers.specs.Answers.{accounts_most}
use Rattle.rebating.proofs.ok_numbers.Given as goal

abbrev pub invariant-loop-told : goal.invariant-loop-told
invariant-loop-told l =
    (length l.numbers ≡ 1 + accounts_most) × (take (1 + l.told) l.numbers ≡ l.total ∷ map (λ a. a.rebate) (take l.told l.accounts))
