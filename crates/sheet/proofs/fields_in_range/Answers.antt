-- `sheet::fields_in_range` meets its contract.
-- Assumes nothing.
use mathlib.Core.Path.{◌≡◌}
use mathlib.Core.Bool.{true}
use Prim.Native.Nat.{ℕ, ◌<◌}
use Rattle.std.proofs.Common.{rules}
use Rattle.std.specs.Bool.{Decides}
use Rattle.std.proofs.iter.runs.Made.{chains}
use Rattle.laws.proofs.Chains.{is_every}
use Rattle.sheet.specs.Sheet.{field_count, field, field_in_range, fields_in_range}
use Rattle.sheet.proofs.fields_in_range.Goals as goal

pub returns : goal.returns
unfolding fields_in_range
returns c =
    let d : Decides c.all.result ((k : ℕ) → k < field_count → field_in_range k (field c.args.s.now k) ≡ true) = search (rules, chains) in
    is_every _ _ _ _ (λ f h. (λ e. e, λ e. e)) d
