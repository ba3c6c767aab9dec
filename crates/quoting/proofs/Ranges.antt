-- Arguments that pass refusal 13 of QUOTE.
-- Assumes nothing.
use mathlib.Core.Path.{◌≡◌}
use mathlib.Core.Bool.{true, ◌&&◌}
use Prim.Native.Nat.{ℕ, ◌<◌}
use lib.Dec.{ltb}
use borrow.Author.Tests.{ltb-true}
use Rattle.laws.proofs.Every.{and_left, and_right}
use Rattle.tariff.specs.declared.Tariff.{Tariff}
use Rattle.verdict.specs.Cells.{offered, cell}
use Rattle.quoting.specs.Quote.{cell_allowed}

pub cell_within : (x : Tariff) (r p : ℕ) → cell_allowed x r p ≡ true → (r < 14) × (p < 2)
unfolding cell_allowed
cell_within x r p e =
    let both = and_left (ltb r 14 && ltb p 2) (offered x (cell r p)) e in
    (ltb-true r 14 (and_left (ltb r 14) (ltb p 2) both), ltb-true p 2 (and_right (ltb r 14) (ltb p 2) both))
