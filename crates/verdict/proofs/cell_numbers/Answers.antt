-- `verdict::cell_numbers` meets its contract: the figures at two neighbouring indices, and the numbers handed in.
-- Assumes nothing.
use mathlib.Core.Path.{refl, sym, ◌∙◌, ap}
use mathlib.Core.List.{List}
use Prim.Native.Nat.{ℕ, ◌+◌}
use lib.ListN.{get_or}
use Rattle.verdict.proofs.Walk.{numbers_are}
use Rattle.verdict.proofs.cell_numbers.Goals as goal

pub returns : goal.returns
returns c =
    let f = c.figure_index-at in
    λ b q l k t d.
    numbers_are b _ _ _ _ f.result _ f.ensures.0
    (c.from.ensures ∙ ap (λ (cs : List ℕ). get_or cs f.result 0) (sym q))
    (c.from-2.ensures ∙ ap (λ (cs : List ℕ). get_or cs (f.result + 1) 0) (sym q))
    (c.from-3.ensures ∙ sym l) (c.from-4.ensures ∙ sym t) (sym d) refl (sym k)
