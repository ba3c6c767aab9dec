-- `image_queries::numbers_at` meets its contract.
-- Assumes nothing.
use mathlib.Core.Path.{refl, sym, ◌∙◌}
use Rattle.verdict.proofs.Walk.{numbers_are}
use Rattle.image.specs.Image.{figures_in}
use Rattle.image_queries.proofs.InForce.{charge_in, next_in, level_in}
use Rattle.image_queries.proofs.numbers_at.Goals as goal

pub returns : goal.returns
unfolding figures_in
returns c =
    let f = c.figure_index-at in
    let a = c.args in
    let l = a.image.now in
    numbers_are (figures_in l) _ _ _ _ f.result _ f.ensures.0
    (c.wide.ensures ∙ sym (charge_in l f.result f.ensures.1))
    (c.wide-2.ensures ∙ sym (next_in l _ _ _ f.result c.requires.2 c.requires.1 c.requires.3 f.ensures.0))
    (c.wide-3.ensures ∙ sym (level_in l a.arrangement c.requires.1))
    c.wide-4.ensures refl refl refl
