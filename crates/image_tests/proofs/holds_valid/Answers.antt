-- `image_tests::holds_valid` meets its contract.
-- Assumes nothing.
use mathlib.Core.Path.{◌∙◌, ap, ap₂}
use Prim.Native.Nat.{◌+◌}
use Rattle.tariff.specs.Tariff.{record_length, record_check}
use Rattle.image.specs.Layout.{record_at}
use Rattle.image.specs.Image.{word, words, state_of, place_at}
use Rattle.image.proofs.Reading.{length_words, record_part}
use Rattle.image_tests.specs.Tests.{valid_as}
use Rattle.image_tests.proofs.Lawfulness.{told_valid}
use Rattle.image_tests.proofs.holds_valid.Goals as goal

pub returns : goal.returns
unfolding place_at
returns c =
    let l = c.args.image.now in
    let at = c.args.at in
    told_valid (state_of (word l at)) (words (at + record_at) record_length l) c.is_valid_as.result
    (c.is_valid_as.ensures ∙ ap₂ valid_as c.state_of-state.ensures (c.check-its.ensures ∙ ap record_check (record_part l at c.requires)))
    (length_words (at + record_at) record_length l)
