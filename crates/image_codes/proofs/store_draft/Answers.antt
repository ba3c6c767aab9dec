-- `image_codes::store_draft` meets its contract.
-- Assumes nothing.
use mathlib.Core.Path.{◌≡◌, ◌∙◌}
use mathlib.Core.List.{List}
use Prim.Native.Nat.{ℕ, ◌+◌}
use lib.ListN.{length, set, length-set}
use Rattle.image_codes.proofs.Storing.{draft_stored}
use Rattle.image_codes.proofs.store_draft.Goals as goal

-- two words written leave as many

draft_size : (k : List ℕ) (at : ℕ) → length (set (set k at 1) (at + 1) 0) ≡ length k
draft_size k at = length-set (set k at 1) (at + 1) 0 ∙ length-set k at 1

pub returns : goal.returns
returns c =
    draft_stored c.args.image.now c.end_undo.new.image c.args.i c.requires.1 c.requires.0 c.end_undo.ensures c.write.new.image c.args.x.now c.start_of-at.result c.start_of-at.ensures.0 c.requires.2 c.write.ensures
