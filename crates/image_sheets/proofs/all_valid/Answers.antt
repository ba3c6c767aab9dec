-- `image_sheets::all_valid` meets its contract.
-- Assumes nothing.
use Prim.Native.Nat.{ℕ}
use Rattle.std.proofs.Common.{rules, refl}
use Rattle.std.proofs.lemmas.Iterator.{cases_from_all, YieldsList-from_range}
use Rattle.stands.specs.Stands.{HoldsValid}
use Rattle.image.specs.Layout.{start_of}
use Rattle.image.specs.Image.{place_at}
use Rattle.image_sheets.proofs.Valid.{told_all}
use Rattle.image_sheets.proofs.all_valid.Goals as goal

pub returns : goal.returns
returns c =
    let valid : ℕ → Type 0 = λ i. HoldsValid (place_at c.args.image.now (start_of i)) in
    told_all valid 32 c.all.result
    (cases_from_all _ _ _ valid (λ i. valid i → ⊥) c.all.ensures.ran (YieldsList-from_range 0 32 32 refl refl) (λ i q k. (search rules, search rules)) (λ i q k. search rules))
