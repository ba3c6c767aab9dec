-- `image_codes::fresh` meets its contract.
-- Assumes nothing.
use mathlib.Core.Path.{◌≡◌, refl, ◌∙◌, subst}
use mathlib.Core.List.{List}
use Prim.Native.Nat.{ℕ, ◌+◌, ◌≤◌, ◌<◌}
use native.Mathlib.Omega.{arith}
use lib.ListN.{length, set, length-set}
use lib.Seq.{get_or-set_same, get_or-set_other}
use Rattle.image.specs.Layout.{word_count, mark}
use Rattle.image.specs.Image.{word}
use Rattle.image.specs.Changing.{no_book, Written}
use Rattle.image.proofs.Fresh.{fresh_book, fresh_canonical, is_an_image}
use Rattle.image_codes.specs.Storing.{FreshImage}
use Rattle.image_codes.proofs.fresh.Goals as goal

-- another number of words

no_room : (l : List ℕ) → (length l ≡ word_count → ⊥) → FreshImage l no_book l
no_room l n =
    record {
      size = refl;
      other_length = λ f. (refl, refl);
      answers = λ e. absurd (n e);
      image = λ e. absurd (n e);
      book = λ e. absurd (n e);
      canonical = λ e. absurd (n e);
    }

-- zeros, and the mark over the first of them

made : (l k : List ℕ) → length l ≡ word_count → Written l k 0 word_count (λ j. 0) → FreshImage l 0 (set k 0 mark)
made l k e w =
    record {
      size = length-set k 0 mark ∙ w.size;
      other_length = λ n. absurd (n e);
      answers = λ f. refl;
      image = λ f. is_an_image _ (length-set k 0 mark ∙ w.size ∙ e) (get_or-set_same k 0 mark 0 (omega (arith, w.size)));
      book = λ f. fresh_book _ nought;
      canonical = λ f. fresh_canonical _ nought;
    }
  where
    nought : (j : ℕ) → 1 ≤ j → j < word_count → word (set k 0 mark) j ≡ 0
    nought j a b = get_or-set_other k 0 j mark 0 (λ q. omega arith) ∙ (let e : 0 + j ≡ j = omega arith in subst (λ n. word k n ≡ 0) e (w.inside j b))

pub returns : goal.returns
returns c =
    made _ _ c.if-image-ne-WORD_COUNT.false c.clear.ensures
