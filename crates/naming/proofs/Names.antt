-- Laws of the names of the calls.
-- Assumes nothing.
use mathlib.Core.Path.{◌≡◌, refl, sym, ◌∙◌, ap}
use mathlib.Core.Bool.{Bool, true, false, cond, ◌&&◌}
use mathlib.Core.List.{List, [], ◌∷◌}
use Prim.Native.Nat.{ℕ}
use native.Mathlib.Omega.{arith}
use lib.Dec.{eqb}
use lib.ListN.{length, get_or}
use Rattle.std.specs.Prelude.{Option, Some, None}
use Rattle.std.specs.Bool.{then_some}
use Rattle.std.specs.Cmp.Lexicographic.{pointwise, same_text, other_text}
use Rattle.naming.specs.declared.CodeStep.TheVariants.{Put, Open, Close, Drop, Ask, Confirm, Direct}
use Rattle.naming.specs.declared.Query.TheVariants.{Benchmark, Maximum, Quote, Trial}
use Rattle.naming.specs.declared.Word.{Word}
use Rattle.naming.specs.declared.Word.TheVariants.{Set, Undo, On, Tells, Rebate}
use Rattle.naming.specs.Naming.{calls, name_of, same, named}

-- the library's test of two texts is the test of the definitions
pub same_test : (xs ys : List ℕ) → pointwise eqb xs ys ≡ same xs ys
unfolding same
same_test [] [] = refl
same_test [] (y ∷ ys) = refl
same_test (x ∷ xs) [] = refl
same_test (x ∷ xs) (y ∷ ys) = ap (λ t. eqb x y && t) (same_test xs ys)

-- each call is named by its own name
named_by : (c : Word) → named calls (name_of c) ≡ Some c
unfolding named same
named_by Set = refl
named_by Undo = refl
named_by (On Put) = refl
named_by (On Open) = refl
named_by (On Close) = refl
named_by (On Drop) = refl
named_by (On Ask) = refl
named_by (On Confirm) = refl
named_by (On Direct) = refl
named_by (Tells Benchmark) = refl
named_by (Tells Maximum) = refl
named_by (Tells Quote) = refl
named_by (Tells Trial) = refl
named_by Rebate = refl

-- and by nothing else
skip : (w : List ℕ) (c : Word) (rest : Option Word) → (w ≡ name_of c → ⊥) → cond (same w (name_of c)) (Some c) rest ≡ rest
skip w c rest h = go (same w (name_of c)) refl
  where
    go : (t : Bool) → same w (name_of c) ≡ t → cond t (Some c) rest ≡ rest
    go true e = absurd (h (same_text w (name_of c) (sym (same_test w (name_of c) ∙ e))))
    go false e = refl

none_named : (cs : List Word) (w : List ℕ) → ((c : Word) → w ≡ name_of c → ⊥) → named cs w ≡ None
unfolding named
none_named [] w h = refl
none_named (c ∷ cs) w h = skip w c (named cs w) (h c) ∙ none_named cs w h

-- what a word names: nothing where it has no byte; else the one call whose name begins as it does and is as long, where that name is the word
pub names_nothing : (w : List ℕ) → length w ≡ 0 → None ≡ named calls w
unfolding named same
names_nothing [] e = refl
names_nothing (x ∷ w) e = absurd (omega arith)

module _ (w name : List ℕ) (g : Word) (its : name ≡ name_of g) (only : (c : Word) → get_or (name_of c) 0 0 ≡ get_or w 0 0 → length (name_of c) ≡ length w → c ≡ g) where
  pub names : (r : Bool) → r ≡ pointwise eqb w name → then_some r g ≡ named calls w
  names true t = sym (ap (named calls) (same_text w name t ∙ its) ∙ named_by g)
  names false t =
      sym (none_named calls w λ c e. other_text w name t (e ∙ ap name_of (only c (ap (λ xs. get_or xs 0 0) (sym e)) (ap length (sym e))) ∙ sym its))
