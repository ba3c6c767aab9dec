-- `image_tests::pairs_fit` meets its contract.
-- Assumes nothing.
use Rattle.std.proofs.Common.{rules, tests, arith, ◌≡◌, ◌&&◌, ◌∙◌, ◌/◌, refl, sym, ap, length, get_or, drop, zero, suc, List, ℕ, Bool}
use mathlib.Core.Path.{ap₂}
use lib.Seq.{get_or-take, get_or-drop}
use Rattle.std.specs.List.{list_all}
use Rattle.std.specs.Simd.{first_chunks}
use Rattle.std.proofs.lemmas.Iterator.{YieldsList-from_slice}
use Rattle.std.proofs.lemmas.Iterator.Search.{all_from_yields_List}
use Rattle.laws.specs.Notions.{every}
use Rattle.laws.proofs.Every.{every_alike}
use Rattle.image.proofs.Each.{every_first}
use Rattle.image_tests.specs.Tests.{between, pair_fits}
use Rattle.image_tests.proofs.pairs_fit.Goals as goal

abbrev fits : List ℕ → Bool
fits p = between (get_or p 0 0) 2400000000 (get_or p 1 0)

behind : (xs : List ℕ) (i : ℕ) → pair_fits (drop 2 xs) i ≡ pair_fits xs (suc i)
behind xs i = grind (arith, get_or-drop)

each_pair : (xs : List ℕ) (n : ℕ) → list_all fits (first_chunks 2 n xs) ≡ every n (pair_fits xs)
unfolding every
each_pair xs zero = refl
each_pair xs (suc n) =
    ap₂ (λ a b. a && b) (grind (arith, get_or-take)) (each_pair (drop 2 xs) n ∙ every_alike _ _ n (λ i h. behind xs i))
    ∙ sym (every_first (pair_fits xs) n)

pub returns : goal.returns
returns c =
    let xs = c.args.charges in
    let size : length xs ≡ 112 = search rules in
    let pairs = c.iter.ensures.rest ∙ c.as_chunks.ensures.front ∙ ap (λ n. first_chunks 2 (n / 2) xs) size in
    all_from_yields_List fits _ _ _ c.all.ensures.ran (YieldsList-from_slice (first_chunks 2 56 xs) pairs) (λ x b q k. search (rules, tests)) ∙ each_pair xs 56
