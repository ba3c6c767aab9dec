-- `charge::weighted_rate` meets its contract. The shares come to the whole, which bounds it.
-- Assumes nothing.
use Rattle.std.proofs.Common.{◌≡◌, true, ℕ, ◌+◌, ◌*◌, ◌<◌, ◌≤◌, List, [], ◌∷◌, take, arith, rules, refl, ap, ◌∙◌}
use Rattle.std.specs.List.{sum_by, zip}
use Rattle.std.proofs.lemmas.List.Sums.{sum_by-cons}
use Rattle.std.proofs.lemmas.Iterator.{YieldsList-from_slice, YieldsList-from_zip, YieldsList-from_map}
use Rattle.std.proofs.lemmas.Iterator.Consumers.{YieldsList-at, fits_by_from_yields_list, sum_by_from_yields_List}
use Rattle.laws.specs.Notions.{sum}
use Rattle.laws.proofs.Bounds.{take_most}
use Rattle.shares.specs.Shares.{whole_share, weighted}
use Rattle.shares.proofs.Weighted.{weighted_most}
use Rattle.tariff.specs.Tariff.{rate_most, rates_within}
use Rattle.tariff.proofs.Validity.{rates_at}
use Rattle.charge.specs.Most.{scaled_rate_most}
use Rattle.charge.proofs.weighted_rate.Goals as goal

-- shares that come to the whole bound what they weight
whole_most : (rates shares : List ℕ) (n : ℕ) → n ≤ 4 → rates_within rates ≡ true → sum (take n shares) ≡ whole_share
    → weighted (take n rates) (take n shares) ≤ scaled_rate_most
whole_most rates shares n h w s =
    let m = take_most rate_most n rates (λ i k. rates_at rates w i (omega arith)) in
    omega (arith, weighted_most rate_most (take n rates) (take n shares) m)

-- the weighted rate as the sum of the products
abbrev product : ℕ × ℕ → ℕ
product p = p.0 * p.1

products : (rs ps : List ℕ) → sum_by product (zip rs ps) ≡ weighted rs ps
unfolding weighted
products [] ps = refl
products (r ∷ rs) [] = refl
products (r ∷ rs) (p ∷ ps) = sum_by-cons product (r, p) (zip rs ps) ∙ ap (λ w. r * p + w) (products rs ps)

pub sum-requires-clause-fits : goal.sum-requires-clause-fits
sum-requires-clause-fits c =
    let a = c.args in
    let small : sum_by product (zip (take a.n a.rates) (take a.n a.shares)) < 18446744073709551616 =
    omega (arith, products (take a.n a.rates) (take a.n a.shares), whole_most a.rates a.shares a.n c.requires.0 c.requires.1 c.requires.2) in
    fits_by_from_yields_list product (zip (take a.n a.rates) (take a.n a.shares)) c.map.result _
    (YieldsList-from_map _ product
    (YieldsList-at c.map.ensures.source
    (YieldsList-from_zip
    (YieldsList-at c.zip.ensures.first (YieldsList-from_slice (take a.n a.rates) cc))
    (YieldsList-from_slice (take a.n a.shares) c.zip.ensures.second.0)))
    c.map.ensures.closure
    (λ x r q k. search rules))
    small

pub returns : goal.returns
returns c =
    let a = c.args in
    let e : c.sum.result ≡ sum_by product (zip (take a.n a.rates) (take a.n a.shares)) =
    sum_by_from_yields_List product (zip (take a.n a.rates) (take a.n a.shares)) c.map.result c.sum.result c.sum.ensures.ran
    (YieldsList-from_map _ product
    (YieldsList-at c.map.ensures.source
    (YieldsList-from_zip
    (YieldsList-at c.zip.ensures.first (YieldsList-from_slice (take a.n a.rates) cc))
    (YieldsList-from_slice (take a.n a.shares) c.zip.ensures.second.0)))
    c.map.ensures.closure
    (λ x r q k. search rules)) in
    let w : c.sum.result ≡ weighted (take a.n a.rates) (take a.n a.shares) = e ∙ products _ _ in
    (w, omega (arith, w, whole_most a.rates a.shares a.n c.requires.0 c.requires.1 c.requires.2))
