-- What a valid tariff keeps to, by its parts and by its kind.
-- Assumes nothing.
use mathlib.Core.Path.{◌≡◌, refl}
use mathlib.Core.Bool.{Bool, true, false, cond, ◌&&◌, ◌||◌}
use mathlib.Core.List.{List}
use Prim.Native.Nat.{ℕ, ◌+◌, ◌-◌, ◌<◌, ◌≤◌}
use native.Mathlib.Omega.{arith}
use lib.Dec.{leb, ltb, eqb}
use lib.ListN.{get_or, take}
use borrow.Author.Tests.{leb-true, ltb-true, eqb-true}
use Rattle.laws.specs.Notions.{every, sum, bit}
use Rattle.laws.proofs.Every.{and_left, and_right, every_at}
use Rattle.shares.specs.Shares.{whole_share}
use Rattle.tariff.specs.declared.Tariff.{Tariff}
use Rattle.fours.specs.Fours.{zero_from, within, rising}
use Rattle.tariff.specs.Tariff.{all_fourteen, rate_most, standing_most, step_most, standing_in, rates_within, single_register, economy7, multi_register, valid_kind, region_fits, valid_tariff}

-- the parts of joined tests that hold
three : (a b c : Bool) → (a && b && c) ≡ true → (a ≡ true) × (b ≡ true) × (c ≡ true)
three a b c e =
    let ab : (a && b) ≡ true = and_left (a && b) c e in
    (and_left a b ab, and_right a b ab, and_right (a && b) c e)

six : (a b c d f k : Bool) → (a && b && c && d && f && k) ≡ true → (a ≡ true) × (b ≡ true) × (c ≡ true) × (d ≡ true) × (f ≡ true) × (k ≡ true)
six a b c d f k e =
    let l = three (a && b && c && d) f k e in
    let p = three (a && b) c d l.0 in
    (and_left a b p.0, and_right a b p.0, p.1, p.2, l.1, l.2)

-- a number between two others
between : (low a high : ℕ) → (leb low a && leb a high) ≡ true → (low ≤ a) × (a ≤ high)
between low a high e = (leb-true low a (and_left (leb low a) (leb a high) e), leb-true a high (and_right (leb low a) (leb a high) e))

parts : (x : Tariff) → valid_tariff x ≡ true
    → (leb x.standing standing_most ≡ true)
    × ((leb 1 x.regions && leb x.regions all_fourteen) ≡ true)
    × ((leb 1 x.methods && leb x.methods 3) ≡ true)
    × (rates_within x.rates ≡ true)
    × (every 14 (region_fits x) ≡ true)
    × (valid_kind x ≡ true)
unfolding valid_tariff
parts x v =
    six (leb x.standing standing_most) (leb 1 x.regions && leb x.regions all_fourteen) (leb 1 x.methods && leb x.methods 3) (rates_within x.rates) (every 14 (region_fits x)) (valid_kind x) v

pub valid_regions : (x : Tariff) → valid_tariff x ≡ true → (1 ≤ x.regions) × (x.regions ≤ all_fourteen)
valid_regions x v = between 1 x.regions all_fourteen (parts x v).1

pub valid_methods : (x : Tariff) → valid_tariff x ≡ true → (1 ≤ x.methods) × (x.methods ≤ 3)
valid_methods x v = between 1 x.methods 3 (parts x v).2

pub valid_rates : (x : Tariff) → valid_tariff x ≡ true → rates_within x.rates ≡ true
valid_rates x v = (parts x v).3

pub valid_kind_lem : (x : Tariff) → valid_tariff x ≡ true → valid_kind x ≡ true
valid_kind_lem x v = (parts x v).5

-- in each region: a standing charge of 0 to 1,000,000, and no number where it is not offered
region_parts : (x : Tariff) (r : ℕ) → valid_tariff x ≡ true → r < 14
    → (leb (standing_in x r) standing_most ≡ true) × ((bit x.regions r || eqb (get_or x.regional r 0) 0) ≡ true)
unfolding region_fits
region_parts x r v h =
    let e : region_fits x r ≡ true = every_at (region_fits x) 14 (parts x v).4 r h in
    let s : Bool = leb (standing_in x r) standing_most in
    let t : Bool = bit x.regions r || eqb (get_or x.regional r 0) 0 in
    (and_left s t e, and_right s t e)

pub valid_standing_in : (x : Tariff) (r : ℕ) → valid_tariff x ≡ true → r < 14 → standing_in x r ≤ standing_most
valid_standing_in x r v h = leb-true (standing_in x r) standing_most (region_parts x r v h).0

pub valid_not_offered : (x : Tariff) (r : ℕ) → valid_tariff x ≡ true → r < 14 → bit x.regions r ≡ false → get_or x.regional r 0 ≡ 0
valid_not_offered x r v h off = eqb-true (get_or x.regional r 0) 0 (rw off at (region_parts x r v h).1)

pub within_at : (a : List ℕ) (k low high : ℕ) → within a k low high ≡ true → (i : ℕ) → i < k → (low ≤ get_or a i 0) × (get_or a i 0 ≤ high)
unfolding within
within_at a k low high e i h = between low (get_or a i 0) high (every_at (λ i. leb low (get_or a i 0) && leb (get_or a i 0) high) k e i h)

pub rates_at : (rates : List ℕ) → rates_within rates ≡ true → (i : ℕ) → i < 4 → get_or rates i 0 ≤ rate_most
unfolding rates_within
rates_at rates e i h = (within_at rates 4 0 rate_most e i h).1

pub rising_at : (a : List ℕ) (k : ℕ) → rising a k ≡ true → (i : ℕ) → i + 1 < k → get_or a i 0 < get_or a (i + 1) 0
unfolding rising
rising_at a k e i h =
    ltb-true (get_or a i 0) (get_or a (i + 1) 0) (every_at (λ i. ltb (get_or a i 0) (get_or a (i + 1) 0)) (k - 1) e i (omega arith))

-- the kind is 1, 2 or 3
by_test : {P : Type 0} (x : Tariff) (a b c : Bool) → eqb x.kind 1 ≡ a → eqb x.kind 2 ≡ b → eqb x.kind 3 ≡ c
    → cond a (single_register x) (cond b (economy7 x) (cond c (multi_register x) false)) ≡ true
    → (x.kind ≡ 1 → P) → (x.kind ≡ 2 → P) → (x.kind ≡ 3 → P) → P
by_test x true b c p q r e f g h = f (eqb-true x.kind 1 p)
by_test x false true c p q r e f g h = g (eqb-true x.kind 2 q)
by_test x false false true p q r e f g h = h (eqb-true x.kind 3 r)
by_test x false false false p q r e f g h = absurd (let z : ◌≡◌ {A = ℕ} 0 1 = cc in omega arith)

pub by_kind : {P : Type 0} (x : Tariff) → valid_tariff x ≡ true → (x.kind ≡ 1 → P) → (x.kind ≡ 2 → P) → (x.kind ≡ 3 → P) → P
unfolding valid_kind
by_kind x v f g h = by_test x (eqb x.kind 1) (eqb x.kind 2) (eqb x.kind 3) refl refl refl (valid_kind_lem x v) f g h

-- kind 1: n from 1 to 4, and n - 1 steps from 1 to 9,999 that rise
pub valid_single : (x : Tariff) → valid_tariff x ≡ true → x.kind ≡ 1
    → (1 ≤ x.n) × (x.n ≤ 4) × (within x.steps (x.n - 1) 1 step_most ≡ true) × (rising x.steps (x.n - 1) ≡ true)
unfolding valid_kind single_register
valid_single x v k =
    let e : valid_kind x ≡ true = valid_kind_lem x v in
    let s : single_register x ≡ true = rw k at e in
    let steps : Bool = within x.steps (x.n - 1) 1 step_most && rising x.steps (x.n - 1) && zero_from x.rates x.n in
    let h = three (leb 1 x.n) (leb x.n 4) (steps && zero_from x.steps (x.n - 1)) s in
    let w = three (within x.steps (x.n - 1) 1 step_most) (rising x.steps (x.n - 1)) (zero_from x.rates x.n) (and_left steps (zero_from x.steps (x.n - 1)) h.2) in
    (leb-true 1 x.n h.0, leb-true x.n 4 h.1, w.0, w.1)

-- kind 2: two rates
pub valid_economy7 : (x : Tariff) → valid_tariff x ≡ true → x.kind ≡ 2 → x.n ≡ 2
unfolding valid_kind economy7
valid_economy7 x v k =
    let e : valid_kind x ≡ true = valid_kind_lem x v in
    let s : economy7 x ≡ true = rw k at e in
    eqb-true x.n 2 (three (eqb x.n 2) (zero_from x.rates 2) (zero_from x.steps 0) s).0

-- kind 3: n from 2 to 4, and n shares that add up to the whole
pub valid_multi : (x : Tariff) → valid_tariff x ≡ true → x.kind ≡ 3 → (2 ≤ x.n) × (x.n ≤ 4) × (sum (take x.n x.steps) ≡ whole_share)
unfolding valid_kind multi_register
valid_multi x v k =
    let e : valid_kind x ≡ true = valid_kind_lem x v in
    let s : multi_register x ≡ true = rw k at e in
    let steps : Bool = within x.steps x.n 0 whole_share && eqb (sum (take x.n x.steps)) whole_share && zero_from x.rates x.n in
    let h = three (leb 2 x.n) (leb x.n 4) (steps && zero_from x.steps x.n) s in
    let w = three (within x.steps x.n 0 whole_share) (eqb (sum (take x.n x.steps)) whole_share) (zero_from x.rates x.n) (and_left steps (zero_from x.steps x.n) h.2) in
    (leb-true 2 x.n h.0, leb-true x.n 4 h.1, eqb-true (sum (take x.n x.steps)) whole_share w.1)

-- of each kind, n is from 1 to 4
pub valid_n : (x : Tariff) → valid_tariff x ≡ true → (1 ≤ x.n) × (x.n ≤ 4)
valid_n x v =
    by_kind x v
    (λ k. ((valid_single x v k).0, (valid_single x v k).1))
    (λ k. (omega (arith, valid_economy7 x v k), omega (arith, valid_economy7 x v k)))
    (λ k. (omega (arith, (valid_multi x v k).0), (valid_multi x v k).1))
