-- A tariff that a desk may use is offered in the desk's regions alone: each of its cells is in one of them.
-- Assumes nothing.
use mathlib.Core.Path.{◌≡◌, refl}
use mathlib.Core.Bool.{Bool, true, false, not, ◌&&◌, ◌||◌}
use Prim.Native.Nat.{ℕ}
use lib.Dec.{ltb}
use borrow.Author.Tests.{eqb-true, lt-ltb}
use Rattle.laws.specs.Notions.{every, bit}
use Rattle.laws.proofs.Every.{and_left, and_right, and_both, every_at}
use Rattle.tariff.specs.declared.Tariff.{Tariff}
use Rattle.tariff.specs.Tariff.{all_fourteen}
use Rattle.desks.specs.Desks.{is_full, is_desk, in_desk, covers, may_use}
use Rattle.verdict.specs.Cells.{Cell, offered, Offered}

-- the desk with all fourteen covers all
all_covered : (regions : ℕ) → covers all_fourteen regions ≡ true
unfolding covers every bit
all_covered regions = refl

used_covered : (desk regions : ℕ) → may_use desk regions ≡ true → covers desk regions ≡ true
used_covered desk regions e = go (is_full desk) refl e
  where
    go : (t : Bool) → is_full desk ≡ t → (t || covers desk regions) ≡ true → covers desk regions ≡ true
    go true q h = rw (eqb-true desk all_fourteen q) (all_covered regions)
    go false q h = h

-- the first of two tests, or not the second: where the second holds, so does the first
first_holds : (s t : Bool) → (s || not t) ≡ true → t ≡ true → s ≡ true
first_holds true t e h = refl
first_holds false true e h = e
first_holds false false e h = h

pub cell_inside : (desk : ℕ) (x : Tariff) (c : Cell) → may_use desk x.regions ≡ true → Offered x c → in_desk desk c.region ≡ true
unfolding in_desk covers offered
cell_inside desk x c e o =
    let r = c.region in
    let regions = x.regions in
    let test : ℕ → Bool = λ i. bit desk i || not (bit regions i) in
    let all = used_covered desk regions e in
    let here = every_at test 14 (and_right (is_desk desk) (every 14 test) all) r o.0 in
    let mine = first_holds (bit desk r) (bit regions r) here (and_left (bit regions r) (bit x.methods c.method) o.2) in
    and_both (ltb r 14) (is_desk desk && bit desk r) (lt-ltb r 14 o.0) (and_both (is_desk desk) (bit desk r) (and_left (is_desk desk) (every 14 test) all) mine)
