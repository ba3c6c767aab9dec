-- The order of OPEN's walk, and what the first cell that exceeds means for every offered cell.
-- Assumes nothing.
use mathlib.Core.Path.{◌≡◌, refl, sym, ◌∙◌, ap, ap₂, subst₂}
use mathlib.Core.Bool.{Bool, true, false, ◌&&◌}
use mathlib.Core.Logic.{◌↔◌, inl, inr}
use mathlib.Core.Option.{Option, none, some}
use Prim.Native.Nat.{ℕ, zero, suc, ◌+◌, ◌*◌, ◌/◌, ◌<◌}
use native.Mathlib.Decide.{dec_le, dec_lt}
use native.Mathlib.Omega.{arith}
use Rattle.laws.proofs.Every.{and_left, and_right, and_both}
use Rattle.benchmark.specs.declared.Benchmarks.{Benchmarks}
use Rattle.tariff.specs.declared.Tariff.{Tariff}
use Rattle.cap.specs.Decided.{decided}
use Rattle.cap.proofs.Decided.{exceeds?}
use Rattle.cap.proofs.Comparing.{decided_yes, yes_decided}
use Rattle.verdict.specs.Cells.{Cell, cell, offered, Offered, tariff_numbers, ExceedsIn, Before, cell_at, exceeds_at, first_of, first_below, first_over}

-- not both answers of a test
pub not_both : {b : Bool} → b ≡ true → b ≡ false → ⊥
not_both {b} p q = let e : true ≡ false = sym p ∙ q in let z : ◌≡◌ {A = ℕ} 0 1 = cc in omega arith

-- the place of a cell in the order
abbrev pub rank : Cell → ℕ
rank c = 2 * c.region + c.method

pub cell_at_rank : (c : Cell) → c.method < 2 → cell_at (rank c) ≡ c
cell_at_rank c h =
    let r : (cell_at (rank c)).region ≡ c.region = omega arith in
    let m : (cell_at (rank c)).method ≡ c.method = omega arith in
    ap₂ cell r m

pub rank_below : (c : Cell) → c.region < 14 → c.method < 2 → rank c < 28
rank_below c h k = omega arith

-- "by region, then method, both rising": `Before` is the order in which the walk takes the cells
pub in_order : (i j : ℕ) → (i < j) ↔ Before (cell_at i) (cell_at j)
in_order i j = (onward, back)
  where
    onward : i < j → Before (cell_at i) (cell_at j)
    onward h = elim (dec_lt (i / 2) (j / 2)) [
      | yes l ↦ inl l
      | no l ↦ inr (omega arith, omega arith)
    ]

    back : Before (cell_at i) (cell_at j) → i < j
    back (inl l) = omega arith
    back (inr l) = omega (arith, l.0, l.1)

module _ (b : Benchmarks) (x : Tariff) where
  -- what the walk answers of a prefix, one cell at a time
  pub below_none : (n : ℕ) → first_below b x n ≡ none → exceeds_at b x n ≡ false → first_below b x (suc n) ≡ none
  unfolding first_below
  below_none n e h = rw (e, h)

  pub below_here : (n : ℕ) → first_below b x n ≡ none → exceeds_at b x n ≡ true → first_below b x (suc n) ≡ some (cell_at n)
  unfolding first_below
  below_here n e h = rw (e, h)

  pub below_kept : (n : ℕ) (c : Cell) → first_below b x n ≡ some c → first_below b x (suc n) ≡ some c
  unfolding first_below
  below_kept n c e = rw e

  pub below_later : (k n : ℕ) (c : Cell) → first_below b x n ≡ some c → first_below b x (k + n) ≡ some c
  below_later zero n c e = let q : 0 + n ≡ n = omega arith in rw q e
  below_later (suc k) n c e = let q : suc k + n ≡ suc (k + n) = omega arith in rw q (below_kept (k + n) c (below_later k n c e))

  -- none below n: no cell below n exceeds
  step_back : (o : Option Cell) (t : Bool) (c : Cell) → first_of o t c ≡ none → (o ≡ none) × (t ≡ false)
  step_back (some d) t c e = absurd (let z : ◌≡◌ {A = ℕ} 0 1 = cc in omega arith)
  step_back none true c e = absurd (let z : ◌≡◌ {A = ℕ} 0 1 = cc in omega arith)
  step_back none false c e = (refl, refl)

  pub none_below : (n : ℕ) → first_below b x n ≡ none → (i : ℕ) → i < n → exceeds_at b x i ≡ false
  unfolding first_below
  none_below zero e i h = absurd (omega arith)
  none_below (suc n) e i h =
      let s = step_back (first_below b x n) (exceeds_at b x n) (cell_at n) e in
      elim (dec_le n i) [
        | yes k ↦ (let q : i ≡ n = omega arith in rw q s.1)
        | no k ↦ none_below n s.0 i (omega arith)
      ]

  -- some below n: one cell is the first
  abbrev pub First : ℕ → Cell → Type 0
  First n c = (i : ℕ) × (i < n) × (c ≡ cell_at i) × (first_below b x i ≡ none) × (exceeds_at b x i ≡ true)

  some_inj : {c d : Cell} → some c ≡ some d → c ≡ d
  some_inj e = cc

  look_back : (n : ℕ) (o : Option Cell) (t : Bool) (c : Cell) → first_below b x n ≡ o → exceeds_at b x n ≡ t → first_of o t (cell_at n) ≡ some c
      → ((d : Cell) → first_below b x n ≡ some d → First n d) → First (suc n) c
  look_back n (some d) t c p q e before =
      let f = before d p in (f.0, omega (arith, f.1), (let r : c ≡ d = some_inj (sym e) in r) ∙ f.2, f.3, f.4)
  look_back n none true c p q e before = (n, omega arith, some_inj (sym e), p, q)
  look_back n none false c p q e before = absurd (let z : ◌≡◌ {A = ℕ} 0 1 = cc in omega arith)

  pub some_below : (n : ℕ) (c : Cell) → first_below b x n ≡ some c → First n c
  unfolding first_below
  some_below zero c e = absurd (let z : ◌≡◌ {A = ℕ} 0 1 = cc in omega arith)
  some_below (suc n) c e = look_back n (first_below b x n) (exceeds_at b x n) c refl refl e (λ d p. some_below n d p)

  -- an offered cell that exceeds is a hit at its place
  pub hit : (c : Cell) → Offered x c → ExceedsIn b x c → exceeds_at b x (rank c) ≡ true
  unfolding exceeds_at
  hit c o h =
      ap (λ (d : Cell). offered x d && decided (exceeds? (tariff_numbers b x d) x)) (cell_at_rank c o.1)
      ∙ and_both (offered x c) (decided (exceeds? (tariff_numbers b x c) x)) o.2 (yes_decided (exceeds? (tariff_numbers b x c) x) h)

  pub hit_offered : (n : ℕ) → n < 28 → exceeds_at b x n ≡ true → Offered x (cell_at n)
  unfolding exceeds_at
  hit_offered n h e =
      (omega arith, omega arith, and_left (offered x (cell_at n)) (decided (exceeds? (tariff_numbers b x (cell_at n)) x)) e)

  pub hit_exceeds : (n : ℕ) → exceeds_at b x n ≡ true → ExceedsIn b x (cell_at n)
  unfolding exceeds_at
  hit_exceeds n e =
      decided_yes (exceeds? (tariff_numbers b x (cell_at n)) x)
      (and_right (offered x (cell_at n)) (decided (exceeds? (tariff_numbers b x (cell_at n)) x)) e)

  -- no cell is found: the tariff exceeds in no offered cell
  pub none_exceeds : first_over b x ≡ none → (c : Cell) → Offered x c → ExceedsIn b x c → ⊥
  unfolding first_over
  none_exceeds e c o h = not_both (hit c o h) (none_below 28 e (rank c) (rank_below c o.0 o.1))

  -- a cell is found: it is offered, the tariff exceeds there, and in no offered cell before it
  pub first_exceeds : (c : Cell) → first_over b x ≡ some c
      → Offered x c × ExceedsIn b x c × ((d : Cell) → Offered x d → Before d c → ExceedsIn b x d → ⊥)
  unfolding first_over
  first_exceeds c e =
      let f = some_below 28 c e in
      let o : Offered x c = rw f.2 (hit_offered f.0 f.1 f.4) in
      (o, rw f.2 (hit_exceeds f.0 f.4), λ d p l h. not_both (hit d p h) (none_below f.0 f.3 (rank d) (earlier d p l f.0 f.2)))
    where
      earlier : (d : Cell) → Offered x d → Before d c → (i : ℕ) → c ≡ cell_at i → rank d < i
      earlier d p l i q = (in_order (rank d) i).1 (subst₂ Before (sym (cell_at_rank d p.1)) q l)
