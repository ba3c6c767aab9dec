-- The walk over the cells, one step at a time.
-- Assumes nothing.
use mathlib.Core.Path.{◌≡◌, refl, sym, ◌∙◌, ap, ap₂, subst, subst₂}
use mathlib.Core.Bool.{Bool, true, false, cond, ◌&&◌, and-false}
use mathlib.Core.Option.{none, some}
use Prim.Native.Nat.{ℕ, suc, ◌+◌, ◌*◌, ◌-◌, ◌<◌, ◌≤◌}
use native.Mathlib.Nat.{add-zero}
use native.Mathlib.Omega.{arith}
use lib.Dec.{eqb}
use lib.IntN.{pos}
use lib.ListN.{get_or, take}
use Rattle.laws.specs.Notions.{bit}
use Rattle.benchmark.specs.declared.Benchmarks.{Benchmarks}
use Rattle.benchmark.specs.Benchmark.{figure_index}
use Rattle.benchmark.specs.Lawful.{Lawful}
use Rattle.tariff.specs.declared.Tariff.{Tariff}
use Rattle.tariff.specs.Tariff.{standing_most, standing_in, valid_tariff}
use Rattle.tariff.proofs.Validity.{valid_standing_in}
use Rattle.charge.specs.Charge.{arrangement}
use Rattle.cap.specs.declared.CellNumbers.{CellNumbers}
use Rattle.cap.specs.declared.Corners.{Corners}
use Rattle.cap.specs.declared.WorstCase.{WorstCase}
use Rattle.cap.specs.Decided.{decided}
use Rattle.cap.proofs.Decided.{exceeds?}
use Rattle.cap.specs.Corners.{Fits, Cornered, Carries}
use Rattle.verdict.specs.declared.Found.TheVariants as found
use Rattle.verdict.specs.Cells.{Cell, offered, cell_numbers, tariff_numbers, exceeds_at, first_below, first_over, cell_count, opens, over, verdict_at, verdict, cell}
use Rattle.verdict.specs.Rulings.{Finds}
use Rattle.verdict.proofs.Meaning.{cell_at_rank, below_none, below_here, below_later}

-- arrangement 0 or 1
pub arrangement_small : (x : Tariff) → arrangement x < 2
unfolding arrangement
arrangement_small x = go (eqb x.kind 1)
  where
    go : (t : Bool) → cond t 0 1 < 2
    go true = omega arith
    go false = omega arith

-- the numbers of a cell fit
pub numbers_fit : (b : Benchmarks) → Lawful b → (r a p standing : ℕ) → r < 14 → a < 2 → p < 2 → standing ≤ standing_most
    → Fits (cell_numbers b a standing (cell r p))
unfolding cell_numbers
numbers_fit b h r a p standing hr ha hp hs =
    let j : 4 * r + 2 * a + p < 56 = omega arith in
    let low : 2 * (4 * r + 2 * a + p) ≡ 8 * r + 4 * a + 2 * p + 0 = omega arith in
    let up : 2 * (4 * r + 2 * a + p) + 1 ≡ 8 * r + 4 * a + 2 * p + 1 = omega arith in
    record {
      ordered = subst₂ (λ (i k : ℕ). get_or b.charges i 0 ≤ get_or b.charges k 0) low up (h.nil_at_most_m (4 * r + 2 * a + p) j);
      upper_most = h.charges_most (8 * r + 4 * a + 2 * p + 1);
      m_most = h.level_most_lem a;
      months_most_lem = h.months_most_lem;
      days_most_lem = h.days_most_lem;
      standing_most_lem = hs;
      peak_most = h.peak_most;
    }

-- what the code reads is the numbers of the cell
pub numbers_are : (b : Benchmarks) (r a p standing at : ℕ) (e : CellNumbers) → at ≡ figure_index r a p 0
    → e.lower ≡ get_or b.charges at 0 → e.upper ≡ get_or b.charges (at + 1) 0 → e.m ≡ get_or b.levels a 0
    → e.months ≡ b.months → e.days ≡ b.days → e.standing ≡ standing → e.peak ≡ b.peak → e ≡ cell_numbers b a standing (cell r p)
unfolding cell_numbers
numbers_are b r a p standing at e is low up m t d s k =
    let next : at + 1 ≡ figure_index r a p 1 = omega arith in
    let l : e.lower ≡ get_or b.charges (figure_index r a p 0) 0 = low ∙ ap (λ (i : ℕ). get_or b.charges i 0) is in
    let u : e.upper ≡ get_or b.charges (figure_index r a p 1) 0 = up ∙ ap (λ (i : ℕ). get_or b.charges i 0) next in
    λ i. record { lower = l i; upper = u i; m = m i; months = t i; days = d i; standing = s i; peak = k i }

-- the numbers of a tariff's cell, as the code reads them: they fit, and the corners of the tariff are those that it has there
pub cell_read : (b : Benchmarks) (x : Tariff) → Lawful b → valid_tariff x ≡ true → (r p a : ℕ) → r < 14 → p < 2 → a ≡ arrangement x
    → (s : ℕ) → s ≡ standing_in x r → (e : CellNumbers) → e ≡ cell_numbers b a s (cell r p) → (m : ℕ) (k : Corners) → m ≡ get_or b.levels a 0 → Cornered b.peak x m k
    → (e ≡ tariff_numbers b x (cell r p)) × Cornered e.peak x e.m k × Fits e
unfolding cell_numbers
cell_read b x h v r p a hr hp ia s js e is m k l c =
    let same : e ≡ tariff_numbers b x (cell r p) = is ∙ ap₂ (λ (i j : ℕ). cell_numbers b i j (cell r p)) ia js in (
      same,
      subst (λ (d : CellNumbers). Cornered d.peak x d.m k) (sym is) (subst (λ (n : ℕ). Cornered b.peak x n k) l c),
      subst Fits (sym same) (numbers_fit b h r (arrangement x) p (standing_in x r) hr (arrangement_small x) hp (valid_standing_in x r v hr)),
    )

module _ (b : Benchmarks) (x : Tariff) where
  -- no hit at a cell that is not offered
  region_off : (r p : ℕ) → bit x.regions r ≡ false → offered x (cell r p) ≡ false
  unfolding offered
  region_off r p e = rw e

  method_off : (r p : ℕ) → bit x.methods p ≡ false → offered x (cell r p) ≡ false
  unfolding offered
  method_off r p e = rw e (and-false (bit x.regions r))

  cell_on : (r p : ℕ) → bit x.regions r ≡ true → bit x.methods p ≡ true → offered x (cell r p) ≡ true
  unfolding offered
  cell_on r p e f = rw (e, f)

  not_offered : (r p : ℕ) → p < 2 → offered x (cell r p) ≡ false → exceeds_at b x (2 * r + p) ≡ false
  unfolding exceeds_at
  not_offered r p h e = rw (cell_at_rank (cell r p) h, e) refl

  pub not_region : (r p : ℕ) → p < 2 → bit x.regions r ≡ false → exceeds_at b x (2 * r + p) ≡ false
  not_region r p h e = not_offered r p h (region_off r p e)

  pub not_method : (r p : ℕ) → p < 2 → bit x.methods p ≡ false → exceeds_at b x (2 * r + p) ≡ false
  not_method r p h e = not_offered r p h (method_off r p e)

  -- at one that is, the decision
  pub in_cell : (r p : ℕ) → p < 2 → bit x.regions r ≡ true → bit x.methods p ≡ true → (e : CellNumbers) → e ≡ tariff_numbers b x (cell r p)
      → (t : Bool) → t ≡ decided (exceeds? e x) → exceeds_at b x (2 * r + p) ≡ t
  unfolding exceeds_at
  in_cell r p h er ep e is t d =
      ap (λ (k : Cell). offered x k && decided (exceeds? (tariff_numbers b x k) x)) (cell_at_rank (cell r p) h)
      ∙ ap (λ (q : Bool). q && decided (exceeds? (tariff_numbers b x (cell r p)) x)) (cell_on r p er ep)
      ∙ ap (λ (y : CellNumbers). decided (exceeds? y x)) (sym is)
      ∙ sym d

  -- one cell further
  pub passed : (r p : ℕ) → first_below b x (2 * r + p) ≡ none → exceeds_at b x (2 * r + p) ≡ false → first_below b x (2 * r + (p + 1)) ≡ none
  passed r p e h = let n : 2 * r + (p + 1) ≡ suc (2 * r + p) = omega arith in rw n (below_none b x (2 * r + p) e h)

  pub region_starts : (r : ℕ) → first_below b x (2 * r) ≡ none → first_below b x (2 * r + 0) ≡ none
  region_starts r e = rw add-zero e

  pub region_ends : (r p : ℕ) → p ≤ 2 → 2 ≤ p → first_below b x (2 * r + p) ≡ none → first_below b x (2 * (r + 1)) ≡ none
  region_ends r p h k e = let n : 2 * r + p ≡ 2 * (r + 1) = omega arith in rw n at e

  pub region_passed : (r : ℕ) → bit x.regions r ≡ false → first_below b x (2 * r) ≡ none → first_below b x (2 * (r + 1)) ≡ none
  region_passed r h e =
      region_ends r 2 (omega arith) (omega arith)
      (passed r 1 (passed r 0 (region_starts r e) (not_region r 0 (omega arith) h)) (not_region r 1 (omega arith) h))

  -- the end of the walk
  pub walked : (r : ℕ) → r ≤ 14 → 14 ≤ r → first_below b x (2 * r) ≡ none → Finds b x found.Nowhere
  unfolding first_over
  walked r h k e = let n : 2 * r ≡ 28 = omega arith in rw n at e

  -- or a cell that exceeds
  pub over_cell : (r p : ℕ) → r < 14 → p < 2 → first_below b x (2 * r + p) ≡ none → exceeds_at b x (2 * r + p) ≡ true → Finds b x (found.Over r p)
  unfolding first_over
  over_cell r p hr hp e hit =
      let here : first_below b x (suc (2 * r + p)) ≡ some (cell r p) = below_here b x (2 * r + p) e hit ∙ ap some (cell_at_rank (cell r p) hp) in
      let n : (27 - (2 * r + p)) + suc (2 * r + p) ≡ 28 = omega arith in
      rw n at (below_later b x (27 - (2 * r + p)) (suc (2 * r + p)) (cell r p) here)

  -- the verdict by what the walk found
  pub opens_verdict : (n : ℕ) → Finds b x found.Nowhere → n ≡ cell_count x → opens n ≡ verdict b x
  unfolding verdict
  opens_verdict n f e = ap opens e ∙ sym (ap (verdict_at b x) f)

  pub over_verdict : (r p : ℕ) (w : WorstCase) → Finds b x (found.Over r p) → Carries (tariff_numbers b x (cell r p)) x w
      → (over (cell r p) (take b.months w.months) (pos w.excess) ≡ verdict b x) × ((i : ℕ) → b.months ≤ i → get_or w.months i 0 ≡ 0)
  unfolding verdict cell_numbers
  over_verdict r p w f h = (ap₂ (over (cell r p)) h.months h.excess_is ∙ sym (ap (verdict_at b x) f), h.rest)
