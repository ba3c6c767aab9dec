-- `image_sheets::fallen` meets its contract. The invariant: the set of the places passed, and the bit of the next.
-- Assumes nothing.
use mathlib.Core.Path.{◌≡◌, refl, ◌∙◌, ap₂}
use mathlib.Core.Bool.{cond}
use mathlib.Core.List.{List}
use Prim.Native.Nat.{ℕ, suc, ◌+◌, ◌^◌, ◌≤◌, ◌<◌}
use native.Mathlib.Nat.{pow-suc}
use native.Mathlib.Numerals.{add-one}
use native.Mathlib.Omega.{arith}
use lib.Pow.{pow_mono}
use Rattle.laws.specs.Notions.{set_of}
use Rattle.laws.proofs.Sets.{set_below, set_more}
use Rattle.benchmark.specs.declared.Benchmarks.{Benchmarks}
use Rattle.book.specs.declared.Place.{Place}
use Rattle.book.specs.Book.{under}
use Rattle.trial.specs.Places.{fell}
use Rattle.image.specs.Layout.{start_of}
use Rattle.image.specs.Image.{place_at}
use Rattle.image_sheets.proofs.Telling.{fell_there, falls_at}
use Rattle.image_sheets.proofs.fallen.Goals as goal

pub loop-i-init : goal.loop-i-init
unfolding set_of
loop-i-init c = (refl, refl)

-- what a turn adds makes the set of one place more
turn :
    (l : List ℕ) (f : Benchmarks) (i at bit codes added : ℕ) (p q : Place) → i < 32 → at ≡ start_of i → p ≡ place_at l at → q ≡ under f p
    → bit ≡ 2 ^ i → codes ≡ set_of i (λ j. falls_at l f (suc j)) → added ≡ cond (fell p q) bit 0 → codes + added ≡ set_of (i + 1) (λ j. falls_at l f (suc j))
turn l f i at bit codes added p q h e g k b s a =
    ap₂ ◌+◌ s (a ∙ ap₂ (λ t n. cond t n 0) (fell_there l f i at p q h e g k) b) ∙ set_more (λ j. falls_at l f (suc j)) i

pub overflow_add-codes : goal.overflow_add-codes
overflow_add-codes c =
    let more = turn _ _ _ _ _ _ _ _ _ c.loop-i-test.true c.start_of.ensures.0 c.place_at-p.ensures c.judged-q.ensures c.loop-i.invariant.0 c.loop-i.invariant.1 c.bit_if_fell-codes.ensures in
    -- at most 2 ^ 32
    let fits : 2 ^ (c.loop-i.i + 1) ≤ 4294967296 = pow_mono {j = 32} (omega arith) in
    omega (arith, more, set_below (c.loop-i.i + 1) (λ j. falls_at c.args.image.now c.args.figures (suc j)), fits)

pub loop-i-preserved : goal.loop-i-preserved
loop-i-preserved c = (
  rw (add-one, pow-suc, c.loop-i.invariant.0) refl,
  turn _ _ _ _ _ _ _ _ _ c.loop-i-test.true c.start_of.ensures.0 c.place_at-p.ensures c.judged-q.ensures c.loop-i.invariant.0 c.loop-i.invariant.1 c.bit_if_fell-codes.ensures,
)

pub overflow_cast-result : goal.overflow_cast-result
overflow_cast-result c =
    let all : c.loop-i.i ≡ 32 = omega arith in
    omega (arith, rw all at c.loop-i.invariant.1, set_below 32 (λ j. falls_at c.args.image.now c.args.figures (suc j)))
