-- What the comparison at the worst months says of every list of t months.
-- Assumes nothing.
use mathlib.Core.Path.{◌≡◌, refl, sym, ◌∙◌, ap}
use mathlib.Core.Bool.{Bool, true, false}
use mathlib.Core.List.{List, ◌++◌}
use Prim.Native.Nat.{ℕ, zero, suc, ◌+◌, ◌-◌, ◌*◌, ◌<◌, ◌≤◌}
use native.Mathlib.Omega.{arith}
use lib.Dec.{ltb}
use lib.IntN.{pos}
use lib.ListN.{get_or, take, drop, replicate, length-replicate}
use lib.Seq.{take_at, get_or-drop}
use borrow.Author.Tests.{lt-ltb, le-ltb, ltb-true, ltb-false}
use Rattle.laws.proofs.Differences.{no_less}
use Rattle.laws.proofs.Lists.{noughts}
use Rattle.laws.proofs.Sums.{total_same}
use Rattle.tariff.specs.declared.Tariff.{Tariff}
use Rattle.charge.specs.Most.{months_most}
use Rattle.cap.specs.declared.CellNumbers.{CellNumbers}
use Rattle.cap.specs.declared.Comparison.{Comparison}
use Rattle.cap.specs.Cap.{charged, capped, excess, Exceeds, worst_month, worst_months}
use Rattle.cap.specs.Decided.{decided}
use Rattle.cap.proofs.Decided.{exceeds?}
use Rattle.cap.specs.Deciding.{month_charged, month_capped, fixed_charged, fixed_capped}
use Rattle.cap.proofs.Deciding.{charged_monthly, capped_monthly, exceeds_if, only_if, worst_months_lem}
use Rattle.cap.specs.Corners.{room, Compares, Carries}
use Rattle.cap.proofs.Worst.{exceeds_at_worst}

-- a decision and what it decides
pub decided_yes : {P : Type 0} (d : Dec P) → decided d ≡ true → P
decided_yes (yes p) e = p
decided_yes (no p) e = absurd (let z : ◌≡◌ {A = ℕ} 0 1 = cc in omega arith)

pub yes_decided : {P : Type 0} (d : Dec P) → P → decided d ≡ true
yes_decided (yes p) h = refl
yes_decided (no p) h = absurd (p h)

pub no_decided : {P : Type 0} (d : Dec P) → (P → ⊥) → decided d ≡ false
no_decided (yes p) h = absurd (h p)
no_decided (no p) h = refl

-- a test that holds exactly where P does is the decision of P
pub is_decided : {P : Type 0} (d : Dec P) (t : Bool) → (t ≡ true → P) → (P → t ≡ true) → t ≡ decided d
is_decided (yes p) t f g = g p
is_decided (no p) true f g = absurd (p (f refl))
is_decided (no p) false f g = refl

module _ (e : CellNumbers) (x : Tariff) where
  -- the decision is the comparison at the worst months
  pub decided_at_worst : decided (exceeds? e x) ≡ ltb (capped e (worst_months e x)) (charged e x (worst_months e x))
  decided_at_worst = go (ltb (capped e (worst_months e x)) (charged e x (worst_months e x))) refl
    where
      go : (t : Bool) → ltb (capped e (worst_months e x)) (charged e x (worst_months e x)) ≡ t → decided (exceeds? e x) ≡ t
      go true p =
          yes_decided (exceeds? e x)
          (worst_months e x, worst_months_lem e x, exceeds_if e x (worst_months e x) (ltb-true (capped e (worst_months e x)) (charged e x (worst_months e x)) p))
      go false p =
          no_decided (exceeds? e x)
          (λ h. absurd (omega (arith, ltb-false (capped e (worst_months e x)) (charged e x (worst_months e x)) p, only_if e x (worst_months e x) (exceeds_at_worst e x h))))

  -- both sides are those of the worst months, raised by as much
  pub both_raised : (raised : ℕ) → raised + month_capped e (worst_month e x) ≡ month_charged e x (worst_month e x) + room
      → fixed_charged e + e.months * raised + capped e (worst_months e x) ≡ charged e x (worst_months e x) + (fixed_capped e + e.months * room)
  unfolding worst_months
  both_raised raised is =
      omega (
        arith,
        ap (λ (y : ℕ). e.months * y) is,
        charged_monthly e x (worst_months e x),
        total_same (month_charged e x) e.months (worst_month e x),
        capped_monthly e x (worst_months e x),
        total_same (month_capped e) e.months (worst_month e x),
      )

  module _ (w : Comparison) (h : Compares e x w) where
    -- so they compare as the two sides do
    pub compares : ltb w.capped w.charged ≡ decided (exceeds? e x)
    compares = go (ltb w.capped w.charged) refl ∙ sym decided_at_worst
      where
        go : (t : Bool) → ltb w.capped w.charged ≡ t → t ≡ ltb (capped e (worst_months e x)) (charged e x (worst_months e x))
        go true p = sym (lt-ltb (capped e (worst_months e x)) (charged e x (worst_months e x)) (omega (arith, ltb-true w.capped w.charged p, h.raised)))
        go false p = sym (le-ltb (capped e (worst_months e x)) (charged e x (worst_months e x)) (omega (arith, ltb-false w.capped w.charged p, h.raised)))

    pub below : Exceeds e x → w.capped < w.charged
    below k = omega (arith, h.raised, only_if e x (worst_months e x) (exceeds_at_worst e x k))

    excess_is : Exceeds e x → pos (w.charged - w.capped) ≡ excess e x (worst_months e x)
    unfolding excess
    excess_is k =
        let d : w.charged - w.capped ≡ charged e x (worst_months e x) - capped e (worst_months e x) = omega (arith, h.raised, below k) in
        sym (rw d (no_less _ _ (omega (arith, h.raised, below k))))

-- t months alike and zeros after them
months_taken : (t month : ℕ) (rest : List ℕ) → take t (replicate t month ++ rest) ≡ replicate t month
months_taken t month rest = take_at (replicate t month) rest t (length-replicate t month)

past_months : (t month : ℕ) (rest : List ℕ) → ((j : ℕ) → get_or rest j 0 ≡ 0) → (i : ℕ) → t ≤ i → get_or (replicate t month ++ rest) i 0 ≡ 0
past_months zero month rest z i h = z i
past_months (suc t) month rest z zero h = absurd (omega arith)
past_months (suc t) month rest z (suc i) h = past_months t month rest z i (omega arith)

rest_zero : (t month n i : ℕ) → t ≤ i → ◌≡◌ {A = ℕ} (get_or (replicate t month ++ drop t (replicate n 0)) i 0) 0
rest_zero t month n = past_months t month (drop t (replicate n 0)) (λ j. get_or-drop t (replicate n 0) j 0 ∙ noughts n (t + j))

pub worst_carried : (e : CellNumbers) (x : Tariff) (w : Comparison) → Compares e x w → Exceeds e x → (months : List ℕ)
    → months ≡ replicate e.months w.month ++ drop e.months (replicate months_most 0)
    → Carries e x (record { months = months; excess = w.charged - w.capped })
unfolding worst_months
worst_carried e x w h k months is =
    record {
      months = ap (take e.months) is ∙ months_taken e.months w.month _ ∙ ap (replicate e.months) h.month_is;
      rest = λ i l. ap (λ (ms : List ℕ). get_or ms i 0) is ∙ rest_zero e.months w.month months_most i l;
      excess_is = excess_is e x w h k;
    }
