-- Shares that are raised by as much compare as the shares do.
-- Assumes nothing.
use mathlib.Core.Path.{◌≡◌, sym, ◌∙◌, ap}
use Prim.Native.Nat.{ℕ, ◌+◌, ◌*◌, ◌-◌, ◌<◌, ◌≤◌}
use native.Mathlib.Nat.{mul-le-mul}
use native.Mathlib.Omega.{arith}
use lib.ListN.{length, get_or}
use borrow.Author.Tests.{lt-ltb, le-ltb}
use Rattle.laws.proofs.Parts.{four}
use Rattle.laws.proofs.Greatest.{better, better_again}
use Rattle.laws.proofs.Pieces.{scan}
use Rattle.cap.specs.declared.Corners.{Corners}
use Rattle.cap.specs.declared.Share.{Share}
use Rattle.charge.specs.Charge.{month_most}
use Rattle.cap.specs.Corners.{slope_most, Priced, Raised, room}

-- what the cap allows for a month's kWh is at most the room
pub in_room : (slope at : ℕ) → slope ≤ slope_most → at ≤ month_most → slope * at ≤ room
in_room slope at h k = mul-le-mul h k

module _ (u : ℕ → ℕ) (slope at charged allowed : ℕ) (best : Share) (low : slope ≤ slope_most) (below : at ≤ month_most)
    (allowed-is : allowed ≡ slope * at) (is : Raised u slope best) (priced : charged ≡ u at) where
  -- a corner of greater share
  pub takes : best.raised < charged + room - allowed
      → Raised u slope (record { month = at; raised = charged + room - allowed }) × (at ≡ better u (λ kwh. slope * kwh) at best.month)
  takes h =
      let r = in_room slope at low below in
      let more : u best.month + slope * at < u at + slope * best.month = omega (arith, allowed-is, is.is, priced, r) in
      (record { within = below; is = omega (arith, allowed-is, priced, r) }, sym (simp (lt-ltb _ _ more)))

  -- and one that is not
  pub keeps : charged + room - allowed ≤ best.raised → Raised u slope best × (best.month ≡ better u (λ kwh. slope * kwh) at best.month)
  keeps h =
      let r = in_room slope at low below in
      let less : u at + slope * best.month ≤ u best.month + slope * at = omega (arith, allowed-is, is.is, priced, r) in
      (is, sym (simp (le-ltb _ _ less)))

-- no consumption at all, where it has no charge
pub none_raised : (u : ℕ → ℕ) (slope : ℕ) → u 0 ≡ 0 → Raised u slope (record { month = 0; raised = room })
none_raised u slope e = record { within = omega arith; is = omega (arith, e) }

-- what one look at a corner comes to
abbrev pub Looks : ℕ → Share → ℕ → ℕ → Share → Type 0
Looks slope s at charged r =
    (u : ℕ → ℕ) → Raised u slope s → charged ≡ u at → Raised u slope r × (r.month ≡ better u (λ kwh. slope * kwh) at s.month)

-- and one more, after a look at a corner before it
abbrev pub LooksAfter : ℕ → Share → ℕ → ℕ → ℕ → Share → Type 0
LooksAfter slope s before at charged r =
    (u : ℕ → ℕ) (b : ℕ) → Raised u slope s → charged ≡ u at → s.month ≡ better u (λ kwh. slope * kwh) before b
    → Raised u slope r × (r.month ≡ better u (λ kwh. slope * kwh) at s.month)

-- a second look at a corner changes nothing
pub looked_at : (slope : ℕ) (s : Share) (before at charged : ℕ) → at ≡ before → LooksAfter slope s before at charged s
looked_at slope s before at charged e u b h priced after =
    let v : ℕ → ℕ = λ kwh. slope * kwh in
    (h, after ∙ sym (better_again u v before b) ∙ ap (better u v before) (sym after) ∙ ap (λ x. better u v x s.month) (sym e))

-- and four of them: the scan of the corners
pub four_looks : (slope : ℕ) (k : Corners) (first second third fourth : Share) → length k.at ≡ 4
    → Looks slope (record { month = 0; raised = room }) (get_or k.at 0 0) (get_or k.charged 0 0) first
    → LooksAfter slope first (get_or k.at 0 0) (get_or k.at 1 0) (get_or k.charged 1 0) second
    → LooksAfter slope second (get_or k.at 1 0) (get_or k.at 2 0) (get_or k.charged 2 0) third
    → LooksAfter slope third (get_or k.at 2 0) (get_or k.at 3 0) (get_or k.charged 3 0) fourth
    → (u : ℕ → ℕ) → u 0 ≡ 0 → Priced k u → Raised u slope fourth × (fourth.month ≡ scan u (λ kwh. slope * kwh) 0 k.at)
unfolding scan
four_looks slope k first second third fourth l f g h i u z p =
    let v : ℕ → ℕ = λ kwh. slope * kwh in
    let a = f u (none_raised u slope z) (p 0 (omega arith)) in
    let b = g u _ a.0 (p 1 (omega arith)) a.1 in
    let c = h u _ b.0 (p 2 (omega arith)) b.1 in
    let d = i u _ c.0 (p 3 (omega arith)) c.1 in (
      d.0,
      d.1
          ∙ ap (better u v (get_or k.at 3 0)) (c.1 ∙ ap (better u v (get_or k.at 2 0)) (b.1 ∙ ap (better u v (get_or k.at 1 0)) a.1))
          ∙ ap (scan u v 0) (sym (four k.at l)),
    )
