-- `cap::corners_of` meets its contract: each corner's charge is that of the corner before it and of what lies between them.
-- Assumes nothing.
use Rattle.std.proofs.Common.{◌≡◌, true, ℕ, ◌+◌, ◌-◌, ◌*◌, ◌≤◌, length, get_or, rules, arith, refl, sym}
use Rattle.laws.proofs.Pieces.{first_piece}
use Rattle.shares.specs.Shares.{whole_share}
use Rattle.tariff.specs.declared.Tariff.{Tariff}
use Rattle.tariff.specs.Tariff.{valid_tariff}
use Rattle.charge.specs.declared.Tiers.{Tiers}
use Rattle.charge.specs.Charge.{month_most, month_charge}
use Rattle.charge.specs.Tiers.{tiers_of, TiersFit}
use Rattle.cap.specs.Corners.{level_most, month_charged_most, corners_of}
use Rattle.cap.proofs.Runs.{FourPieces, four_pieces, price_nought, price_most, price_next, cornered}
use Rattle.cap.proofs.corners_of.Goals as goal

-- what is known of a tariff and of its tiers
record Made (peak : ℕ) (x : Tariff) (m : ℕ) (t : Tiers) : Type 0 where
  pub valid : valid_tariff x ≡ true
  pub peak_most : peak ≤ whole_share
  pub level : m ≤ level_most
  pub rate_count : length x.rates ≡ 4
  pub step_count : length x.steps ≡ 4
  pub is : t ≡ tiers_of peak x
  pub fits : TiersFit month_most t

made : (peak : ℕ) (x : Tariff) (m : ℕ) (t : Tiers) → (valid_tariff x ≡ true) × (peak ≤ whole_share) × (m ≤ level_most) → length x.rates ≡ 4 → length x.steps ≡ 4
    → (t ≡ tiers_of peak x) × TiersFit month_most t → Made peak x m t
made peak x m t r rs ss e = record { valid = r.0; peak_most = r.1; level = r.2; rate_count = rs; step_count = ss; is = e.0; fits = e.1 }

-- a is the corner after i steps
abbrev At : Tiers → ℕ → ℕ → Type 0
At t i a = (a ≡ get_or (corners_of month_most t) i 0) × (a ≤ month_most)

module _ (peak : ℕ) (x : Tariff) (m : ℕ) (t : Tiers) (h : Made peak x m t) where
  -- a month's charge, times the scale; none for no kWh, and never more than the most
  abbrev price : ℕ → ℕ
  price kwh = 12 * m * month_charge peak x kwh

  nought : 0 ≡ price 0
  nought = sym (price_nought peak x h.peak_most h.valid h.rate_count h.step_count m)

  most : (kwh p : ℕ) → kwh ≤ month_most → p ≡ price kwh → p ≤ month_charged_most
  most kwh p l e = omega (arith, price_most peak x h.peak_most h.valid h.rate_count h.step_count m h.level kwh l)

  -- the pieces of the tiers, and the charge at the far end of each
  pieces : FourPieces peak x m t
  pieces = four_pieces peak x m t h.is h.fits

  module _ (a b c d : ℕ) (ha : At t 0 a) (hb : At t 1 b) (hc : At t 2 c) (hd : At t 3 d) where
    b_after : a ≤ b
    b_after = let f = first_piece (first_piece pieces).2 in omega (arith, ha.0, hb.0, f.0)

    c_after : b ≤ c
    c_after = let f = first_piece (first_piece (first_piece pieces).2).2 in omega (arith, hb.0, hc.0, f.0)

    d_after : c ≤ d
    d_after = let f = first_piece (first_piece (first_piece (first_piece pieces).2).2).2 in omega (arith, hc.0, hd.0, f.0)

    module _ (p : ℕ) (ep : p ≡ 0 + 12 * m * (get_or t.rates 0 0 * (a - 0))) where
      at_a : p ≡ price a
      at_a = let f = first_piece pieces in price_next price _ _ _ _ _ _ _ _ f.1 refl ha.0 nought ep

      module _ (q : ℕ) (eq : q ≡ p + 12 * m * (get_or t.rates 1 0 * (b - a))) where
        at_b : q ≡ price b
        at_b = let f = first_piece (first_piece pieces).2 in price_next price _ _ _ _ _ _ _ _ f.1 ha.0 hb.0 at_a eq

        module _ (r : ℕ) (er : r ≡ q + 12 * m * (get_or t.rates 2 0 * (c - b))) where
          at_c : r ≡ price c
          at_c = let f = first_piece (first_piece (first_piece pieces).2).2 in price_next price _ _ _ _ _ _ _ _ f.1 hb.0 hc.0 at_b er

          module _ (s : ℕ) (es : s ≡ r + 12 * m * (get_or t.rates 3 0 * (d - c))) where
            at_d : s ≡ price d
            at_d = let f = first_piece (first_piece (first_piece (first_piece pieces).2).2).2 in price_next price _ _ _ _ _ _ _ _ f.1 hc.0 hd.0 at_c es

pub charged_up_to-at_b-requires : goal.charged_up_to-at_b-requires
charged_up_to-at_b-requires c =
    let rates : length c.args.x.rates ≡ 4 = search rules in
    let steps : length c.args.x.steps ≡ 4 = search rules in
    let h = made c.args.peak c.args.x c.args.m c.tiers_of-t.result c.requires rates steps c.tiers_of-t.ensures in (
      most _ _ _ _ h _ _ c.corner-a.ensures.1 (at_a _ _ _ _ h _ _ _ _ c.corner-a.ensures c.corner-b.ensures c.corner-c.ensures c.corner-d.ensures _ c.charged_up_to-at_a.ensures),
      h.level,
      h.fits.rates 1,
      b_after _ _ _ _ h _ _ _ _ c.corner-a.ensures c.corner-b.ensures c.corner-c.ensures c.corner-d.ensures,
      c.corner-b.ensures.1,
    )

pub charged_up_to-at_c-requires : goal.charged_up_to-at_c-requires
charged_up_to-at_c-requires c =
    let rates : length c.args.x.rates ≡ 4 = search rules in
    let steps : length c.args.x.steps ≡ 4 = search rules in
    let h = made c.args.peak c.args.x c.args.m c.tiers_of-t.result c.requires rates steps c.tiers_of-t.ensures in (
      most _ _ _ _ h _ _ c.corner-b.ensures.1 (at_b _ _ _ _ h _ _ _ _ c.corner-a.ensures c.corner-b.ensures c.corner-c.ensures c.corner-d.ensures _ c.charged_up_to-at_a.ensures _ c.charged_up_to-at_b.ensures),
      h.level,
      h.fits.rates 2,
      c_after _ _ _ _ h _ _ _ _ c.corner-a.ensures c.corner-b.ensures c.corner-c.ensures c.corner-d.ensures,
      c.corner-c.ensures.1,
    )

pub charged_up_to-at_d-requires : goal.charged_up_to-at_d-requires
charged_up_to-at_d-requires c =
    let rates : length c.args.x.rates ≡ 4 = search rules in
    let steps : length c.args.x.steps ≡ 4 = search rules in
    let h = made c.args.peak c.args.x c.args.m c.tiers_of-t.result c.requires rates steps c.tiers_of-t.ensures in (
      most _ _ _ _ h _ _ c.corner-c.ensures.1 (at_c _ _ _ _ h _ _ _ _ c.corner-a.ensures c.corner-b.ensures c.corner-c.ensures c.corner-d.ensures _ c.charged_up_to-at_a.ensures _ c.charged_up_to-at_b.ensures _ c.charged_up_to-at_c.ensures),
      h.level,
      h.fits.rates 3,
      d_after _ _ _ _ h _ _ _ _ c.corner-a.ensures c.corner-b.ensures c.corner-c.ensures c.corner-d.ensures,
      c.corner-d.ensures.1,
    )

pub returns : goal.returns
returns c =
    let rates : length c.args.x.rates ≡ 4 = search rules in
    let steps : length c.args.x.steps ≡ 4 = search rules in
    let h = made c.args.peak c.args.x c.args.m c.tiers_of-t.result c.requires rates steps c.tiers_of-t.ensures in
    cornered c.args.peak c.args.x c.args.m c.tiers_of-t.result (pieces _ _ _ _ h) _ _ _ _ _ _ _ _
    c.corner-a.ensures c.corner-b.ensures c.corner-c.ensures c.corner-d.ensures (most _ _ _ _ h)
    (at_a _ _ _ _ h _ _ _ _ c.corner-a.ensures c.corner-b.ensures c.corner-c.ensures c.corner-d.ensures _ c.charged_up_to-at_a.ensures)
    (at_b _ _ _ _ h _ _ _ _ c.corner-a.ensures c.corner-b.ensures c.corner-c.ensures c.corner-d.ensures _ c.charged_up_to-at_a.ensures _ c.charged_up_to-at_b.ensures)
    (at_c _ _ _ _ h _ _ _ _ c.corner-a.ensures c.corner-b.ensures c.corner-c.ensures c.corner-d.ensures _ c.charged_up_to-at_a.ensures _ c.charged_up_to-at_b.ensures _ c.charged_up_to-at_c.ensures)
    (at_d _ _ _ _ h _ _ _ _ c.corner-a.ensures c.corner-b.ensures c.corner-c.ensures c.corner-d.ensures _ c.charged_up_to-at_a.ensures _ c.charged_up_to-at_b.ensures _ c.charged_up_to-at_c.ensures _ c.charged_up_to-at_d.ensures)
