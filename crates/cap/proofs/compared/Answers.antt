-- `cap::compared` meets its contract: the best corner is the worst month, with both sides for t of it.
-- Assumes nothing.
use Rattle.std.proofs.Common.{◌≡◌, true, ℕ, ◌+◌, ◌-◌, ◌*◌, ◌≤◌, length, rules, arith, ◌∙◌}
use Rattle.laws.proofs.Pieces.{scan}
use Rattle.shares.specs.Shares.{whole_share}
use Rattle.tariff.specs.declared.Tariff.{Tariff}
use Rattle.tariff.specs.Tariff.{valid_tariff}
use Rattle.cap.specs.declared.CellNumbers.{CellNumbers}
use Rattle.cap.specs.declared.Corners.{Corners}
use Rattle.cap.specs.declared.Share.{Share}
use Rattle.cap.specs.Cap.{worst_month}
use Rattle.cap.specs.Deciding.{month_charged}
use Rattle.cap.specs.Corners.{month_charged_most, room, Fits, Priced, Raised, Cornered}
use Rattle.cap.proofs.Runs.{price_nought, price_most, scan_is_worst}
use Rattle.cap.proofs.Comparing.{both_raised}
use Rattle.cap.proofs.compared.Goals as goal

-- what the cap allows for each kWh of a month, times the scale
abbrev slope : CellNumbers → ℕ
slope e = 12 * whole_share * (e.upper - e.lower)

module _ (e : CellNumbers) (x : Tariff) (k : Corners) (v : valid_tariff x ≡ true) (c : Cornered e.peak x e.m k) (f : Fits e)
    (rates : length x.rates ≡ 4) (steps : length x.steps ≡ 4) (w : Share)
    (best : (u : ℕ → ℕ) → u 0 ≡ 0 → Priced k u → Raised u (slope e) w × (w.month ≡ scan u (λ kwh. slope e * kwh) 0 k.at)) where
  -- the corner that was found is the worst month, with its share
  found : Raised (month_charged e x) (slope e) w × (w.month ≡ worst_month e x)
  found =
      let b = best (month_charged e x) (price_nought e.peak x f.peak_most v rates steps e.m) c.charges in
      (b.0, b.1 ∙ scan_is_worst e x c.runs)

  share_most : w.raised ≤ month_charged_most + room
  share_most = omega (arith, found.0.is, price_most e.peak x f.peak_most v rates steps e.m f.m_most w.month found.0.within)

pub charged_by-charged-requires : goal.charged_by-charged-requires
charged_by-charged-requires c =
    let rates : length c.args.x.rates ≡ 4 = search rules in
    let steps : length c.args.x.steps ≡ 4 = search rules in
    (c.requires.2, share_most c.args.e c.args.x c.args.k c.requires.0 c.requires.1 c.requires.2 rates steps c.worst_corner-worst.result c.worst_corner-worst.ensures)

pub returns : goal.returns
returns c =
    let rates : length c.args.x.rates ≡ 4 = search rules in
    let steps : length c.args.x.steps ≡ 4 = search rules in
    let f = found c.args.e c.args.x c.args.k c.requires.0 c.requires.1 c.requires.2 rates steps c.worst_corner-worst.result c.worst_corner-worst.ensures in
    let share = rw f.1 at f.0.is in
    record {
      month_is = f.1;
      within = f.0.within;
      raised = rw (c.charged_by-charged.ensures, c.capped_by-capped.ensures) (both_raised c.args.e c.args.x c.worst_corner-worst.result.raised share);
    }
