-- Sheet S for October 2023 alone: it is accepted, and two tariffs under it.
-- Assumes nothing.
use mathlib.Core.Path.{◌≡◌, refl}
use mathlib.Core.Bool.{true}
use mathlib.Core.List.{List, [], ◌∷◌}
use Prim.Native.Nat.{ℕ}
use lib.Count.{ones, ones_in}
use lib.IntN.{pos}
use Rattle.laws.proofs.Pieces.{scan}
use Rattle.laws.specs.Notions.{every, sum, total, tabulate, tabulate_from, bit}
use Rattle.calendar.specs.Calendar.{period_days, period_in_range, month_begins, length_at, month_length, leap_year}
use Rattle.shares.specs.Shares.{weighted}
use Rattle.sheet.specs.Sheet.{signed, value_of, range_of, field_in_range, fields_in_range, round, round_signed, indexed, four_fit, paac_fits, terms_fit}
use Rattle.benchmark.specs.declared.Benchmarks.{Benchmarks}
use Rattle.benchmark.specs.Benchmark.{benchmark, wc, pc, oc, nc, paenc, headroom, panc, figure, figures, ocs_fit, ordered, set_check, benchmarks_of}
use Rattle.fours.specs.Fours.{zero_from, within, rising}
use Rattle.tariff.specs.Tariff.{tariff_of, standing_in, record_check, valid_tariff, region_fits, valid_kind, single_register, economy7, multi_register, rates_within}
use Rattle.charge.specs.Charge.{arrangement, tier_charge, month_charge, charge}
use Rattle.charge.specs.Tiers.{tiers_of}
use Rattle.cap.specs.Cap.{maximum, charged, capped, excess}
use Rattle.cap.specs.Corners.{corners_to}
use Rattle.cap.proofs.Scanned.{scanned_months}
use Rattle.verdict.specs.Cells.{cell, offered, cell_numbers, cell_count, Verdict, opens, over, verdict}
use Rattle.verdict.proofs.Scanned.{scanned_below, scanned_verdict}
use Rattle.reference.proofs.Scanning.{formed, by_scan}
use Rattle.reference.proofs.Figures.{charges_s, charges_at_580, split_of_s}
use Rattle.reference.specs.SheetS.{times, sheet_s, in_region, flat}
use Rattle.reference.specs.Starred.{first_other}
use Rattle.reference.specs.Regional.{with_more}
use Rattle.refusal.specs.declared.Check.TheVariants.{Pass}
use Rattle.calendar.specs.declared.Period.{Period}

abbrev october_period : Period
october_period = record { year = 2023; month = 10; months = 1 }

days_in_october : period_days october_period ≡ 31
unfolding period_days month_begins length_at month_length leap_year
days_in_october = refl

pub october_accepted : set_check sheet_s october_period ≡ Pass
unfolding set_check fields_in_range field_in_range value_of signed range_of every terms_fit four_fit paac_fits ocs_fit ordered period_in_range figures figure tabulate tabulate_from benchmark wc pc oc nc paenc headroom panc indexed round round_signed sheet_s times period_days month_begins length_at month_length leap_year record_check valid_tariff region_fits standing_in bit valid_kind single_register economy7 multi_register rates_within zero_from within rising
october_accepted = refl

-- its figures, worked out
abbrev known : Benchmarks
known = formed sheet_s october_period charges_s 31

on_known : (x : List ℕ) (v : Verdict) → valid_tariff (tariff_of x) ≡ true → scanned_verdict known (tariff_of x) ≡ v → verdict (benchmarks_of sheet_s october_period) (tariff_of x) ≡ v
on_known = by_scan sheet_s october_period charges_s 31 charges_at_580 days_in_october split_of_s

low_computed : scanned_verdict known (tariff_of (flat 23000 18000)) ≡ opens 28
unfolding scanned_verdict scanned_below offered bit cell_numbers standing_in arrangement scanned_months corners_to tiers_of scan tier_charge weighted month_charge charge maximum charged capped excess sum total cell_count ones ones_in sheet_s times
low_computed = refl

close_computed : scanned_verdict known (tariff_of (flat 23960 18000)) ≡ over first_other (0 ∷ []) (pos 286860000000)
unfolding scanned_verdict scanned_below offered bit cell_numbers standing_in arrangement scanned_months corners_to tiers_of scan tier_charge weighted month_charge charge maximum charged capped excess sum total cell_count ones ones_in sheet_s times
close_computed = refl

dear_computed : scanned_verdict known (tariff_of (with_more (in_region 5 960))) ≡ over (cell 5 1) (0 ∷ []) (pos 286860000000)
unfolding scanned_verdict scanned_below offered bit cell_numbers standing_in arrangement scanned_months corners_to tiers_of scan tier_charge weighted month_charge charge maximum charged capped excess sum total cell_count ones ones_in sheet_s times
dear_computed = refl

pub october_dear : verdict (benchmarks_of sheet_s october_period) (tariff_of (with_more (in_region 5 960))) ≡ over (cell 5 1) (0 ∷ []) (pos 286860000000)
unfolding valid_tariff region_fits standing_in bit valid_kind single_register economy7 multi_register rates_within zero_from within rising every
october_dear = on_known (with_more (in_region 5 960)) _ refl dear_computed

pub october_low : verdict (benchmarks_of sheet_s october_period) (tariff_of (flat 23000 18000)) ≡ opens 28
unfolding valid_tariff region_fits standing_in bit valid_kind single_register economy7 multi_register rates_within zero_from within rising every
october_low = on_known (flat 23000 18000) _ refl low_computed

pub october_close : verdict (benchmarks_of sheet_s october_period) (tariff_of (flat 23960 18000)) ≡ over first_other (0 ∷ []) (pos 286860000000)
unfolding valid_tariff region_fits standing_in bit valid_kind single_register economy7 multi_register rates_within zero_from within rising every
october_close = on_known (flat 23960 18000) _ refl close_computed

pub close_record : record_check (flat 23960 18000) ≡ Pass
unfolding set_check fields_in_range field_in_range value_of signed range_of every terms_fit four_fit paac_fits ocs_fit ordered period_in_range figures figure tabulate tabulate_from benchmark wc pc oc nc paenc headroom panc indexed round round_signed sheet_s times period_days month_begins length_at month_length leap_year record_check valid_tariff region_fits standing_in bit valid_kind single_register economy7 multi_register rates_within zero_from within rising
close_record = refl

pub high_record : record_check (flat 23961 18000) ≡ Pass
unfolding set_check fields_in_range field_in_range value_of signed range_of every terms_fit four_fit paac_fits ocs_fit ordered period_in_range figures figure tabulate tabulate_from benchmark wc pc oc nc paenc headroom panc indexed round round_signed sheet_s times period_days month_begins length_at month_length leap_year record_check valid_tariff region_fits standing_in bit valid_kind single_register economy7 multi_register rates_within zero_from within rising
high_record = refl
