-- The 112 charges of sheet U, worked out once, and the days of its period.
-- Assumes nothing.
use mathlib.Core.Path.{◌≡◌, refl}
use mathlib.Core.List.{List, [], ◌∷◌}
use Prim.Native.Nat.{ℕ}
use Rattle.laws.specs.Notions.{tabulate, tabulate_from}
use Rattle.calendar.specs.Calendar.{period_days, month_begins, length_at, month_length, leap_year}
use Rattle.sheet.specs.Sheet.{signed, value_of, round, round_signed, indexed}
use Rattle.benchmark.specs.Benchmark.{benchmark, wc, pc, oc, nc, paenc, headroom, panc, figure, figures}
use Rattle.unlike.specs.SheetU.{networks, sheet_u, period_u}

abbrev pub charges_u : List ℕ
charges_u =
    11420014 ∷ 68981521 ∷ 10886946 ∷ 67489095 ∷ 12780546 ∷ 77414326 ∷ 12223106 ∷ 75779657 ∷
    11409807 ∷ 68950910 ∷ 10876909 ∷ 67458994 ∷ 12800967 ∷ 77455166 ∷ 12243187 ∷ 75819816 ∷
    11399600 ∷ 68920299 ∷ 10866872 ∷ 67428893 ∷ 12821389 ∷ 77496006 ∷ 12263268 ∷ 75859975 ∷
    11389393 ∷ 68889687 ∷ 10856835 ∷ 67398792 ∷ 12841810 ∷ 77536845 ∷ 12283349 ∷ 75900134 ∷
    11379185 ∷ 68859076 ∷ 10846798 ∷ 67368691 ∷ 12862232 ∷ 77577685 ∷ 12303430 ∷ 75940293 ∷
    11368978 ∷ 68828465 ∷ 10836761 ∷ 67338590 ∷ 12882653 ∷ 77618525 ∷ 12323511 ∷ 75980453 ∷
    11358771 ∷ 68797854 ∷ 10826724 ∷ 67308489 ∷ 12903075 ∷ 77659365 ∷ 12343592 ∷ 76020612 ∷
    11348564 ∷ 68767242 ∷ 10816687 ∷ 67278388 ∷ 12923496 ∷ 77700204 ∷ 12363673 ∷ 76060771 ∷
    11338357 ∷ 68736631 ∷ 10806650 ∷ 67248287 ∷ 12943917 ∷ 77741044 ∷ 12383755 ∷ 76100930 ∷
    11328150 ∷ 68706020 ∷ 10796613 ∷ 67218186 ∷ 12964339 ∷ 77781884 ∷ 12403836 ∷ 76141089 ∷
    11317943 ∷ 68675409 ∷ 10786576 ∷ 67188085 ∷ 12984760 ∷ 77822724 ∷ 12423917 ∷ 76181248 ∷
    11307735 ∷ 68644798 ∷ 10776539 ∷ 67157984 ∷ 13005182 ∷ 77863564 ∷ 12443998 ∷ 76221407 ∷
    11297528 ∷ 68614186 ∷ 10766502 ∷ 67127883 ∷ 13025603 ∷ 77904403 ∷ 12464079 ∷ 76261566 ∷
    11287321 ∷ 68583575 ∷ 10756465 ∷ 67097782 ∷ 13046024 ∷ 77945243 ∷ 12484160 ∷ 76301726 ∷ []

pub charges_of_u : figures sheet_u ≡ charges_u
unfolding figures figure tabulate tabulate_from benchmark wc pc oc nc paenc headroom panc value_of signed indexed round round_signed sheet_u networks
charges_of_u = refl

pub days_of_u : period_days period_u ≡ 60
unfolding period_days month_begins length_at month_length leap_year
days_of_u = refl
