-- What is tested of the words of an image before a tariff is judged by them, since no list of calls need have left them: as a yes or no.
-- Assumes nothing.
use Rattle.std.specs.Prelude.{Bool, true, false, ◌&&◌, List, ℕ, ◌+◌, ◌*◌, leb, get_or}
use Rattle.laws.specs.Notions.{every}
use Rattle.shares.specs.Shares.{whole_share}
use Rattle.refusal.specs.declared.Check.{Check}
use Rattle.refusal.specs.declared.Check.TheVariants.{Pass, Refuse}
use Rattle.benchmark.specs.declared.Benchmarks.{Benchmarks}
use Rattle.book.specs.declared.State.{State}
use Rattle.book.specs.declared.State.TheVariants.{Empty, Draft, Marked, Open}

-- the figures, as `Lawful` has them: each of the 56 pairs of charges, m of each arrangement, and the numbers beside them
abbrev pub between : (low high x : ℕ) → Bool
between low high x = leb low x && leb x high

abbrev pub pair_fits : List ℕ → ℕ → Bool
pair_fits charges j = between (get_or charges (2 * j) 0) 2400000000 (get_or charges (2 * j + 1) 0)

abbrev pub levels_fit : List ℕ → Bool
levels_fit levels = between 1 20000 (get_or levels 0 0) && between 1 20000 (get_or levels 1 0)

abbrev pub rest_fits : (peak months days : ℕ) → Bool
rest_fits peak months days = leb peak whole_share && between 1 12 months && leb days 372

unfoldable pub lawful_test : Benchmarks → Bool
lawful_test f = every 56 (pair_fits f.charges) && levels_fit f.levels && rest_fits f.peak f.months f.days

-- a place: in any state but empty its record passes refusal 8
abbrev pub passes : Check → Bool
passes Pass = true
passes (Refuse n) = false

abbrev pub valid_as : State → Check → Bool
valid_as Empty its = true
valid_as Draft its = passes its
valid_as Marked its = passes its
valid_as Open its = passes its
