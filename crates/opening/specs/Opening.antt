-- How the code goes about OPEN, ASK and CONFIRM: the checks as one, the answer behind them and the place that is left.
-- Assumes nothing.
use Rattle.std.specs.Prelude.{Bool, ℕ}
use Rattle.refusal.specs.declared.Check.{Check}
use Rattle.refusal.specs.declared.Check.TheVariants.{Pass}
use Rattle.refusal.specs.Checks.{unless, first}
use Rattle.benchmark.specs.declared.Benchmarks.{Benchmarks}
use Rattle.desks.specs.Desks.{may_use}
use Rattle.book.specs.declared.State.{State}
use Rattle.book.specs.declared.State.TheVariants.{Open}
use Rattle.book.specs.declared.Place.{Place}
use Rattle.book.specs.declared.Settled.{Settled}
use Rattle.book.specs.Checks.{opened_as, confirmed_as}
use Rattle.book.specs.Book.{tariff_in, with_state}
use Rattle.book.specs.Settling.{open_check, mark_check, held_check, Settles}

-- 6, 9 and 17, and then the checks of a call's own
abbrev pub usable_check : ℕ → ℕ → Place → Check → Check
usable_check desk k p next = held_check k p.state (first (unless (may_use desk p.regions) 17 Pass) next)

-- behind these: 7 and 10, of OPEN and ASK; 7 and 16, of CONFIRM
abbrev pub open_rest : State → (loaded : Bool) → Check
open_rest s loaded = first (open_check s) (unless loaded 10 Pass)

abbrev pub confirm_rest : State → Check
confirm_rest s = first (open_check s) (mark_check s)

-- what OPEN and ASK share: the checks, and behind them the verdict, or 0 cells under a direction, with the draft in that state where it is
-- accepted
abbrev pub OpensAs : State → ℕ → ℕ → Place → Bool → Benchmarks → Settled → Type 0
OpensAs s desk k p loaded figures r =
    Settles (usable_check desk k p (open_rest p.state loaded)) (opened_as p.directed figures (tariff_in p)) p (with_state s p) r

-- and CONFIRM
abbrev pub Confirms : ℕ → ℕ → Place → Settled → Type 0
Confirms desk k p r =
    Settles (usable_check desk k p (confirm_rest p.state)) (confirmed_as p.directed (tariff_in p)) p (with_state Open p) r
