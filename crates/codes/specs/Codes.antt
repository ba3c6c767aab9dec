-- How the code goes about OPEN, CLOSE, DROP, ASK and CONFIRM, the calls on a code that take nothing else: the act, its checks as one, the answer
-- behind them and the place that it leaves.
-- Assumes nothing.
use Rattle.std.specs.Prelude.{◌≡◌, Bool, true, ℕ}
use Rattle.refusal.specs.declared.Check.{Check}
use Rattle.benchmark.specs.declared.Benchmarks.{Benchmarks}
use Rattle.benchmark.specs.Lawful.{Lawful}
use Rattle.book.specs.declared.State.{State}
use Rattle.book.specs.declared.State.TheVariants as state
use Rattle.book.specs.declared.Place.{Place}
use Rattle.book.specs.declared.Settled.{Settled}
use Rattle.book.specs.declared.Book.{Book}
use Rattle.book.specs.Calls.{Act, OPEN, CLOSE, DROP, ASK, CONFIRM, Answer, accepted}
use Rattle.book.specs.Checks.{opened_as, confirmed_as}
use Rattle.book.specs.Book.{empty, tariff_in, with_state, Reachable}
use Rattle.book.specs.Settling.{open_check, closed_check, Settles}
use Rattle.stands.specs.Stands.{HoldsValid}
use Rattle.opening.specs.Opening.{usable_check, open_rest, confirm_rest}
use Rattle.codes.specs.declared.CodeAct.{CodeAct}
use Rattle.codes.specs.declared.CodeAct.TheVariants.{Open, Close, Drop, Ask, Confirm}

abbrev pub act_on : CodeAct → ℕ → Act
act_on Open k = OPEN k
act_on Close k = CLOSE k
act_on Drop k = DROP k
act_on Ask k = ASK k
act_on Confirm k = CONFIRM k

-- behind 6, 9 and 17
abbrev pub rest_on : CodeAct → State → (loaded : Bool) → Check
rest_on Open s loaded = open_rest s loaded
rest_on Close s loaded = closed_check s
rest_on Drop s loaded = open_check s
rest_on Ask s loaded = open_rest s loaded
rest_on Confirm s loaded = confirm_rest s

abbrev pub next_on : CodeAct → Benchmarks → Place → Answer
next_on Open figures p = opened_as p.directed figures (tariff_in p)
next_on Close figures p = accepted
next_on Drop figures p = accepted
next_on Ask figures p = opened_as p.directed figures (tariff_in p)
next_on Confirm figures p = confirmed_as p.directed (tariff_in p)

abbrev pub place_on : CodeAct → Place → Place
place_on Open p = with_state state.Open p
place_on Close p = with_state state.Draft p
place_on Drop p = empty
place_on Ask p = with_state state.Marked p
place_on Confirm p = with_state state.Open p

-- what an act comes to on the place of a code, with the figures of the sheet that is loaded, if one is
abbrev pub SettlesOn : CodeAct → ℕ → ℕ → Place → Bool → Benchmarks → Settled → Type 0
SettlesOn a desk k p loaded figures r =
    Settles (usable_check desk k p (rest_on a p.state loaded)) (next_on a figures p) p (place_on a p) r

-- only OPEN and ASK judge a tariff, and ask something of the place and the figures, and of the book
abbrev pub Judgeable : CodeAct → Place → Bool → Benchmarks → Type 0
Judgeable Open p loaded figures = (loaded ≡ true → Lawful figures) × HoldsValid p
Judgeable Close p loaded figures = Unit {0}
Judgeable Drop p loaded figures = Unit {0}
Judgeable Ask p loaded figures = (loaded ≡ true → Lawful figures) × HoldsValid p
Judgeable Confirm p loaded figures = Unit {0}

abbrev pub Handed : CodeAct → Book → Type 0
Handed Open b = Reachable b
Handed Close b = Unit {0}
Handed Drop b = Unit {0}
Handed Ask b = Reachable b
Handed Confirm b = Unit {0}
