-- "Read as if an accepted UNDO and the SET that it takes back were not there": with the two behind a list of calls, what is read is what was
-- read without them.
-- Assumes nothing.
use mathlib.Core.Path.{◌≡◌, refl, ◌∙◌, ap}
use mathlib.Core.Bool.{true, cond}
use mathlib.Core.List.{List, [], ◌∷◌, ◌++◌}
use Rattle.tariff.specs.Tariff.{all_fourteen}
use Rattle.book.specs.Calls.{Sheet, Act, SET, UNDO, Call, call, is_accepted}
use Rattle.book.specs.Checks.{set_answer}
use Rattle.history.specs.History.{effective, noted, log_after, accepted_of}

log_append : (log : List Act) (cs ds : List Call) → log_after log (cs ++ ds) ≡ log_after (log_after log cs) ds
unfolding log_after
log_append log [] ds = refl
log_append log (c ∷ cs) ds = log_append (noted log c) cs ds

pub taken_back : (calls : List Call) (s : Sheet) → is_accepted (set_answer all_fourteen s) ≡ true
    → accepted_of (calls ++ (call (SET s) ∷ call UNDO ∷ [])) ≡ accepted_of calls
unfolding log_after
taken_back calls s e =
    let log = log_after [] calls in
    ap effective (log_append [] calls (call (SET s) ∷ call UNDO ∷ []))
    ∙ ap (λ t. effective (noted (cond t (SET s ∷ log) log) (call UNDO))) e
