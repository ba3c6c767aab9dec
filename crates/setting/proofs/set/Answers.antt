-- `setting::set` meets its contract: 17, or what it does for a desk with all fourteen regions.
-- Assumes nothing.
use mathlib.Core.Path.{refl, sym, subst}
use Rattle.book.specs.Calls.{sheet_at, SET, by}
use Rattle.book.specs.Promises.{Does}
use Rattle.book.proofs.Desks.{is_full_lem, turned_away}
use Rattle.setting.proofs.set.Goals as goal

pub returns-in_default : goal.returns-in_default
returns-in_default c =
    let a = c.args in
    rw c.answered.ensures
    (turned_away a.b a.desk (SET (sheet_at a.fields.now a.period)) _ refl _ _ c.full_check-full.ensures c.in_default.is)

pub returns : goal.returns
returns c =
    let a = c.args in
    subst (λ desk. Does a.b (by desk (SET (sheet_at a.fields.now a.period))) c.put_in_force.result)
    (sym (is_full_lem a.desk _ c.full_check-full.ensures c.in-Pass.is)) c.put_in_force.ensures
