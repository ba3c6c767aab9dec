-- `codes::settle` meets its contract, act by act.
-- Assumes nothing.
use mathlib.Core.Path.{sym, subst}
use Rattle.codes.specs.declared.CodeAct.{CodeAct}
use Rattle.codes.specs.Codes.{SettlesOn}
use Rattle.codes.proofs.Places.{acts}
use Rattle.codes.proofs.settle.Goals as goal

pub returns-in-Open : goal.returns-in-Open
returns-in-Open c =
    let a = c.args in
    let s = subst (λ (b : CodeAct). SettlesOn b a.desk a.code a.p a.loaded a.figures c.open_as.result) (sym c.in-Open.is) c.open_as.ensures in
    (s, λ b i h. acts h a.desk a.act c.open_as.result s)

pub returns-in-Close : goal.returns-in-Close
returns-in-Close c =
    let a = c.args in
    let s = subst (λ (b : CodeAct). SettlesOn b a.desk a.code a.p a.loaded a.figures c.close_at.result) (sym c.in-Close.is) (c.close_at.ensures a.loaded a.figures) in
    (s, λ b i h. acts h a.desk a.act c.close_at.result s)

pub returns-in-Drop : goal.returns-in-Drop
returns-in-Drop c =
    let a = c.args in
    let s = subst (λ (b : CodeAct). SettlesOn b a.desk a.code a.p a.loaded a.figures c.drop_at.result) (sym c.in-Drop.is) (c.drop_at.ensures a.loaded a.figures) in
    (s, λ b i h. acts h a.desk a.act c.drop_at.result s)

pub returns-in-Ask : goal.returns-in-Ask
returns-in-Ask c =
    let a = c.args in
    let s = subst (λ (b : CodeAct). SettlesOn b a.desk a.code a.p a.loaded a.figures c.open_as-in-Ask.result) (sym c.in-Ask.is) c.open_as-in-Ask.ensures in
    (s, λ b i h. acts h a.desk a.act c.open_as-in-Ask.result s)

pub returns-in-Confirm : goal.returns-in-Confirm
returns-in-Confirm c =
    let a = c.args in
    let s = subst (λ (b : CodeAct). SettlesOn b a.desk a.code a.p a.loaded a.figures c.confirm_at.result) (sym c.in-Confirm.is) c.confirm_at.ensures in
    (s, λ b i h. acts h a.desk a.act c.confirm_at.result s)
