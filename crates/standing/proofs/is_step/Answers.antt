-- `standing::is_step` meets its contract.
-- Assumes nothing.
use mathlib.Core.Path.{◌≡◌, sym, ◌∙◌, ap, subst}
use mathlib.Core.List.{map}
use lib.ListN.{length}
use borrow.Author.Tests.{not-false}
use Rattle.book.specs.Book.{stood_as, under}
use Rattle.stands.specs.Stands.{Fits}
use Rattle.standing.proofs.Told.{held, decides}
use Rattle.standing.proofs.Fitting.{figures_lawful, each_valid}
use Rattle.standing.proofs.Stepped.{made_by_set, states_after_set}
use borrow.Author.Rules.{rules}
use Rattle.standing.proofs.is_step.Goals as goal

pub all_judged-judged-requires : goal.all_judged-judged-requires
all_judged-judged-requires c =
    (figures_lawful c.args.b c.requires.0 (not-false _ c.if-not-b.false), each_valid _ (held _ c.fits.ensures c.if-not-fits.false))

pub returns : goal.returns
returns c =
    let b = c.args.b in
    let loaded = not-false _ c.if-not-b.false in
    let fits = held _ c.fits.ensures c.if-not-fits.false in
    let same = c.book_before-before.ensures.1 fits in
    -- 32 by the type of the book handed over: the last field of the last field
    let size : length b.kept.states ≡ 32 = search rules in
    let judged = c.states_of.ensures ∙ ap (map (λ p. stood_as p.state)) (c.all_judged-judged.ensures ∙ ap (λ d. map (under b.benchmarks) d.places) same) in
    let states = c.states_of-2.ensures in
    decides _ c.same_states.ensures
    (λ e. (subst Fits same fits, made_by_set b c.requires.0 c.requires.1 loaded size (sym judged ∙ e ∙ states)))
    (λ q. judged ∙ states_after_set b c.requires.0 c.requires.1 loaded size q.1 ∙ sym states)
