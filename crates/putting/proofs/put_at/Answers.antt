-- `putting::put_at` meets its contract: its checks settle the place, and a record that passes them has 27 numbers.
-- Assumes nothing.
use mathlib.Core.Path.{◌≡◌, sym, ◌∙◌, ap}
use mathlib.Core.Bool.{false}
use Prim.Native.Nat.{ℕ}
use Rattle.refusal.specs.declared.Check.{Check}
use Rattle.refusal.specs.declared.Check.TheVariants.{Pass, Refuse}
use Rattle.refusal.specs.Checks.{unless, first}
use Rattle.refusal.proofs.Checks.{first_passes}
use Rattle.tariff.specs.declared.Tariff.{Tariff}
use Rattle.tariff.specs.Tariff.{tariff_of, record_check}
use Rattle.desks.specs.Desks.{may_use}
use Rattle.book.specs.declared.State.TheVariants.{Draft}
use Rattle.book.specs.declared.Place.{Place}
use Rattle.book.specs.Calls.{Record, accepted}
use Rattle.book.specs.Book.{place_with}
use Rattle.book.specs.Settling.{open_check, code_check}
use Rattle.book.proofs.Places.{record_length_lem}
use Rattle.putting.specs.Putting.{draft_checks, put_checks}
use Rattle.book.proofs.OnePlace.{by_checks, refused_by}
use Rattle.putting.proofs.Answers.{all_checks, puts_there}
use Rattle.putting.proofs.put_at.Goals as goal

-- with the last behind the checks but it: where they refuse, and where they pass
module _ (desk k : ℕ) (p : Place) (x : Record) where
  abbrev last : Check
  last = unless (may_use desk (tariff_of x).regions) 17 Pass

  all_refuse : (n : ℕ) → draft_checks desk k p x ≡ Refuse n → put_checks desk k p x ≡ Refuse n
  all_refuse n e = all_checks desk k p x ∙ ap (λ c. first c last) e

  all_pass : draft_checks desk k p x ≡ Pass → put_checks desk k p x ≡ last
  all_pass e = all_checks desk k p x ∙ ap (λ c. first c last) e

pub returns-in_default : goal.returns-in_default
returns-in_default c =
    let a = c.args in
    let checks : c.first-checked.result ≡ draft_checks a.desk a.code a.p a.x.now = cc in
    let refuses = c.in_default.is in
    let s = refused_by (put_checks a.desk a.code a.p a.x.now) _ _ accepted _ _ _ _ c.settled_by.ensures (refuses ∙ sym (all_refuse a.desk a.code a.p a.x.now _ (sym checks ∙ refuses))) refuses in
    (s, λ b i loaded figures h. puts_there h a.desk _ _ s)

pub tariff_of-x-requires : goal.tariff_of-x-requires
tariff_of-x-requires c =
    let a = c.args in
    let checks : c.first-checked.result ≡ draft_checks a.desk a.code a.p a.x.now = cc in
    let past-6 = (first_passes (code_check a.code) _ (sym checks ∙ c.in-Pass.is)).1 in
    let past-7 = (first_passes (open_check a.p.state) _ past-6).1 in
    record_length_lem _ (first_passes (record_check a.x.now) _ past-7).0

pub returns : goal.returns
returns c =
    let a = c.args in
    let checks : c.first-checked.result ≡ draft_checks a.desk a.code a.p a.x.now = cc in
    let passes = sym checks ∙ c.in-Pass.is in
    let new = c.use_check-new.ensures ∙ ap (λ (y : Tariff). unless (may_use a.desk y.regions) 17 Pass) c.tariff_of-x.ensures in
    let s = by_checks (put_checks a.desk a.code a.p a.x.now) _ _ _ _ _ c.settled_by-2.ensures (new ∙ sym (all_pass a.desk a.code a.p a.x.now passes)) (c.place_with.ensures ∙ ap (place_with Draft false) c.tariff_of-x.ensures) in
    (s, λ b i loaded figures h. puts_there h a.desk _ _ s)
