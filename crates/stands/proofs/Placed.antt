-- What a call knows of a place that a reachable book has: where it holds something, a valid tariff; and the figures beside it are those of the
-- sheet, and lawful.
-- Assumes nothing.
use mathlib.Core.Path.{◌≡◌, refl, sym, ◌∙◌, subst}
use mathlib.Core.Bool.{Bool, true, false, cond, ◌&&◌}
use Prim.Native.Nat.{ℕ, suc}
use Rattle.laws.proofs.Never.{never}
use Rattle.refusal.specs.declared.Check.TheVariants.{Pass}
use Rattle.benchmark.specs.declared.Benchmarks.{Benchmarks}
use Rattle.benchmark.specs.Lawful.{Lawful}
use Rattle.tariff.specs.Tariff.{valid_tariff}
use Rattle.book.specs.declared.Place.{Place}
use Rattle.book.specs.declared.Kept.{Kept}
use Rattle.book.specs.declared.Reply.{Reply}
use Rattle.book.specs.declared.Settled.{Settled}
use Rattle.book.specs.declared.Book.{Book}
use Rattle.book.specs.Calls.{Call}
use Rattle.book.specs.Checks.{figures_of}
use Rattle.book.specs.Book.{tariff_in, nothing_kept, set_place, sheet_in, with_places, Reachable}
use Rattle.book.specs.Promises.{Does}
use Rattle.book.specs.Settling.{empty_check, accepted_by, kept_after, settled_in, HasPlace}
use Rattle.book.proofs.Reached.{does_reachable}
use Rattle.book.proofs.Steps.{stored_with}
use Rattle.stands.proofs.Kept.{reachable_stands}
use Rattle.stands.proofs.InForce.{figures_are, figures_lawful, filled_valid}

module _ {b : Book} {k i : ℕ} {p : Place} {loaded : Bool} {figures : Benchmarks} (h : HasPlace b k i p loaded figures) where
  pub place_valid : empty_check p.state ≡ Pass → valid_tariff (tariff_in p) ≡ true
  place_valid e =
      subst (λ (q : Place). empty_check q.state ≡ Pass → valid_tariff (tariff_in q) ≡ true) h.place (filled_valid b h.reachable i h.within) e

  pub place_lawful : loaded ≡ true → Lawful figures
  place_lawful l = subst Lawful h.has_figures (figures_lawful b h.reachable (h.is_loaded ∙ l))

  pub figures_there : loaded ≡ true → figures ≡ figures_of (sheet_in b)
  figures_there l = sym h.has_figures ∙ figures_are b h.reachable (h.is_loaded ∙ l)

-- what is kept for UNDO after a call on a code: gone where the call ends the chance, and else as it was, since nothing to take back is zeros
pub kept_gone : (q : Reply) (k : Kept) → (k.any && accepted_by q) ≡ true → nothing_kept ≡ kept_after q k
kept_gone q k e = go k.any (accepted_by q) e
  where
    go : (t a : Bool) → (t && a) ≡ true → nothing_kept ≡ cond a nothing_kept k
    go true true e = refl
    go true false e = never (cc)
    go false a e = never (cc)

pub kept_stays : (q : Reply) (b : Book) → Reachable b → (b.kept.any && accepted_by q) ≡ false → b.kept ≡ kept_after q b.kept
kept_stays q b r e = go b.kept.any (accepted_by q) refl e
  where
    go : (t a : Bool) → b.kept.any ≡ t → (t && a) ≡ false → b.kept ≡ cond a nothing_kept b.kept
    go t false p e = refl
    go true true p e = never (cc)
    go false true p e = (reachable_stands b r).nothing_kept_lem p

-- so a call on a code leaves a reachable book, where what is kept is stored behind that test
module _ (b : Book) (from : Reachable b) (c : Call) (at : ℕ) (r : Settled) (does : Does b c (settled_in b at r)) where
  pub gone_reachable : (k : Kept) → k ≡ nothing_kept → (b.kept.any && accepted_by r.reply) ≡ true
      → Reachable (with_places b (set_place b.places (suc at) r.place) k)
  gone_reachable k n e = does_reachable from (stored_with b c at r k (n ∙ kept_gone r.reply b.kept e) does)

  pub stays_reachable : (b.kept.any && accepted_by r.reply) ≡ false → Reachable (with_places b (set_place b.places (suc at) r.place) b.kept)
  stays_reachable e = does_reachable from (stored_with b c at r b.kept (kept_stays r.reply b from e) does)
