-- A call on a code, made on the one place that a book has at the code's index.
-- Assumes nothing.
use mathlib.Core.Bool.{Bool}
use Prim.Native.Nat.{ℕ}
use Rattle.benchmark.specs.declared.Benchmarks.{Benchmarks}
use Rattle.book.specs.declared.Place.{Place}
use Rattle.book.specs.declared.Settled.{Settled}
use Rattle.book.specs.declared.Book.{Book}
use Rattle.book.specs.Calls.{by}
use Rattle.book.specs.Promises.{Does}
use Rattle.book.specs.Settling.{settled_in, HasPlace}
use Rattle.codes.specs.declared.CodeAct.{CodeAct}
use Rattle.codes.specs.Codes.{act_on, SettlesOn, Judgeable}
use Rattle.codes.proofs.Answers.{act_does, judgeable}
use Rattle.codes.proofs.Handed.{handed}

module _ {b : Book} {k i : ℕ} {p : Place} {loaded : Bool} {figures : Benchmarks} (h : HasPlace b k i p loaded figures) where
  pub may_judge : (a : CodeAct) → Judgeable a p loaded figures
  may_judge a = rw (h.place, h.is_loaded, h.has_figures) at (judgeable a b i h.within (handed h.reachable a))

  pub acts : (desk : ℕ) (a : CodeAct) (r : Settled) → SettlesOn a desk k p loaded figures r → Does b (by desk (act_on a k)) (settled_in b i r)
  acts desk a r s =
      act_does desk b k i p h.index h.place a r (handed h.reachable a) (rw (← h.is_loaded, ← h.has_figures) at s)
