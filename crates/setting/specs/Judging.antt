-- What a sheet comes to before anything is stored: SET's checks, the sheet's figures, and the places judged by them.
-- Assumes nothing.
use Rattle.std.specs.Prelude.{◌≡◌, List, map}
use Rattle.refusal.specs.declared.Check.TheVariants.{Pass}
use Rattle.benchmark.specs.Benchmark.{set_check}
use Rattle.book.specs.declared.Place.{Place}
use Rattle.book.specs.Calls.{Sheet}
use Rattle.book.specs.Checks.{figures_of}
use Rattle.book.specs.Book.{under}
use Rattle.setting.specs.declared.Judgement.{Judgement}

pub record Judges (ps : List Place) (s : Sheet) (r : Judgement) : Type 0 where
  pub checks : r.check ≡ set_check s.fields s.period
  pub works : r.check ≡ Pass → r.figures ≡ figures_of s
  pub places : r.check ≡ Pass → r.places ≡ map (under (figures_of s)) ps
