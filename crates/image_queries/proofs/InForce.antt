-- The sheet in force of an image: the checks that ask for it, and its figures by their words.
-- Assumes nothing.
use mathlib.Core.Path.{◌≡◌, refl, sym, ◌∙◌, ap, subst}
use mathlib.Core.Bool.{Bool, true, ◌&&◌}
use mathlib.Core.List.{List}
use Prim.Native.Nat.{ℕ, ◌+◌, ◌<◌, ◌≤◌}
use native.Mathlib.Omega.{arith}
use lib.Dec.{leb, ltb}
use lib.IntN.{pos}
use lib.ListN.{get_or}
use Rattle.refusal.specs.declared.Check.TheVariants.{Pass}
use Rattle.refusal.specs.Checks.{unless, first, checked}
use Rattle.refusal.proofs.Checks.{unless_passes, first_passes}
use Rattle.benchmark.specs.Benchmark.{benchmark, figure_index}
use Rattle.tariff.specs.Tariff.{standing_most}
use Rattle.desks.specs.Desks.{may_query}
use Rattle.cap.specs.Corners.{Fits}
use Rattle.verdict.specs.Cells.{cell, cell_numbers}
use Rattle.verdict.proofs.Walk.{numbers_fit}
use Rattle.book.specs.Checks.{figures_of}
use Rattle.book.specs.Book.{sheet_in, Reachable}
use Rattle.stands.proofs.InForce.{figures_are, figures_lawful}
use Rattle.queries.specs.Queries.{refused, benchmark_charge, maximum_charge, in_ranges, benchmark_of, maximum_of, maximum_in}
use Rattle.queries.proofs.InForce.{charge_is}
use Rattle.queries.proofs.Answers.{benchmark_answer, maximum_answer}
use Rattle.image.specs.Layout.{loaded_at, charges_at, levels_at}
use Rattle.image.specs.Image.{word, flag_of, figures_in, book_in}
use Rattle.image.proofs.Reading.{word_at}
use Rattle.image_queries.specs.Reading.{asked_in}
use Rattle.image_queries.proofs.Told.{Numbered, unless_numbered, first_numbered}

module _ (l : List ℕ) where
  -- what stands where
  pub loaded_in : (book_in l).loaded ≡ flag_of (word l loaded_at)
  unfolding book_in
  loaded_in = refl

  pub figures_in_lem : (book_in l).benchmarks ≡ figures_in l
  unfolding book_in
  figures_in_lem = refl

  pub charge_in : (k : ℕ) → k < 112 → get_or (figures_in l).charges k 0 ≡ word l (charges_at + k)
  unfolding figures_in
  charge_in k h = word_at charges_at 112 l k h

  pub next_in : (r a p k : ℕ) → r < 14 → a < 2 → p < 2 → k ≡ figure_index r a p 0 → get_or (figures_in l).charges (k + 1) 0 ≡ word l (charges_at + k + 1)
  next_in r a p k hr ha hp e =
      let same : charges_at + (k + 1) ≡ charges_at + k + 1 = omega arith in
      charge_in (k + 1) (omega arith) ∙ ap (word l) same

  pub level_in : (a : ℕ) → a < 2 → get_or (figures_in l).levels a 0 ≡ word l (levels_at + a)
  unfolding figures_in
  level_in a h = word_at levels_at 2 l a h

  -- 13, 17 and 10
  module _ (desk r a p n : ℕ) where
    pub asked_numbered : (last : Bool) → Numbered (asked_in l desk r a p last)
    asked_numbered last =
        first_numbered (first (unless (in_ranges r a p && last) 13 Pass) (unless (may_query desk r) 17 Pass)) _
        (first_numbered (unless (in_ranges r a p && last) 13 Pass) _ (unless_numbered (in_ranges r a p && last) 13 (omega arith)) (unless_numbered (may_query desk r) 17 (omega arith)))
        (unless_numbered (flag_of (word l loaded_at)) 10 (omega arith))

    pub asked_passes : (last : Bool) → asked_in l desk r a p last ≡ Pass → ((in_ranges r a p && last) ≡ true) × ((book_in l).loaded ≡ true)
    asked_passes last e =
        let both = first_passes (first (unless (in_ranges r a p && last) 13 Pass) (unless (may_query desk r) 17 Pass)) (unless (flag_of (word l loaded_at)) 10 Pass) e in
        ((unless_passes (in_ranges r a p && last) 13 Pass (first_passes (unless (in_ranges r a p && last) 13 Pass) _ both.0).0).0, loaded_in ∙ (unless_passes (flag_of (word l loaded_at)) 10 Pass both.1).0)

    pub benchmark_in : benchmark_of (book_in l) desk r a p n
        ≡ checked refused (asked_in l desk r a p (ltb n 2)) (benchmark_charge (benchmark (book_in l).fields r a p n))
    benchmark_in =
        benchmark_answer (book_in l) desk r a p n
        ∙ ap (λ t. checked refused (first (first (unless (in_ranges r a p && ltb n 2) 13 Pass) (unless (may_query desk r) 17 Pass)) (unless t 10 Pass)) (benchmark_charge (benchmark (book_in l).fields r a p n))) loaded_in

    pub maximum_in_lem : maximum_of (book_in l) desk r a p n
        ≡ checked refused (asked_in l desk r a p (leb n 120000)) (maximum_charge (maximum_in (sheet_in (book_in l)) r a p n))
    maximum_in_lem =
        maximum_answer (book_in l) desk r a p n
        ∙ ap (λ t. checked refused (first (first (unless (in_ranges r a p && leb n 120000) 13 Pass) (unless (may_query desk r) 17 Pass)) (unless t 10 Pass)) (maximum_charge (maximum_in (sheet_in (book_in l)) r a p n))) loaded_in

  -- of a book that calls leave: the figures are those of the sheet, and the numbers of each cell fit
  module _ (from : Reachable (book_in l)) (loaded : (book_in l).loaded ≡ true) where
    pub charge_told : (r a p n : ℕ) → r < 14 → a < 2 → p < 2 → n < 2
        → pos (word l (charges_at + figure_index r a p n)) ≡ benchmark (book_in l).fields r a p n
    charge_told r a p n hr ha hp hn =
        ap pos (sym (charge_in (figure_index r a p n) (omega arith)) ∙ ap (λ f. get_or f.charges (figure_index r a p n) 0) (sym figures_in_lem))
        ∙ charge_is (book_in l) from loaded r a p n hr ha hp hn

    pub figures_told : figures_in l ≡ figures_of (sheet_in (book_in l))
    figures_told = sym figures_in_lem ∙ figures_are (book_in l) from loaded

    pub cell_fits : (r a p standing : ℕ) → r < 14 → a < 2 → p < 2 → standing ≤ standing_most
        → Fits (cell_numbers (figures_in l) a standing (cell r p))
    cell_fits r a p standing hr ha hp hs =
        subst (λ f. Fits (cell_numbers f a standing (cell r p))) figures_in_lem
        (numbers_fit (book_in l).benchmarks (figures_lawful (book_in l) from loaded) r a p standing hr ha hp hs)
