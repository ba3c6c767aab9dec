-- `rebates::due` meets its contract: a refused account has no rebate, and for the others QUOTE told the two figures of its cell, which fit.
-- Assumes nothing.
use Rattle.std.proofs.Common.{Bool, ◌≡◌, ℕ, ◌*◌, ◌≤◌, ◌<◌, length, get_or, sym, ◌∙◌, ap, arith, rules}
use mathlib.Core.Path.{ap₂}
use Rattle.laws.proofs.Every.{and_left, and_right}
use Rattle.shares.specs.Shares.{whole_share}
use Rattle.refusal.specs.declared.Check.TheVariants.{Pass}
use Rattle.benchmark.specs.declared.Benchmarks.{Benchmarks}
use Rattle.benchmark.specs.Lawful.{Lawful}
use Rattle.tariff.specs.declared.Tariff.{Tariff}
use Rattle.charge.specs.Charge.{arrangement}
use Rattle.charge.specs.Most.{months_most}
use Rattle.cap.specs.Cap.{scale}
use Rattle.cap.specs.Corners.{level_most}
use Rattle.verdict.specs.Cells.{Cell, cell, cell_numbers, tariff_numbers}
use Rattle.book.specs.declared.Book.{Book}
use Rattle.book.specs.declared.Place.{Place}
use Rattle.book.specs.Book.{tariff_in}
use Rattle.book.specs.Settling.{HasPlace}
use Rattle.stands.proofs.Placed.{place_lawful}
use Rattle.queries.specs.declared.Told.{Told}
use Rattle.queries.specs.Queries.{Quotation, quotation, telling_of}
use Rattle.quoting.specs.Quote.{cell_allowed, quote_of}
use Rattle.quoting.proofs.Answers.{Passes}
use Rattle.quoting.proofs.Ranges.{cell_within}
use Rattle.quoting.proofs.Listed.{months_within}
use Rattle.rebates.specs.declared.Account.{Account}
use Rattle.rebates.specs.Rebates.{months_in, quoted_of, rebate_of, due_of}
use Rattle.rebates.specs.Repaid.{rebate_most}
use Rattle.rebates.proofs.Most.{scale_some, scale_most, charged_most}
use Rattle.rebates.proofs.There.{figures_in, due_by_lem, too_many, listed, check, sides, passes_told, past, quoted_there, due_there}
use Rattle.rebates.proofs.due.Goals as goal

-- what the account is told, by what QUOTE answered
answered : (b : Book) (desk : ℕ) (a : Account) → a.count ≤ months_most → (t u : Told)
    → telling_of t ≡ quote_of b desk a.code a.region a.method (months_in a) → t ≡ u → quoted_of b desk a ≡ telling_of u
answered b desk a few t u e f = listed b desk a few ∙ sym e ∙ ap telling_of f

-- the scale, from the level that the code reads
scale_read : (f : Benchmarks) (x : Tariff) (c : Cell) (w : ℕ) → w ≡ get_or f.levels (arrangement x) 0 → 12 * whole_share * w ≡ scale (tariff_numbers f x c)
unfolding cell_numbers
scale_read f x c w e = ap (λ (n : ℕ). 12 * whole_share * n) e

-- where QUOTE told two figures
module _ {b : Book} {i : ℕ} {p : Place} {loaded : Bool} {f : Benchmarks} (desk : ℕ) (a : Account) (there : HasPlace b a.code i p loaded f) (few : a.count ≤ months_most) (q : Quotation) (told : quoted_of b desk a ≡ quotation q) where
  abbrev x : Tariff
  x = tariff_in p

  abbrev c : Cell
  c = cell a.region a.method

  passed : check desk a there few ≡ Pass
  passed = passes_told desk a there few q told

  -- they are those of the cell
  figures_told : q ≡ sides desk a there few (tariff_numbers f x c)
  figures_told = ap figures_in (sym told ∙ quoted_there desk a there few passed)

  its : Passes p loaded f.months a.region a.method (months_in a)
  its = past desk a there few passed

  law : Lawful f
  law = place_lawful there its.loaded

  -- a place has four rates and four steps
  charge_fits : length p.rates ≡ 4 → length p.steps ≡ 4 → q.charge ≤ rebate_most * scale (tariff_numbers f x c)
  charge_fits rates steps =
      let region = (cell_within x _ _ (and_left (cell_allowed x c.region c.method) _ its.allows)).0 in
      let months = months_within f.months (months_in a) (and_right (cell_allowed x c.region c.method) _ its.allows) in
      omega (arith, ap (λ (r : Quotation). r.charge) figures_told, charged_most f x c law its.valid rates steps region (months_in a) months)

  -- the scale that the code works with
  scale_fits : (w : ℕ) → w ≡ get_or f.levels (arrangement x) 0 → length p.rates ≡ 4 → length p.steps ≡ 4
      → (0 < 12 * whole_share * w) × (12 * whole_share * w ≤ 12 * whole_share * level_most) × (q.charge ≤ rebate_most * (12 * whole_share * w))
  scale_fits w e rates steps =
      let s = scale_read f x c w e in
      (omega (arith, s, scale_some f x c law), omega (arith, s, scale_most f x c law), omega (arith, s, charge_fits rates steps))

  rebate_is : (w : ℕ) → w ≡ get_or f.levels (arrangement x) 0 → rebate_of (12 * whole_share * w) q ≡ due_of b desk a
  rebate_is w e = ap₂ rebate_of (scale_read f x c w e) figures_told ∙ sym (due_there desk a there few passed)

pub returns-then-count-gt12 : goal.returns-then-count-gt12
returns-then-count-gt12 c = (λ b i there. sym (due_by_lem b c.args.desk c.args.a _ (too_many b c.args.desk c.args.a c.if-count-gt12.true)), omega arith)

pub rebate_of-requires : goal.rebate_of-requires
rebate_of-requires c =
    let there = c.requires.2 in
    let told = answered c.requires.0 c.args.desk c.args.a c.if-count-gt12.false _ _ (c.quote_at-told.ensures _ _ there) c.in-Quote.is in
    let level = c.wide.ensures ∙ ap (λ (i : ℕ). get_or c.args.figures.levels i 0) (c.arrangement_of-at.ensures.0 ∙ ap arrangement c.tariff_in.ensures) in
    let rates : length c.args.p.rates ≡ 4 = search rules in
    let steps : length c.args.p.steps ≡ 4 = search rules in
    scale_fits c.args.desk c.args.a there c.if-count-gt12.false (record { charge = c.in-Quote.charge; maximum = c.in-Quote.maximum }) told c.wide.result level rates steps

pub returns-in-Refused : goal.returns-in-Refused
returns-in-Refused c =
    (λ b i there. sym (due_by_lem b c.args.desk c.args.a _ (answered b c.args.desk c.args.a c.if-count-gt12.false _ _ (c.quote_at-told.ensures b i there) c.in-Refused.is)), omega arith)

pub returns-in-Benchmark : goal.returns-in-Benchmark
returns-in-Benchmark c =
    (λ b i there. sym (due_by_lem b c.args.desk c.args.a _ (answered b c.args.desk c.args.a c.if-count-gt12.false _ _ (c.quote_at-told.ensures b i there) c.in-Benchmark.is)), omega arith)

pub returns-in-Maximum : goal.returns-in-Maximum
returns-in-Maximum c =
    (λ b i there. sym (due_by_lem b c.args.desk c.args.a _ (answered b c.args.desk c.args.a c.if-count-gt12.false _ _ (c.quote_at-told.ensures b i there) c.in-Maximum.is)), omega arith)

pub returns-in-Falling : goal.returns-in-Falling
returns-in-Falling c =
    (λ b i there. sym (due_by_lem b c.args.desk c.args.a _ (answered b c.args.desk c.args.a c.if-count-gt12.false _ _ (c.quote_at-told.ensures b i there) c.in-Falling.is)), omega arith)

pub returns-in-Quote : goal.returns-in-Quote
returns-in-Quote c =
    let level = c.wide.ensures ∙ ap (λ (i : ℕ). get_or c.args.figures.levels i 0) (c.arrangement_of-at.ensures.0 ∙ ap arrangement c.tariff_in.ensures) in
    let q : Quotation = record { charge = c.in-Quote.charge; maximum = c.in-Quote.maximum } in (
      (λ b i there.
          let told = answered b c.args.desk c.args.a c.if-count-gt12.false _ _ (c.quote_at-told.ensures b i there) c.in-Quote.is in
          c.rebate_of.ensures.0 ∙ rebate_is c.args.desk c.args.a there c.if-count-gt12.false q told c.wide.result level),
      c.rebate_of.ensures.1,
    )
