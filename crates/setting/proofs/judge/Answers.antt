-- `setting::judge` meets its contract. The figures worked out are those of the sheet, and every place is judged by them.
-- Assumes nothing.
use Rattle.std.proofs.Common.{◌≡◌, sym, ◌∙◌, ap, subst, map}
use Rattle.refusal.specs.declared.Check.{Check}
use Rattle.refusal.specs.declared.Check.TheVariants.{Pass}
use Rattle.benchmark.specs.declared.Benchmarks.{Benchmarks}
use Rattle.benchmark.specs.Benchmark.{benchmarks_of, set_check}
use Rattle.benchmark.specs.Lawful.{Lawful}
use Rattle.figures.specs.Working.{worked_if}
use Rattle.benchmark.proofs.Lawful.{lawful}
use Rattle.book.specs.Book.{under}
use Rattle.setting.proofs.judge.Goals as goal

-- all checks passed, so the figures are the sheet's, and lawful
pub all_judged-requires : goal.all_judged-requires
all_judged-requires c =
    let fields = c.args.fields.now in
    let passed : set_check fields c.args.period ≡ Pass = sym c.work_out-worked.ensures.0 ∙ c.in-Pass.is in
    let worked : c.work_out-worked.result.benchmarks ≡ benchmarks_of fields c.args.period =
    c.work_out-worked.ensures.1 ∙ ap (λ (k : Check). worked_if k (benchmarks_of fields c.args.period)) passed in
    (subst Lawful (sym worked) (lawful fields c.args.period passed), c.requires)

pub returns-in_default : goal.returns-in_default
returns-in_default c = record {
  checks = c.work_out-worked.ensures.0;
  works = λ p. absurd (c.in_default.not-Pass p);
  places = λ p. absurd (c.in_default.not-Pass p);
}

pub returns : goal.returns
returns c =
    let fields = c.args.fields.now in
    let passed : set_check fields c.args.period ≡ Pass = sym c.work_out-worked.ensures.0 ∙ c.in-Pass.is in
    let worked : c.work_out-worked.result.benchmarks ≡ benchmarks_of fields c.args.period =
    c.work_out-worked.ensures.1 ∙ ap (λ (k : Check). worked_if k (benchmarks_of fields c.args.period)) passed in
    record {
      checks = c.work_out-worked.ensures.0;
      works = λ p. worked;
      places = λ p. c.all_judged.ensures ∙ ap (λ (f : Benchmarks). map (under f) c.args.places) worked;
    }
