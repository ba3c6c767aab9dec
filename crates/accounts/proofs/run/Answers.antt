-- `accounts::run` meets its contract: a run that a search refuses returns before anything is written.
-- Assumes nothing.
use Rattle.std.proofs.Common.{◌≡◌, ℕ, ◌≤◌, ◌<◌, List, length, ◌∙◌, ap, arith}
use mathlib.Core.Option.{none, some}
use mathlib.Core.List.{map}
use Rattle.book.specs.declared.Book.{Book}
use Rattle.rebates.specs.declared.Account.{Account}
use Rattle.rebates.specs.declared.Run.{Run}
use Rattle.rebates.specs.declared.Run.TheVariants.{Accepted, Refused}
use Rattle.rebates.specs.Rebates.{fails19, fails18, first_place, repaid, total_of}
use Rattle.rebates.specs.Reading.{fails_by, place_or, answer_of}
use Rattle.rebates.proofs.Answers.{Right, right_19, right_18, right_total, few}
use Rattle.rebates.proofs.Scanned.{place_found, place_none}
use Rattle.accounts.proofs.run.Goals as goal

module _ (b : Book) (desk : ℕ) (ys : List Account) where
  -- what the search for a number finds
  abbrev found : ℕ → ℕ
  found m = place_or (length ys) (first_place (fails_by m b desk) ys)

  none_found : (m r : ℕ) → r ≡ found m → length ys ≤ r → first_place (fails_by m b desk) ys ≡ none
  none_found m r e h = place_none (fails_by m b desk) ys (λ l. omega arith)

  at_first : (m r : ℕ) → r ≡ found m → r < length ys → first_place (fails_by m b desk) ys ≡ some (found m)
  at_first m r e h = place_found (length ys) (first_place (fails_by m b desk) ys) (omega arith)

  at_19 : (r : ℕ) (t : Run) → r ≡ found 19 → t ≡ Refused 19 r → r < length ys → Right b desk ys t ys
  at_19 r t e et h =
      let g = right_19 b desk ys (found 19) (at_first 19 r e h) in
      (ap answer_of (et ∙ ap (Refused 19) e) ∙ g.0, g.1)

  at_18 : (r : ℕ) (t : Run) → first_place (fails19 b desk) ys ≡ none → r ≡ found 18 → t ≡ Refused 18 r → r < length ys → Right b desk ys t ys
  at_18 r t h₁₉ e et h =
      let g = right_18 b desk ys (found 18) h₁₉ (at_first 18 r e h) in
      (ap answer_of (et ∙ ap (Refused 18) e) ∙ g.0, g.1)

  at_total : (s : ℕ) (t : Run) (zs : List Account) → first_place (fails19 b desk) ys ≡ none → first_place (fails18 b) ys ≡ none
      → (s ≡ total_of b desk ys) × (zs ≡ map (repaid b desk) ys) → t ≡ Accepted s → Right b desk ys t zs
  at_total s t zs h₁₉ h₁₈ es et =
      let g = right_total b desk ys h₁₉ h₁₈ in
      (ap answer_of (et ∙ ap Accepted es.0) ∙ g.0, es.1 ∙ g.1)

pub returns-then-quoted-accounts : goal.returns-then-quoted-accounts
returns-then-quoted-accounts c =
    at_19 c.args.b c.args.desk c.args.accounts.now c.first_failing-quoted.result c.refused_at.result c.first_failing-quoted.ensures c.refused_at.ensures c.if-quoted-accounts.true

pub returns-then-directed-accounts : goal.returns-then-directed-accounts
returns-then-directed-accounts c =
    let h₁₉ = none_found c.args.b c.args.desk c.args.accounts.now 19 c.first_failing-quoted.result c.first_failing-quoted.ensures c.if-quoted-accounts.false in
    at_18 c.args.b c.args.desk c.args.accounts.now c.first_failing-directed.result c.refused_at-then-directed-accounts.result h₁₉ c.first_failing-directed.ensures c.refused_at-then-directed-accounts.ensures c.if-directed-accounts.true

pub write_rebates-requires : goal.write_rebates-requires
write_rebates-requires c =
    let h₁₉ = none_found c.args.b c.args.desk c.args.accounts.now 19 c.first_failing-quoted.result c.first_failing-quoted.ensures c.if-quoted-accounts.false in
    (c.requires, few c.args.b c.args.desk c.args.accounts.now h₁₉)

pub returns : goal.returns
returns c =
    let h₁₉ = none_found c.args.b c.args.desk c.args.accounts.now 19 c.first_failing-quoted.result c.first_failing-quoted.ensures c.if-quoted-accounts.false in
    let h₁₈ = none_found c.args.b c.args.desk c.args.accounts.now 18 c.first_failing-directed.result c.first_failing-directed.ensures c.if-directed-accounts.false in
    at_total c.args.b c.args.desk c.args.accounts.now c.write_rebates.result c.accepted.result c.write_rebates.new.accounts h₁₉ h₁₈ c.write_rebates.ensures c.accepted.ensures
