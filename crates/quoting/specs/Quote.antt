-- QUOTE of document 01: what it answers, on refused input too.
-- Assumes nothing.
use Rattle.std.specs.Prelude.{Bool, ◌&&◌, List, ℕ, leb, ltb, eqb, length, get_or}
use Rattle.laws.specs.Notions.{every}
use Rattle.refusal.specs.Checks.{need, given}
use Rattle.tariff.specs.declared.Tariff.{Tariff}
use Rattle.charge.specs.Charge.{month_most}
use Rattle.cap.specs.Cap.{charged, capped}
use Rattle.verdict.specs.Cells.{cell, offered, tariff_numbers}
use Rattle.book.specs.declared.Book.{Book}
use Rattle.book.specs.Calls.{Sheet}
use Rattle.book.specs.Checks.{figures_of, inside, may_use_held}
use Rattle.book.specs.Book.{in_force, book_readings}
use Rattle.queries.specs.Queries.{Quotation, Telling, refused, quotation}

-- "13: region or method not offered, the list not t long, or a month above 10,000"
unfoldable pub cell_allowed : Tariff → ℕ → ℕ → Bool
cell_allowed x region method = ltb region 14 && ltb method 2 && offered x (cell region method)

unfoldable pub months_allowed : ℕ → List ℕ → Bool
months_allowed t months = eqb (length months) t && every (length months) (λ i. leb (get_or months i 0) month_most)

-- Gives "times the charge and times the maximum", each so scaled.
abbrev pub quotation_in : Sheet → Tariff → ℕ → ℕ → List ℕ → Quotation
quotation_in s x region method months =
    let e = tariff_numbers (figures_of s) x (cell region method) in record { charge = charged e x months; maximum = capped e months }

-- QUOTE (code, region, method, months), of a desk. 6: code outside 1 to 32. 9: the place is empty. 10. 13. 17: the tariff is not offered in the
-- desk's regions alone. "Drafts can be quoted."
unfoldable pub quote_of : Book → (desk : ℕ) → ℕ → ℕ → ℕ → List ℕ → Telling
quote_of b desk k region method months =
    need refused (inside k) 6
    (given refused ((book_readings b).held k) 9
    (λ h. given refused (in_force b) 10
    (λ s. need refused (cell_allowed h.tariff region method && months_allowed s.period.months months) 13
    (need refused (may_use_held desk h) 17 (quotation (quotation_in s h.tariff region method months))))))
