-- Nobody is left above the cap: what the rebate due to an account comes to, in the charge and the maximum of its cell.
-- Assumes nothing.
use Rattle.std.specs.Prelude.{◌≡◌, ℕ, ◌+◌, ◌-◌, ◌*◌, ◌<◌, ◌≤◌}
use Rattle.std.proofs.Math.Option.{some}
use Rattle.tariff.specs.Tariff.{rate_most, standing_most}
use Rattle.charge.specs.Charge.{month_most}
use Rattle.charge.specs.Most.{months_most, days_most}
use Rattle.cap.specs.Cap.{scale, charged, capped}
use Rattle.book.specs.declared.Book.{Book}
use Rattle.book.specs.Calls.{Sheet}
use Rattle.book.specs.Checks.{Holding}
use Rattle.book.specs.Book.{in_force, book_readings}
use Rattle.rebates.specs.declared.Account.{Account}
use Rattle.rebates.specs.Rebates.{months_in, numbers_for, due_of}

-- of an account that QUOTE tells of (proofs/Repaid.antt, `repaid_exactly`): with the sheet in force and the tariff of its code, the charge less
-- the rebate is at most the maximum; and a mill less would not do, unless the rebate is 0. All are times the scale
pub record Repaid (b : Book) (desk : ℕ) (a : Account) : Type 0 where
  pub sheet : Sheet
  pub in_force_lem : in_force b ≡ some sheet
  pub holding : Holding
  pub held : (book_readings b).held a.code ≡ some holding
  pub within : let e = numbers_for sheet holding a in
      charged e holding.tariff (months_in a) ≤ capped e (months_in a) + due_of b desk a * scale e
  pub no_less : let e = numbers_for sheet holding a in
      0 < due_of b desk a → capped e (months_in a) + (due_of b desk a - 1) * scale e < charged e holding.tariff (months_in a)

-- no charge of a period, and so no rebate, is more than this in mills
abbrev pub rebate_most : ℕ
rebate_most = standing_most * days_most + months_most * (rate_most * month_most)
