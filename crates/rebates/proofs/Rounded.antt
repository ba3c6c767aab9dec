-- "charge less maximum in mills, rounded up, or 0": the rebate is the least number of mills that is enough, and the code's division gives it.
-- Assumes nothing.
use mathlib.Core.Path.{◌≡◌}
use mathlib.Core.Bool.{Bool}
use Prim.Native.Nat.{ℕ, ◌+◌, ◌-◌, ◌*◌, ◌/◌, ◌≤◌, ◌<◌}
use native.Mathlib.Decide.{dec_lt}
use native.Mathlib.Nat.{div-lt_iff_lt-mul, lt-div-mul-add, suc-mul, le-mul_of_pos_right}
use native.Mathlib.Numerals.{add-one}
use native.Mathlib.Omega.{arith}
use lib.Dec.{leb}
use borrow.Author.Tests.{leb-true, leb-false, le-leb, lt-leb}
use Rattle.laws.specs.Least.{Least}
use Rattle.laws.proofs.Least.{least_is, least_one}
use Rattle.queries.specs.Queries.{Quotation}
use Rattle.rebates.specs.Rebates.{rebate_of}

module _ (scale : ℕ) (q : Quotation) (some-scale : 0 < scale) where
  -- so many mills are enough
  abbrev enough : ℕ → Bool
  enough mills = leb q.charge (q.maximum + mills * scale)

  pub rebate_least : Least enough (rebate_of scale q)
  unfolding rebate_of
  rebate_least =
      least_is enough q.charge (le-leb q.charge (q.maximum + q.charge * scale) (omega (arith, le-mul_of_pos_right q.charge some-scale)))

  -- the charge less the rebate is at most the maximum; a mill less would not do
  pub rebate_enough : q.charge ≤ q.maximum + rebate_of scale q * scale
  rebate_enough = leb-true q.charge (q.maximum + rebate_of scale q * scale) rebate_least.there

  pub rebate_no_less : 0 < rebate_of scale q → q.maximum + (rebate_of scale q - 1) * scale < q.charge
  rebate_no_less h =
      leb-false q.charge (q.maximum + (rebate_of scale q - 1) * scale) (rebate_least.below (rebate_of scale q - 1) (omega arith))

  -- the division, rounded up
  abbrev divided : ℕ
  divided = (q.charge - q.maximum + (scale - 1)) / scale

  divided_at_most : (mills : ℕ) → q.charge ≤ q.maximum + mills * scale → divided ≤ mills
  divided_at_most mills h =
      let e : q.charge - q.maximum + (scale - 1) < (mills + 1) * scale = rw (add-one, suc-mul) (omega arith) in
      omega (arith, (div-lt_iff_lt-mul {k = scale} {x = q.charge - q.maximum + (scale - 1)} {y = mills + 1} some-scale).1 e)

  divided_least : Least enough divided
  divided_least =
      record {
        there = le-leb q.charge (q.maximum + divided * scale) (omega (arith, lt-div-mul-add {a = q.charge - q.maximum + (scale - 1)} {b = scale} some-scale));
        below = λ mills l. lt-leb q.charge (q.maximum + mills * scale) (too_few mills l (dec_lt (q.maximum + mills * scale) q.charge));
      }
    where
      too_few : (mills : ℕ) → mills < divided → Dec (q.maximum + mills * scale < q.charge) → q.maximum + mills * scale < q.charge
      too_few mills l (yes h) = h
      too_few mills l (no h) = absurd (omega (arith, divided_at_most mills (omega arith)))

  pub rebate_divided : rebate_of scale q ≡ divided
  rebate_divided = least_one enough (rebate_of scale q) divided rebate_least divided_least

  -- where the charge is at most the maximum
  pub rebate_none : q.charge ≤ q.maximum → rebate_of scale q ≡ 0
  rebate_none h =
      least_one enough (rebate_of scale q) 0 rebate_least
      (record { there = le-leb q.charge (q.maximum + 0 * scale) (omega arith); below = λ x l. absurd (omega arith) })

  -- no rebate is above the charge in mills
  pub rebate_at_most : (most : ℕ) → q.charge ≤ most * scale → rebate_of scale q ≤ most
  rebate_at_most most h = rw rebate_divided (divided_at_most most (omega arith))
