-- Laws of how many numbers a call takes.
-- Assumes nothing.
use mathlib.Core.Path.{◌≡◌}
use mathlib.Core.Bool.{true}
use Prim.Native.Nat.{ℕ, ◌*◌, ◌/◌, ◌<◌}
use native.Mathlib.Omega.{arith}
use borrow.Author.Tests.{leb-true, eqb-true}
use Rattle.naming.specs.declared.CodeStep.TheVariants.{Put, Open, Close, Drop, Ask, Confirm, Direct}
use Rattle.naming.specs.declared.Query.TheVariants.{Benchmark, Maximum, Quote, Trial}
use Rattle.naming.specs.declared.Word.{Word}
use Rattle.naming.specs.declared.Word.TheVariants.{Set, Undo, On, Tells, Rebate}
use Rattle.naming.specs.declared.Arity.{Arity}
use Rattle.naming.specs.declared.Arity.TheVariants.{Exactly, AtLeast, Each}
use Rattle.naming.specs.Naming.{account_numbers, arity, right_count, RightCount}

-- the count is right
pub counted : (a : Arity) (n : ℕ) → right_count a n ≡ true → RightCount a n
counted (Exactly k) n e = eqb-true n k e
counted (AtLeast k) n e = leb-true k n e
counted (Each k) n e = eqb-true _ 0 e

-- the numbers of REBATE are those of whole accounts
pub whole_accounts : (n : ℕ) → RightCount (arity Rebate) n → n ≡ n / account_numbers * account_numbers
whole_accounts n h = omega (arith, h)

-- so many for each account are one at least
abbrev pub SomeEach : Arity → Type 0
SomeEach (Exactly k) = Unit {0}
SomeEach (AtLeast k) = Unit {0}
SomeEach (Each k) = 0 < k

pub some_each : (w : Word) → SomeEach (arity w)
some_each Set = tt
some_each Undo = tt
some_each (On Put) = tt
some_each (On Open) = tt
some_each (On Close) = tt
some_each (On Drop) = tt
some_each (On Ask) = tt
some_each (On Confirm) = tt
some_each (On Direct) = tt
some_each (Tells Benchmark) = tt
some_each (Tells Maximum) = tt
some_each (Tells Quote) = tt
some_each (Tells Trial) = tt
some_each Rebate = omega arith
