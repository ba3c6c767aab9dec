-- Errors with their texts.
-- Assumes nothing.
use mathlib.Core.Path.{◌≡◌, refl}
use Rattle.texts.specs.Texts.{bytes_of, digits_within, decimal}
use Rattle.naming.specs.declared.CodeStep.TheVariants.{Put, Open, Direct}
use Rattle.naming.specs.declared.Query.TheVariants.{Benchmark}
use Rattle.naming.specs.declared.Word.TheVariants.{Set, Undo, On, Tells, Rebate}
use Rattle.request.specs.declared.Request.TheVariants.{NoCall, NotANumber, WrongCount}
use Rattle.errors.specs.Errors.{problem_text}

set : problem_text 12 (WrongCount Set) ≡ bytes_of "error line 12: set takes at least 3 numbers\n"
unfolding decimal digits_within
set = refl

none : problem_text 12 (WrongCount Undo) ≡ bytes_of "error line 12: undo takes no number\n"
unfolding decimal digits_within
none = refl

put : problem_text 12 (WrongCount (On Put)) ≡ bytes_of "error line 12: put takes at least 1 number\n"
unfolding decimal digits_within
put = refl

one : problem_text 12 (WrongCount (On Open)) ≡ bytes_of "error line 12: open takes 1 number\n"
unfolding decimal digits_within
one = refl

direct : problem_text 12 (WrongCount (On Direct)) ≡ bytes_of "error line 12: direct takes 1 number\n"
unfolding decimal digits_within
direct = refl

four : problem_text 12 (WrongCount (Tells Benchmark)) ≡ bytes_of "error line 12: benchmark takes 4 numbers\n"
unfolding decimal digits_within
four = refl

rebate : problem_text 12 (WrongCount Rebate) ≡ bytes_of "error line 12: rebate takes 16 numbers an account\n"
unfolding decimal digits_within
rebate = refl

no_number : problem_text 12 (NotANumber 2) ≡ bytes_of "error line 12: word 2 is not a number from 0 to 4294967295\n"
unfolding decimal digits_within
no_number = refl

no_call : problem_text 12 NoCall ≡ bytes_of "error line 12: desk takes a number and a call\n"
unfolding decimal digits_within
no_call = refl
