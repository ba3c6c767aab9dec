-- The answers to lines that are no calls, word for word, each with its line feed.
-- Assumes nothing.
use Rattle.std.specs.Prelude.{cond, List, [], ◌++◌, ℕ, eqb}
use Rattle.texts.specs.Texts.{bytes_of, decimal}
use Rattle.naming.specs.declared.Arity.{Arity}
use Rattle.naming.specs.declared.Arity.TheVariants.{Exactly, AtLeast, Each}
use Rattle.naming.specs.Naming.{name_of, arity}
use Rattle.request.specs.declared.Request.{Request}
use Rattle.request.specs.declared.Request.TheVariants.{Nothing, Asks, NoCall, Unknown, NotANumber, WrongCount}

-- error line L: WHAT
abbrev pub error_start : ℕ → List ℕ
error_start l = bytes_of "error line " ++ decimal l ++ bytes_of ": "

abbrev pub too_long : ℕ → List ℕ
too_long l = error_start l ++ bytes_of "longer than 16384 bytes\n"

abbrev pub not_a_number_text : ℕ → List ℕ
not_a_number_text k = bytes_of "word " ++ decimal k ++ bytes_of " is not a number from 0 to 4294967295\n"

-- how many numbers a call takes, behind a text
abbrev pub count_text : List ℕ → ℕ → List ℕ
count_text text n = text ++ decimal n ++ cond (eqb n 1) (bytes_of " number\n") (bytes_of " numbers\n")

abbrev pub arity_text : Arity → List ℕ
arity_text (Exactly n) = cond (eqb n 0) (bytes_of " takes no number\n") (count_text (bytes_of " takes ") n)
arity_text (AtLeast n) = count_text (bytes_of " takes at least ") n
arity_text (Each n) = bytes_of " takes " ++ decimal n ++ bytes_of " numbers an account\n"

-- what is answered, at line l, to a line that is no call
abbrev pub problem_text : ℕ → Request → List ℕ
problem_text l Nothing = []
problem_text l (Asks desk w n) = []
problem_text l NoCall = error_start l ++ bytes_of "desk takes a number and a call\n"
problem_text l Unknown = error_start l ++ bytes_of "unknown call\n"
problem_text l (NotANumber k) = error_start l ++ not_a_number_text k
problem_text l (WrongCount w) = error_start l ++ (name_of w ++ arity_text (arity w))

-- room enough for any error
abbrev pub error_room : ℕ
error_room = 97
