-- How the code hands on the answer of a check that refuses. Only the code's own functions are promised in these words;
-- specs/Queries.antt does without them.
-- Assumes nothing.
use Rattle.refusal.specs.declared.Check.{Check}
use Rattle.refusal.specs.declared.Check.TheVariants.{Pass, Refuse}
use Rattle.queries.specs.declared.Told.{Told}
use Rattle.queries.specs.declared.Told.TheVariants.{Refused}

-- a refusal has its number in the answer; a check that passes is never handed on
abbrev pub refusal_told : Check → Told
refusal_told Pass = Refused 0
refusal_told (Refuse n) = Refused n
