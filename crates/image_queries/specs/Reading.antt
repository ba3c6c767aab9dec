-- How the code goes about the checks of BENCHMARK and MAXIMUM on an image. Only the code's own functions are promised in these words;
-- specs/Tells.antt does without them.
-- Assumes nothing.
use Rattle.std.specs.Prelude.{Bool, ◌&&◌, List, ℕ}
use Rattle.refusal.specs.declared.Check.{Check}
use Rattle.refusal.specs.declared.Check.TheVariants.{Pass}
use Rattle.refusal.specs.Checks.{unless, first}
use Rattle.desks.specs.Desks.{may_query}
use Rattle.queries.specs.Queries.{in_ranges}
use Rattle.image.specs.Layout.{loaded_at}
use Rattle.image.specs.Image.{word, flag_of}

-- 13, 17 and 10; `last` says whether the fourth argument is inside its range
abbrev pub asked_in : List ℕ → (desk region arrangement method : ℕ) → (last : Bool) → Check
asked_in l desk r a p last =
    first (first (unless (in_ranges r a p && last) 13 Pass) (unless (may_query desk r) 17 Pass)) (unless (flag_of (word l loaded_at)) 10 Pass)
