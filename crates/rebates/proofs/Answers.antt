-- The three ways the run ends, and that a list in which nothing is refused with 19 has at most 1,000,000 accounts.
-- Assumes nothing.
use mathlib.Core.Path.{◌≡◌, refl}
use mathlib.Core.Bool.{true}
use mathlib.Core.List.{List, map}
use mathlib.Core.Option.{none, some}
use Prim.Native.Nat.{ℕ, ◌+◌, ◌≤◌, ◌<◌}
use native.Mathlib.Decide.{dec_lt}
use native.Mathlib.Omega.{arith}
use lib.ListN.{length, get_or}
use Rattle.laws.proofs.Never.{never}
use Rattle.book.specs.declared.Book.{Book}
use Rattle.rebates.specs.declared.Account.{Account}
use Rattle.rebates.specs.declared.Run.{Run}
use Rattle.rebates.specs.declared.Run.TheVariants.{Accepted, Refused}
use Rattle.rebates.specs.Rebates.{places_most, fails19, fails18, first_place, repaid, total_of, run_of, after_run}
use Rattle.rebates.specs.Reading.{no_account, answer_of}
use Rattle.rebates.proofs.Scanned.{none_fails}

module _ (b : Book) (desk : ℕ) (l : List Account) where
  late_fails : (a : Account) → fails19 b desk (0 + places_most) a ≡ true
  unfolding fails19
  late_fails a = refl

  pub few : first_place (fails19 b desk) l ≡ none → length l ≤ places_most
  few e = go (dec_lt places_most (length l))
    where
      go : Dec (places_most < length l) → length l ≤ places_most
      go (yes h) = let x = late_fails (get_or l places_most no_account) in let y = none_fails (fails19 b desk) l 0 places_most e h in never (cc)
      go (no h) = omega arith

  -- what the run's contract says of an answer and a last list
  abbrev pub Right : Run → List Account → Type 0
  Right t zs = (answer_of t ≡ run_of b desk l) × (zs ≡ after_run b desk l)

  pub right_19 : (k : ℕ) → first_place (fails19 b desk) l ≡ some k → Right (Refused 19 k) l
  unfolding run_of after_run
  right_19 k h = (rw h, rw h)

  pub right_18 : (k : ℕ) → first_place (fails19 b desk) l ≡ none → first_place (fails18 b) l ≡ some k → Right (Refused 18 k) l
  unfolding run_of after_run
  right_18 k h j = (rw (h, j), rw (h, j))

  pub right_total : first_place (fails19 b desk) l ≡ none → first_place (fails18 b) l ≡ none → Right (Accepted (total_of b desk l)) (map (repaid b desk) l)
  unfolding run_of after_run
  right_total h j = (rw (h, j), rw (h, j))
