-- What TRIAL tells holds: the calls before it are accepted, and the places judged by its sheet are known one by one.
-- Assumes nothing.
use mathlib.Core.Path.{◌≡◌, refl, sym, ◌∙◌, ap}
use mathlib.Core.Bool.{true, false}
use mathlib.Core.List.{List, [], ◌∷◌, map}
use Prim.Native.Nat.{ℕ}
use lib.ListN.{set, replicate}
use Rattle.laws.specs.Notions.{every, sum, tabulate, tabulate_from, set_of}
use Rattle.refusal.specs.declared.Check.TheVariants.{Pass, Refuse}
use Rattle.calendar.specs.Calendar.{period_in_range}
use Rattle.sheet.specs.Sheet.{signed, value_of, range_of, field_in_range, fields_in_range, round, round_signed, indexed, four_fit, paac_fits, terms_fit}
use Rattle.benchmark.specs.Benchmark.{benchmark, wc, pc, oc, nc, paenc, headroom, panc, figure, figures, ocs_fit, ordered, set_check}
use Rattle.tariff.specs.declared.Tariff.{Tariff}
use Rattle.tariff.specs.Tariff.{tariff_of, all_fourteen}
use Rattle.verdict.specs.Cells.{Verdict, verdict}
use Rattle.book.specs.declared.State.TheVariants.{Open}
use Rattle.book.specs.declared.Place.{Place}
use Rattle.book.specs.declared.Book.{Book}
use Rattle.book.specs.Calls.{Sheet, Act, SET, PUT, OPEN, CLOSE, call, Answer, accepted, cells, is_accepted}
use Rattle.book.specs.Checks.{figures_of, verdict_answer, answer}
use Rattle.book.specs.Book.{empty, place_with, fresh, book_readings, open_if, under, changed, step, book_after}
use Rattle.book.proofs.Steps.{made}
use Rattle.queries.specs.Queries.{falling}
use Rattle.trial.specs.Trial.{codes_where, trial_of}
use Rattle.trial.specs.Places.{fell_from}
use Rattle.trial.proofs.Trials.{trial_refused, trial_told}
use Rattle.reference.specs.SheetS.{sheet_s, times}
use Rattle.reference.specs.Splits.{day_dear}
use Rattle.reference.proofs.Table.{starred}
use Rattle.unlike.specs.SheetU.{lone_field, lone_pair}
use Rattle.worked.proofs.October.{october_accepted, october_low, october_close, october_dear, close_record}
use Rattle.worked.proofs.Lists.{is_opening, complying, passed, quarter_set, low_put, low_opens, other_set, seven_put, seven_opens, low_opens_too, dear_put, dear_opens}
use Rattle.worked.specs.Worked.{quarter, october, split_at, no_fields, low, close, dear_in5}
use Rattle.worked_refusals.specs.Refusals.{with_field, for_period, both_wrong, unordered, saving, term_and_oc, oc_and_order}
use Rattle.worked_queries.specs.Tried.{two_open, three_open, one_closed, other_split, dear_open, Tried}

-- a list of accepted calls, and the book that it leaves
pub data Makes : Book → List Act → Book → Type 0 where
  ended : {b : Book} → Makes b [] b
  then : {b d : Book} {a : Act} {acts : List Act} (x : Answer) → answer all_fourteen (book_readings b) a ≡ x → is_accepted x ≡ true → Makes (changed b a) acts d
      → Makes b (a ∷ acts) d

pub makes : {b d : Book} {acts : List Act} → Makes b acts d → book_after b (map call acts) ≡ d
unfolding book_after
makes ended = refl
makes (then {b} {d} {a} {acts} x e q m) = ap (λ c. book_after c (map call acts)) (made b (call a) x e q) ∙ makes m

pub close_opens : verdict_answer (verdict (figures_of quarter) (tariff_of close)) ≡ cells 28
close_opens = ap verdict_answer starred.verdicts.just_within

-- the five calls before each trial
abbrev two_opened : Book
two_opened = changed (changed (changed (changed (changed fresh (SET quarter)) (PUT 1 close)) (PUT 2 low)) (OPEN 1)) (OPEN 2)

five_then : {acts : List Act} {d : Book} → Makes two_opened acts d → Makes fresh (SET quarter ∷ PUT 1 close ∷ PUT 2 low ∷ OPEN 1 ∷ OPEN 2 ∷ acts) d
five_then m =
    then accepted quarter_set refl
    (then accepted (passed close_record) refl (then accepted low_put refl (then (cells 28) close_opens refl (then (cells 28) low_opens refl m))))

two_left : two_open ≡ two_opened
two_left = makes (five_then ended)

three_left : three_open ≡ changed (changed two_opened (PUT 32 close)) (OPEN 32)
three_left = makes (five_then (then accepted (passed close_record) refl (then (cells 28) close_opens refl ended)))

other_left : other_split ≡ changed (changed (changed (changed (changed fresh (SET (split_at 579))) (PUT 1 day_dear)) (PUT 2 low)) (OPEN 1)) (OPEN 2)
other_left =
    makes
    (then accepted other_set refl
    (then accepted seven_put refl (then accepted low_put refl (then (cells 28) seven_opens refl (then (cells 28) low_opens_too refl ended)))))

dear_left : dear_open ≡ changed (changed (changed (changed (changed fresh (SET quarter)) (PUT 1 dear_in5)) (PUT 2 low)) (OPEN 1)) (OPEN 2)
dear_left =
    makes
    (then accepted quarter_set refl
    (then accepted dear_put refl (then accepted low_put refl (then (cells 28) dear_opens refl (then (cells 28) low_opens refl ended)))))

closed_left : one_closed ≡ changed two_opened (CLOSE 1)
closed_left = makes (five_then (then accepted refl refl ended))

-- tariffs in places 1, 2 and 32
abbrev places_with : Place → Place → Place → List Place
places_with p q r = set (set (set (replicate 32 empty) 0 p) 1 q) 31 r

-- a trial on a book with such places, by what becomes of each under the sheet
pub told_by_lem : (b : Book) (s : Sheet) → set_check s.fields s.period ≡ Pass → (p q r p' q' r' : Place) (codes : ℕ) → b.places ≡ places_with p q r
    → under (figures_of s) p ≡ p' → under (figures_of s) q ≡ q' → under (figures_of s) r ≡ r' → codes_where (fell_from (places_with p q r) (places_with p' q' r')) ≡ codes
    → trial_of b all_fourteen s ≡ falling codes
told_by_lem b s e p q r p' q' r' codes h i j k n =
    trial_told b s e (places_with p' q' r') (sym (ap (map (under (figures_of s))) h ∙ λ t. places_with (i t) (j t) (k t)))
    ∙ ap (λ ps. falling (codes_where (fell_from ps (places_with p' q' r')))) h
    ∙ ap falling n

-- each of the two under October's sheet and under that of the quarter
pub judged : (s : Sheet) (x : Tariff) (v : Verdict) → verdict (figures_of s) x ≡ v → under (figures_of s) (place_with Open false x) ≡ place_with (open_if (is_opening v)) false x
judged s x v e = ap (λ t. place_with (open_if t) false x) (complying (figures_of s) x ∙ ap is_opening e)

-- the sheets that SET refuses
abbrev RefusedBy : Sheet → ℕ → Type 0
RefusedBy s n = set_check s.fields s.period ≡ Refuse n

refused_sheets : RefusedBy (split_at 1001) 2 × RefusedBy no_fields 1 × RefusedBy (with_field 94 0) 2 × RefusedBy both_wrong 2 × RefusedBy (for_period 2023 13 1) 3
    × RefusedBy (with_field 20 100000000) 4 × RefusedBy term_and_oc 4 × RefusedBy (saving 5250001) 14 × RefusedBy oc_and_order 14 × RefusedBy unordered 5
unfolding set_check fields_in_range field_in_range value_of signed range_of every sum terms_fit four_fit paac_fits ocs_fit ordered period_in_range figures figure tabulate tabulate_from benchmark wc pc oc nc paenc headroom panc indexed round round_signed sheet_s times lone_field lone_pair
refused_sheets = (refl, refl, refl, refl, refl, refl, refl, refl, refl, refl)

-- THE TRIALS
pub tried : Tried
unfolding trial_of step set_of
tried =
    record {
      one_falls =
          told_by_lem two_open october october_accepted _ _ _ _ _ _ 1 (ap (λ b. b.places) two_left)
          (judged october (tariff_of close) _ october_close) (judged october (tariff_of low) _ october_low) refl refl;
      last_place =
          told_by_lem three_open october october_accepted _ _ _ _ _ _ 2147483649 (ap (λ b. b.places) three_left)
          (judged october (tariff_of close) _ october_close) (judged october (tariff_of low) _ october_low)
          (judged october (tariff_of close) _ october_close) refl;
      split_falls =
          told_by_lem other_split quarter starred.accepted _ _ _ _ _ _ 1 (ap (λ b. b.places) other_left)
          (judged quarter (tariff_of day_dear) _ starred.verdicts.economy_over) (judged quarter (tariff_of low) _ starred.verdicts.within) refl refl;
      region_falls =
          told_by_lem dear_open october october_accepted _ _ _ _ _ _ 1 (ap (λ b. b.places) dear_left)
          (judged october (tariff_of dear_in5) _ october_dear) (judged october (tariff_of low) _ october_low) refl refl;
      draft_stays =
          told_by_lem one_closed october october_accepted _ _ _ _ _ _ 0 (ap (λ b. b.places) closed_left)
          refl (judged october (tariff_of low) _ october_low) refl refl;
      same_sheet =
          told_by_lem two_open quarter starred.accepted _ _ _ _ _ _ 0 (ap (λ b. b.places) two_left)
          (judged quarter (tariff_of close) _ starred.verdicts.just_within) (judged quarter (tariff_of low) _ starred.verdicts.within) refl refl;
      no_sheet_lem = rw october_accepted;
      refused_1 = trial_refused two_open no_fields 1 refused_sheets.1;
      refused_2 = (trial_refused two_open (with_field 94 0) 2 refused_sheets.2, trial_refused two_open both_wrong 2 refused_sheets.3, trial_refused two_open (split_at 1001) 2 refused_sheets.0);
      refused_3 = trial_refused two_open (for_period 2023 13 1) 3 refused_sheets.4;
      refused_4 = (trial_refused two_open (with_field 20 100000000) 4 refused_sheets.5, trial_refused two_open term_and_oc 4 refused_sheets.6);
      refused_14 = (trial_refused two_open (saving 5250001) 14 refused_sheets.7, trial_refused two_open oc_and_order 14 refused_sheets.8);
      refused_5 = trial_refused two_open unordered 5 refused_sheets.9;
    }
