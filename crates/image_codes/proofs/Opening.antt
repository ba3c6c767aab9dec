-- OPEN, ASK and CONFIRM on an image: the struct says their answer, and what it does not say is 0.
-- Assumes nothing.
use mathlib.Core.Path.{◌≡◌, refl, sym, ◌∙◌, ap, subst}
use mathlib.Core.Bool.{Bool, true, false, not, cond}
use mathlib.Core.List.{List}
use mathlib.Core.Logic.{◌≢◌}
use mathlib.Core.Option.{Option, none, some}
use Prim.Native.Nat.{ℕ, ◌≤◌, ◌<◌}
use native.Mathlib.Omega.{arith}
use borrow.Author.Tests.{ne_eqb}
use Rattle.laws.proofs.Never.{never}
use Rattle.laws.proofs.Lists.{noughts}
use Rattle.refusal.specs.Checks.{need, given}
use Rattle.benchmark.specs.declared.Benchmarks.{Benchmarks}
use Rattle.benchmark.specs.Lawful.{Lawful}
use Rattle.verdict.specs.Cells.{Verdict, verdict}
use Rattle.verdict.specs.Cells as verdicts
use Rattle.book.specs.declared.Reply.{Reply}
use Rattle.book.specs.declared.Reply.TheVariants as reply
use Rattle.book.specs.declared.Place.{Place}
use Rattle.book.specs.declared.Settled.{Settled}
use Rattle.book.specs.declared.Book.{Book}
use Rattle.book.specs.Calls.{Sheet, Call, by, Answer, accepted, cells, refused, over}
use Rattle.book.specs.Checks.{Holding, inside, figures_of, verdict_answer, may_use_held, open_answer, confirm_answer}
use Rattle.book.specs.Book.{held, place_of, in_force, with_state, step, Reachable}
use Rattle.book.specs.Promises.{answer_of, NoughtPast, Does}
use Rattle.book.specs.Settling.{accepted_by, settled_in}
use Rattle.codes.specs.declared.CodeAct.{CodeAct}
use Rattle.codes.specs.declared.CodeAct.TheVariants.{Open, Close, Drop, Ask, Confirm}
use Rattle.stands.specs.Stands.{HoldsValid}
use Rattle.codes.specs.Codes.{act_on, place_on, SettlesOn, Judgeable}
use Rattle.image.specs.Layout.{start_of}
use Rattle.image.specs.Image.{state_of, place_at, book_in, is_image}
use Rattle.image.specs.Changing.{no_book, number_of, Changes}
use Rattle.image_codes.specs.declared.Opened.{Opened}
use Rattle.image_codes.specs.Opening.{plain, opened_of, answer_in, OthersNought, Opens, CarriesCells, state_after, HandedOn}
use Rattle.image_codes.proofs.Calls.{settled_place, refused_on, accepted_on}

-- the answers that the struct can say: the number of cells, a refusal by its number, and one over the cap
abbrev Sayable : Answer → Type 0
Sayable accepted = ⊥
Sayable (cells n) = Unit {0}
Sayable (refused n) = (n ≢ 0) × (n ≢ 11)
Sayable (over c months e) = Unit {0}

said : (q : Reply) (months : List ℕ) → Sayable (answer_of q months) → answer_in (opened_of q months) ≡ answer_of q months
said reply.Accepted months h = absurd h
said (reply.Cells n) months h = refl
said (reply.Refused n) months h = rw (ne_eqb n 0 h.0, ne_eqb n 11 h.1)
said (reply.Over region method t excess) months h = refl

-- each of the three calls answers so
need_sayable : (t : Bool) (n : ℕ) (a : Answer) → n ≢ 0 → n ≢ 11 → Sayable a → Sayable (need refused t n a)
need_sayable true n a z e h = h
need_sayable false n a z e h = (z, e)

given_sayable : {A : Type 0} (o : Option A) (n : ℕ) (next : A → Answer) → n ≢ 0 → n ≢ 11 → ((x : A) → Sayable (next x)) → Sayable (given refused o n next)
given_sayable none n next z e h = (z, e)
given_sayable (some x) n next z e h = h x

verdict_sayable : (d : Bool) (v : Verdict) → Sayable (cond d (cells 0) (verdict_answer v))
verdict_sayable true v = tt
verdict_sayable false (verdicts.opens n) = tt
verdict_sayable false (verdicts.over c months e) = tt

open_sayable : (desk k : ℕ) (held : Option Holding) (sheet : Option Sheet) → Sayable (open_answer desk k held sheet)
open_sayable desk k held sheet =
    need_sayable (inside k) 6 _ (λ e. omega arith) (λ e. omega arith)
    (given_sayable held 9 _ (λ e. omega arith) (λ e. omega arith)
    (λ h. need_sayable (may_use_held desk h) 17 _ (λ e. omega arith) (λ e. omega arith)
    (need_sayable (not h.is_open) 7 _ (λ e. omega arith) (λ e. omega arith)
    (given_sayable sheet 10 _ (λ e. omega arith) (λ e. omega arith) (λ s. verdict_sayable h.is_directed (verdict (figures_of s) h.tariff))))))

confirm_sayable : (desk k : ℕ) (held : Option Holding) → Sayable (confirm_answer desk k held)
confirm_sayable desk k held =
    need_sayable (inside k) 6 _ (λ e. omega arith) (λ e. omega arith)
    (given_sayable held 9 _ (λ e. omega arith) (λ e. omega arith)
    (λ h. need_sayable (may_use_held desk h) 17 _ (λ e. omega arith) (λ e. omega arith)
    (need_sayable (not h.is_open) 7 _ (λ e. omega arith) (λ e. omega arith) (need_sayable h.is_marked 16 _ (λ e. omega arith) (λ e. omega arith) tt))))

act_sayable : (desk k : ℕ) (a : CodeAct) → CarriesCells a → (b : Book) → Sayable (step b (by desk (act_on a k))).answer
unfolding step
act_sayable desk k Open h b = open_sayable desk k (held (place_of b.places k)) (in_force b)
act_sayable desk k Close h b = absurd h
act_sayable desk k Drop h b = absurd h
act_sayable desk k Ask h b = open_sayable desk k (held (place_of b.places k)) (in_force b)
act_sayable desk k Confirm h b = confirm_sayable desk k (held (place_of b.places k))

-- the number of the struct, and what it does not say
number_there : (q : Reply) (months other : List ℕ) → (opened_of q months).refusal ≡ number_of (answer_of q other)
number_there reply.Accepted months other = refl
number_there (reply.Cells n) months other = refl
number_there (reply.Refused n) months other = refl
number_there (reply.Over region method t excess) months other = refl

accepted_nought : (q : Reply) (months : List ℕ) → accepted_by q ≡ true → (opened_of q months).refusal ≡ 0
accepted_nought reply.Accepted months e = refl
accepted_nought (reply.Cells n) months e = refl
accepted_nought (reply.Refused n) months e = never (cc)
accepted_nought (reply.Over region method t excess) months e = never (cc)

cells_nought : (n : ℕ) → OthersNought (plain 0 n)
cells_nought n =
    record { cells = λ e. absurd (e refl); figures = λ e. (refl, refl, refl, refl); months = λ j h. noughts 12 j }

refusal_nought : (n : ℕ) → OthersNought (plain n 0)
refusal_nought n = record { cells = λ e. refl; figures = λ e. (refl, refl, refl, refl); months = λ j h. noughts 12 j }

others_there : (q : Reply) (months : List ℕ) → NoughtPast q months → OthersNought (opened_of q months)
others_there reply.Accepted months h = cells_nought 0
others_there (reply.Cells n) months h = cells_nought n
others_there (reply.Refused n) months h = refusal_nought n
others_there (reply.Over region method t excess) months h =
    record { cells = λ e. refl; figures = λ e. absurd (e refl); months = λ j k. h j k }

-- no image, or words that no list of calls leaves
pub no_book_opens : (c : Call) (l : List ℕ) (r : Opened) → r ≡ plain no_book 0 → (is_image l ≡ true → Reachable (book_in l) → ⊥) → Opens c l r l
no_book_opens c l r is n =
    subst (λ o. Opens c l o l) (sym is)
    (record {
      changes =
          record {
            no_book_lem = λ e. refl;
            answers = λ e from. absurd (n e from);
            leaves = λ e from. absurd (n e from);
            untouched = λ e. refl;
            remains = refl;
            stays_canonical = λ h. h;
          };
      says = λ e from. absurd (n e from);
      others_nought = refusal_nought no_book;
    })

-- the state that an act leaves
placed : (a : CodeAct) → CarriesCells a → (p : Place) → place_on a p ≡ with_state (state_of (state_after a)) p
placed Open h p = refl
placed Close h p = absurd h
placed Drop h p = absurd h
placed Ask h p = refl
placed Confirm h p = refl

pub state_small : (a : CodeAct) → state_after a ≤ 3
state_small Open = omega arith
state_small Close = omega arith
state_small Drop = omega arith
state_small Ask = omega arith
state_small Confirm = omega arith

-- what is tested lets each of them judge
pub tested : (a : CodeAct) (p : Place) (loaded : Bool) (figures : Benchmarks) → (loaded ≡ true → Lawful figures) → HoldsValid p → Judgeable a p loaded figures
tested Open p loaded figures f h = (f, h)
tested Close p loaded figures f h = tt
tested Drop p loaded figures f h = tt
tested Ask p loaded figures f h = (f, h)
tested Confirm p loaded figures f h = tt

-- a test is not passed and failed
pub clash : (t : Bool) → t ≡ true → t ≡ false → ⊥
clash t e f = never (cc)

-- settled and handed on
module _ (desk k : ℕ) (a : CodeAct) (carries : CarriesCells a) (l m : List ℕ) (i : ℕ) (p : Place) (loaded : Bool) (figures : Benchmarks) (s : Settled) (r : Opened)
    (is : is_image l ≡ true) (h : i < 32) (there : p ≡ place_at l (start_of i)) (settles : SettlesOn a desk k p loaded figures s)
    (does : Reachable (book_in l) → Does (book_in l) (by desk (act_on a k)) (settled_in (book_in l) i s)) (on : HandedOn l i (state_after a) s r m) where
  changed_by : (t : Bool) → accepted_by s.reply ≡ t → Changes (by desk (act_on a k)) l r.refusal m
  changed_by true e =
      subst (λ n. Changes (by desk (act_on a k)) l n m) (sym (ap (λ (o : Opened). o.refusal) on.answers ∙ accepted_nought s.reply s.months e))
      (accepted_on (by desk (act_on a k)) l i s is does m _ h e (on.accepted e) (settled_place _ _ _ _ s settles e ∙ placed a carries p ∙ ap (with_state (state_of (state_after a))) there))
  changed_by false e =
      subst (λ n. Changes (by desk (act_on a k)) l r.refusal n) (sym (on.refused e))
      (refused_on (by desk (act_on a k)) l i s is does r.refusal (λ other. ap (λ (o : Opened). o.refusal) on.answers ∙ number_there s.reply s.months other) e)

  pub handed_on : Opens (by desk (act_on a k)) l r m
  handed_on =
      record {
        changes = changed_by (accepted_by s.reply) refl;
        says = λ e from.
            ap answer_in on.answers
            ∙ said s.reply s.months (subst Sayable (sym (does from).answers) (act_sayable desk k a carries (book_in l)))
            ∙ (does from).answers;
        others_nought = subst OthersNought (sym on.answers) (others_there s.reply s.months settles.rest_nought);
      }
