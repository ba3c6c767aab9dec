-- What the code reads at the start of a list that starts with an encoded call is that call.
-- Assumes nothing.
use mathlib.Core.Path.{◌≡◌, refl, sym, ◌∙◌, ap, ap₂, subst}
use mathlib.Core.List.{List, ◌++◌}
use Prim.Native.Nat.{ℕ, ◌+◌, ◌-◌, ◌≤◌, ◌<◌}
use native.Mathlib.Omega.{arith}
use lib.ListN.{length, get_or, drop, length-append, length-drop}
use lib.Seq.{drop-drop, take_at, drop_at}
use Rattle.book.specs.declared.Book.{Book}
use Rattle.book.specs.declared.Done.{Done}
use Rattle.book.specs.Calls.{sheet_at, Act, SET, PUT, OPEN, CLOSE, DROP, UNDO, ASK, CONFIRM, DIRECT, Call, by}
use Rattle.book.specs.Book.{step, Reachable}
use Rattle.book.specs.Promises.{answer_of, Does}
use Rattle.book.proofs.Reached.{does_reachable}
use Rattle.replay.specs.declared.Ran.{Ran}
use Rattle.replay.specs.Encoded.{encode_act, encode_call, number_of}
use Rattle.replay.specs.Running.{end_of, act_to, RanAt}

-- where SET and PUT end
pub set_end : (s : List ℕ) → get_or s 0 0 ≡ 0 → end_of s ≡ 5 + get_or s 4 0
set_end s e = rw e

pub put_end : (s : List ℕ) → get_or s 0 0 ≡ 1 → end_of s ≡ 3 + get_or s 2 0
put_end s e = rw e

-- what is known of a list that starts with an act
record Starts (s : List ℕ) (a : Act) (rest : List ℕ) : Type 0 where
  fits : end_of s ≤ length s
  asks : act_to s (end_of s) ≡ a
  left : drop (end_of s) s ≡ rest

decoded : (a : Act) (rest : List ℕ) → Starts (encode_act a ++ rest) a rest
decoded (SET x) rest =
    let n : length x.fields ≡ 5 + length x.fields - 5 = omega arith in
    record {
      fits = omega (arith, length-append x.fields rest);
      asks = ap (λ f. SET (sheet_at f x.period)) (take_at x.fields rest _ n);
      left = sym (drop-drop (length x.fields) 5 (encode_act (SET x) ++ rest)) ∙ drop_at x.fields rest _ refl;
    }
decoded (PUT k x) rest =
    let n : length x ≡ 3 + length x - 3 = omega arith in
    record {
      fits = omega (arith, length-append x rest);
      asks = ap (PUT k) (take_at x rest _ n);
      left = sym (drop-drop (length x) 3 (encode_act (PUT k x) ++ rest)) ∙ drop_at x rest _ refl;
    }
decoded (OPEN k) rest = record { fits = omega arith; asks = refl; left = refl }
decoded (CLOSE k) rest = record { fits = omega arith; asks = refl; left = refl }
decoded (DROP k) rest = record { fits = omega arith; asks = refl; left = refl }
decoded UNDO rest = record { fits = omega arith; asks = refl; left = refl }
decoded (ASK k) rest = record { fits = omega arith; asks = refl; left = refl }
decoded (CONFIRM k) rest = record { fits = omega arith; asks = refl; left = refl }
decoded (DIRECT k) rest = record { fits = omega arith; asks = refl; left = refl }

-- a list, and what is behind its first number, the desk
module _ (b : Book) (s t : List ℕ) (behind : t ≡ drop 1 s) (start : Reachable b) (r : Ran) where
  starts : (c : Call) (rest : List ℕ) → s ≡ encode_call c ++ rest → Starts t c.act rest
  starts c rest e = subst (λ l. Starts l c.act rest) (sym (behind ∙ ap (drop 1) e)) (decoded c.act rest)

  -- the call that stands there was made
  pub made_ran : (did : Done) → Does b (by (get_or s 0 0) (act_to t (end_of t))) did → 0 < length s → end_of t ≤ length t
      → (r.number ≡ number_of (answer_of did.reply did.months)) × (r.book ≡ did.book) × (r.end ≡ 1 + end_of t) → RanAt b s r
  made_ran did does h l g =
      record {
        reachable = subst Reachable (sym g.1) (does_reachable start does);
        within = omega (arith, g.2, ap length behind, length-drop 1 s);
        runs = λ c rest e.
            let w = starts c rest e in
            let same : by (get_or s 0 0) (act_to t (end_of t)) ≡ c = ap₂ by (ap (λ l. get_or l 0 0) e) w.asks in (
              g.0 ∙ ap number_of does.answers ∙ ap (λ d. number_of (step b d).answer) same,
              g.1 ∙ does.leaves ∙ ap (λ d. (step b d).book) same,
              ap (λ n. drop n s) g.2 ∙ sym (drop-drop (end_of t) 1 s) ∙ ap (drop (end_of t)) (sym behind) ∙ w.left,
            );
      }

  -- no call stands there
  pub none_ran : length t < end_of t → r.book ≡ b → r.end ≡ length s → RanAt b s r
  none_ran l g h =
      record {
        reachable = subst Reachable (sym g) start;
        within = omega arith;
        runs = λ c rest e. absurd (omega (arith, (starts c rest e).fits));
      }
