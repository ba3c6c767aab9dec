-- One call of a list that is run.
-- Assumes nothing.
use Rattle.std.specs.Prelude.{◌≡◌, cond, List, ◌++◌, ℕ, ◌+◌, ◌-◌, ◌≤◌, eqb, leb, length, get_or, take, drop}
use Rattle.book.specs.declared.Book.{Book}
use Rattle.book.specs.Calls.{sheet_at, Act, SET, PUT, UNDO, DIRECT, Call}
use Rattle.book.specs.Book.{step, Reachable}
use Rattle.codes.specs.declared.CodeAct.{CodeAct}
use Rattle.codes.specs.declared.CodeAct.TheVariants.{Open, Close, Drop, Ask, Confirm}
use Rattle.codes.specs.Codes.{act_on}
use Rattle.replay.specs.declared.Ran.{Ran}
use Rattle.replay.specs.Encoded.{encode_call, number_of}

-- Whatever numbers a list has, the code takes its first for a desk and the next for that of an act. Of what is behind the desk: where the act
-- ends, past the list where none stands there, and which it is (proofs/Decode.antt, `decoded`).
abbrev pub end_of : List ℕ → ℕ
end_of s =
    cond (eqb (get_or s 0 0) 0) (5 + get_or s 4 0)
    (cond (eqb (get_or s 0 0) 1) (3 + get_or s 2 0) (cond (eqb (get_or s 0 0) 5) 1 (cond (leb (get_or s 0 0) 8) 2 (length s + 1))))

abbrev pub set_to : List ℕ → ℕ → Act
set_to s end = SET (sheet_at (take (end - 5) (drop 5 s)) (record { year = get_or s 1 0; month = get_or s 2 0; months = get_or s 3 0 }))

abbrev pub put_to : List ℕ → ℕ → Act
put_to s end = PUT (get_or s 1 0) (take (end - 3) (drop 3 s))

abbrev pub code_act_of : ℕ → CodeAct
code_act_of op = cond (eqb op 2) Open (cond (eqb op 3) Close (cond (eqb op 4) Drop (cond (eqb op 6) Ask Confirm)))

abbrev pub act_to : List ℕ → ℕ → Act
act_to s end =
    cond (eqb (get_or s 0 0) 0) (set_to s end)
    (cond (eqb (get_or s 0 0) 1) (put_to s end)
    (cond (eqb (get_or s 0 0) 5) UNDO (cond (eqb (get_or s 0 0) 8) (DIRECT (get_or s 1 0)) (act_on (code_act_of (get_or s 0 0)) (get_or s 1 0)))))

-- what ran at the start of a list, on a book: the book after it is reachable, and where a call stands there, it was that call, done as
-- `step` says, and what follows it is left
pub record RanAt (b : Book) (s : List ℕ) (r : Ran) : Type 0 where
  pub reachable : Reachable r.book
  pub within : r.end ≤ length s
  pub runs : (c : Call) (rest : List ℕ) → s ≡ encode_call c ++ rest
      → (r.number ≡ number_of (step b c).answer) × (r.book ≡ (step b c).book) × (drop r.end s ≡ rest)
