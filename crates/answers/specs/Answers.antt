-- The answers of the calls, word for word, each with its line feed.
-- Assumes nothing.
use Rattle.std.specs.Prelude.{List, [], ◌∷◌, ℕ, ◌+◌, ◌*◌, nat_abs}
use Rattle.std.proofs.Math.Option.{Option, none, some}
use Rattle.book.specs.Calls.{Answer, accepted, cells, refused, over, refusal_number}
use Rattle.queries.specs.Queries.{Telling, benchmark_charge, maximum_charge, quotation, falling}
use Rattle.queries.specs.Queries as telling
use Rattle.texts.specs.Texts.{bytes_of, line_of}

-- ok and its numbers; or refused, the refusal's number and those that it carries
abbrev pub ok_or_refused : (refusal : Option ℕ) (numbers : List ℕ) → List ℕ
ok_or_refused none numbers = line_of (bytes_of "ok") numbers
ok_or_refused (some n) numbers = line_of (bytes_of "refused") (n ∷ numbers)

-- what an answer carries beside a refusal's number
abbrev pub carried : Answer → List ℕ
carried accepted = []
carried (cells n) = n ∷ []
carried (refused n) = []
carried (over c months excess) = c.region ∷ c.method ∷ nat_abs excess ∷ months

-- set, put, open, close, drop, undo, ask, confirm, direct: ok | ok CELLS | refused N | refused 11 REGION METHOD EXCESS M1 .. Mt
abbrev pub answer_text : Answer → List ℕ
answer_text a = ok_or_refused (refusal_number a) (carried a)

-- benchmark: ok VALUE | refused N; maximum: ok NUMBER DENOMINATOR | refused N; quote: ok CHARGE MAXIMUM | refused N;
-- trial: ok SET | refused N
abbrev pub told_text : Telling → List ℕ
told_text (telling.refused n) = ok_or_refused (some n) []
told_text (benchmark_charge mills) = ok_or_refused none (nat_abs mills ∷ [])
told_text (maximum_charge f) = ok_or_refused none (f.number ∷ f.denominator ∷ [])
told_text (quotation q) = ok_or_refused none (q.charge ∷ q.maximum ∷ [])
told_text (falling codes) = ok_or_refused none (codes ∷ [])

-- no line has more accounts: it has at most 16,384 bytes, and so numbers, and 16 of them are an account
abbrev pub accounts_most : ℕ
accounts_most = 1024

-- room enough for any answer of a line: "ok", a total and the rebate of each account, each number behind a space and of 20 digits at most, and a
-- line feed
abbrev pub answer_room : ℕ
answer_room = 2 + 21 * (1 + accounts_most) + 1

-- for any answer but that of REBATE, and for any of these but refusal 11
abbrev pub step_room : ℕ
step_room = 344

abbrev pub short_room : ℕ
short_room = 50
