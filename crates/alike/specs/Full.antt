-- "Only a desk with all fourteen .." (document 02, M-107): such a desk gets of each call the answer that there would be without desks. Below is
-- that answer, a line a call, from documents 01 and 02 without M-107. And no desk is told of a cell outside it.
-- Assumes nothing.
use Rattle.std.specs.Prelude.{◌≡◌, true, not, ◌&&◌, List, ℕ, leb, ltb, ℤ}
use Rattle.refusal.specs.Checks.{checked, need, given}
use Rattle.benchmark.specs.Benchmark.{benchmark, set_check}
use Rattle.tariff.specs.Tariff.{record_check, all_fourteen}
use Rattle.desks.specs.Desks.{in_desk}
use Rattle.verdict.specs.Cells.{Cell}
use Rattle.book.specs.declared.Book.{Book}
use Rattle.book.specs.Calls.{Act, SET, PUT, OPEN, CLOSE, DROP, UNDO, ASK, CONFIRM, DIRECT, by, Answer, accepted, refused, over, refusal_number}
use Rattle.book.specs.Checks.{Readings, is_open, figures_of, inside, opened_as, confirmed_as}
use Rattle.book.specs.Book.{in_force, book_readings, step, after}
use Rattle.queries.specs.Queries.{benchmark_charge, maximum_charge, quotation, falling, in_ranges, maximum_in}
use Rattle.quoting.specs.Quote.{cell_allowed, months_allowed, quotation_in}
use Rattle.queries.specs.Queries as tells
use Rattle.trial.specs.Trial.{told_unless, codes_where, falls}
use Rattle.rebates.specs.Rebates.{run_of, after_run}
use Rattle.alike.specs.Replies.{Asking, act, BENCHMARK, MAXIMUM, QUOTE, TRIAL, REBATE, Reply, answered, told, ran, reply_to}

-- SET: 1 to 4, 14, 5. PUT: 6, 7, 8. OPEN and ASK: 6, 9, 7, 10, 11. CLOSE: 6, 9, 12. DROP: 6, 9, 7. UNDO: 15. CONFIRM: 6, 9, 7, 16. DIRECT: 6, 9, 7
abbrev pub open_had : Readings → ℕ → Answer
open_had r k =
    need refused (inside k) 6
    (given refused (r.held k) 9
    (λ h. need refused (not h.is_open) 7 (given refused r.sheet 10 (λ s. opened_as h.is_directed (figures_of s) h.tariff))))

abbrev pub answer_had : Readings → Act → Answer
answer_had r (SET s) = checked refused (set_check s.fields s.period) accepted
answer_had r (PUT k x) =
    need refused (inside k) 6 (need refused (not (is_open (r.held k))) 7 (checked refused (record_check x) accepted))
answer_had r (OPEN k) = open_had r k
answer_had r (CLOSE k) = need refused (inside k) 6 (given refused (r.held k) 9 (λ h. need refused h.is_open 12 accepted))
answer_had r (DROP k) = need refused (inside k) 6 (given refused (r.held k) 9 (λ h. need refused (not h.is_open) 7 accepted))
answer_had r UNDO = need refused r.may_undo 15 accepted
answer_had r (ASK k) = open_had r k
answer_had r (CONFIRM k) =
    need refused (inside k) 6
    (given refused (r.held k) 9
    (λ h. need refused (not h.is_open) 7 (need refused h.is_marked 16 (confirmed_as h.is_directed h.tariff))))
answer_had r (DIRECT k) = need refused (inside k) 6 (given refused (r.held k) 9 (λ h. need refused (not h.is_open) 7 accepted))

-- BENCHMARK and MAXIMUM: 13, 10. QUOTE: 6, 9, 10, 13. TRIAL: as SET. REBATE has no 17 of its own: it goes by QUOTE's answers
abbrev pub reply_had : Book → Asking → Reply
reply_had b (act a) = answered (answer_had (book_readings b) a)
reply_had b (BENCHMARK r a p l) =
    told (need tells.refused (in_ranges r a p && ltb l 2) 13 (given tells.refused (in_force b) 10 (λ s. benchmark_charge (benchmark s.fields r a p l))))
reply_had b (MAXIMUM r a p n) =
    told (need tells.refused (in_ranges r a p && leb n 120000) 13 (given tells.refused (in_force b) 10 (λ s. maximum_charge (maximum_in s r a p n))))
reply_had b (QUOTE k r p months) =
    told
    (need tells.refused (inside k) 6
    (given tells.refused ((book_readings b).held k) 9
    (λ h. given tells.refused (in_force b) 10
    (λ s. need tells.refused (cell_allowed h.tariff r p && months_allowed s.period.months months) 13
    (quotation (quotation_in s h.tariff r p months))))))
reply_had b (TRIAL s) =
    let set = answer_had (book_readings b) (SET s) in
    told (told_unless (refusal_number set) (falling (codes_where (falls b (after set b (SET s))))))
reply_had b (REBATE l) = ran (run_of b all_fourteen l) (after_run b all_fourteen l)

abbrev pub FullDesk : Type 0
FullDesk = (b : Book) (a : Asking) → reply_to all_fourteen b a ≡ reply_had b a

-- an answer 11 names a cell of the desk
abbrev pub OverInside : Type 0
OverInside =
    (desk : ℕ) (b : Book) (a : Act) (c : Cell) (months : List ℕ) (e : ℤ) → (step b (by desk a)).answer ≡ over c months e
    → in_desk desk c.region ≡ true
