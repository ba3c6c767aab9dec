-- Turns from the start come to one list of lines: a line that was read in several pieces, and one whose start was dropped, is answered as
-- it would be if all of it were there. And turns come to an end by a failed write or read, or when all is answered and written out.
-- Assumes nothing.
use mathlib.Core.Path.{◌≡◌, refl, sym, ◌∙◌, ap, subst}
use mathlib.Core.Bool.{Bool, true, false, cond, ◌||◌}
use mathlib.Core.List.{List, [], ◌∷◌, ◌++◌, append_assoc, append-nil}
use mathlib.Core.Logic.{◌⊎◌, inl, inr, ⊎_elim}
use Prim.Native.Nat.{ℕ, zero, suc, ◌+◌, ◌-◌, ◌<◌, ◌≤◌}
use native.Mathlib.Nat.{sub-zero}
use native.Mathlib.Omega.{arith}
use lib.Dec.{ltb}
use lib.IntN.{ℤ, pos, negsuc}
use lib.ListN.{length, take, set, length-append, length-set}
use lib.Seq.{take-set-le, get_or-set_same}
use lib.Signed.{lt_z}
use borrow.Author.Tests.{ltb-true, ltb-false, lt-ltb}
use Rattle.std.proofs.lemmas.Bool.{or_parts}
use Rattle.book.specs.declared.Book.{Book}
use Rattle.book.specs.Book.{fresh}
use Rattle.laws.proofs.Never.{never}
use Rattle.lines.specs.Words.{longest_line, between}
use Rattle.protocol.specs.Lines.{line_at}
use Rattle.lines.proofs.Parts.{length_between}
use Rattle.input.specs.declared.Input.{Input}
use Rattle.input.specs.Input.{Holds, Keeps, is_left, AfterRead, stopped, after_write}
use Rattle.input.proofs.Between.{between_split, between_one}
use Rattle.input.proofs.Kept.{kept_short, stopped_holds}
use Rattle.taking.specs.declared.Desk.{Desk}
use Rattle.taking.specs.Taking.{has_feed, Takes, none_taken, line_taken, Took}
use Rattle.taking.proofs.Taking.{feed_append, feed_split, feed_last, takes_none}
use Rattle.desk.specs.Desk.{Reads, Fills, off, lines_left, at_end, reads, Flushes, at_start, Turned, none_yet, turn_more}
use Rattle.desk.specs.Whole.{added, added_by, read_in, answers_in, Dropped, Whole, ReadFailed, WhyLast, write_failed, read_failed, all_done, WhyEnded}
use Rattle.desk.proofs.Turning.{flushed, reads_within}

-- what was dropped has no line feed, and its line is answered as if it were there
dropped_feed : (cut : Bool) (dropped : List ℕ) → Dropped cut dropped → has_feed dropped ≡ false
unfolding has_feed
dropped_feed true dropped h = h.1
dropped_feed false dropped h = ap has_feed h

line_as : (b : Book) (l : ℕ) (cut : Bool) (dropped line : List ℕ) → Dropped cut dropped → line_at b l cut line ≡ line_at b l false (dropped ++ line)
unfolding line_at
line_as b l true dropped line h =
    let k : longest_line < length (dropped ++ line) = omega (arith, h.0, length-append dropped line) in
    rw (lt-ltb longest_line (length (dropped ++ line)) k) refl
line_as b l false dropped line h = ap (λ ys. line_at b l false (ys ++ line)) (sym h)

-- whole lines, or nothing: then no start of a line was dropped either
abbrev Complete : (cut : Bool) (bytes : List ℕ) → Type 0
Complete cut bytes = ((bytes ≡ []) × (cut ≡ false)) ⊎ ((xs : List ℕ) × (bytes ≡ xs ++ (10 ∷ [])))

complete_none : (cut : Bool) (bytes : List ℕ) → Complete cut bytes → has_feed bytes ≡ false → (bytes ≡ []) × (cut ≡ false)
complete_none cut bytes (inl p) h = p
complete_none cut bytes (inr (xs, e)) h = never (cc (sym h ∙ ap has_feed e ∙ feed_last xs))

-- what is left of whole lines when some bytes are taken from their front
suffix : (fs bs xs : List ℕ) → fs ++ bs ≡ xs ++ (10 ∷ []) → (bs ≡ []) ⊎ ((ys : List ℕ) × (bs ≡ ys ++ (10 ∷ [])))
suffix [] bs xs e = inr (xs, e)
suffix (a ∷ fs) bs [] e = inl (empty fs bs (cc))
  where
    empty : (fs bs : List ℕ) → fs ++ bs ≡ [] → bs ≡ []
    empty [] bs e = e
    empty (a ∷ fs) bs e = never (cc)
suffix (a ∷ fs) bs (x ∷ xs) e = suffix fs bs xs (cc)

takes_cut : {b b' : Book} {l l' : ℕ} {cut cut' : Bool} {bytes text : List ℕ} → Takes b l cut bytes b' l' cut' text
    → ((bytes ≡ []) × (cut' ≡ cut)) ⊎ (cut' ≡ false)
takes_cut none_taken = inl (refl, refl)
takes_cut (line_taken line t h) = inr refl

-- lines taken from the front of a list of bytes
front_taken : (fs bs : List ℕ) (cut cut' : Bool) → Complete cut (fs ++ bs) → ((fs ≡ []) × (cut' ≡ cut)) ⊎ (cut' ≡ false) → Complete cut' bs
front_taken [] bs cut cut' (inl p) (inl q) = inl (p.0, q.1 ∙ p.1)
front_taken [] bs cut cut' (inl p) (inr q) = inl (p.0, q)
front_taken [] bs cut cut' (inr p) w = inr p
front_taken (a ∷ fs) bs cut cut' (inl p) w = never (cc p.0)
front_taken (a ∷ fs) bs cut cut' (inr p) (inl q) = never (cc q.0)
front_taken (a ∷ fs) bs cut cut' (inr (xs, e)) (inr q) = ⊎_elim (λ z. inl (z, q)) (λ z. inr z) (suffix (a ∷ fs) bs xs e)

-- lines taken from a fresh book, and the start of the next where it was dropped: `done` has the bytes of both
record Joined (done : List ℕ) (b : Book) (l : ℕ) (cut : Bool) (text : List ℕ) : Type 0 where
  taken : List ℕ
  dropped : List ℕ
  takes : Takes fresh 0 false taken b l false text
  start : Dropped cut dropped
  all : done ≡ taken ++ dropped

joined_as : {done done' text text' : List ℕ} {b : Book} {l : ℕ} {cut : Bool} → done ≡ done' → text ≡ text' → Joined done b l cut text
    → Joined done' b l cut text'
joined_as {done} {done'} {text} {text'} {b} {l} {cut} e f j = subst (λ xs. Joined xs b l cut text') e (subst (λ xs. Joined done b l cut xs) f j)

one_more : {done text : List ℕ} {b : Book} {l : ℕ} {cut : Bool} → Joined done b l cut text → (line : List ℕ) → has_feed line ≡ false
    → Joined (done ++ line ++ (10 ∷ [])) (line_at b (l + 1) cut line).book (l + 1) false (text ++ (line_at b (l + 1) cut line).text)
one_more {b = b} {l} {cut} j line h =
    record {
      taken = j.taken ++ (j.dropped ++ line) ++ (10 ∷ []);
      dropped = [];
      takes = rw (line_as b (l + 1) cut j.dropped line j.start)
          (line_taken (j.dropped ++ line) j.takes (feed_append j.dropped line (dropped_feed cut j.dropped j.start) h));
      start = refl;
      all = ap (λ xs. xs ++ line ++ (10 ∷ [])) j.all ∙ simp (append_assoc, append-nil);
    }

join : {b : Book} {l : ℕ} {cut : Bool} {done text bytes t : List ℕ} {b' : Book} {l' : ℕ} {cut' : Bool} → Joined done b l cut text → Takes b l cut bytes b' l' cut' t
    → Joined (done ++ bytes) b' l' cut' (text ++ t)
join {done} {text} j none_taken = joined_as (sym (append-nil done)) (sym (append-nil text)) j
join {done} {text} j (line_taken {text = t} line k h) = joined_as (simp append_assoc) (append_assoc text t _) (one_more (join j k) line h)

-- what is kept of the input, and what is dropped of it
module _ (b : Book) (l : ℕ) (text : List ℕ) (i : Input) (before : List ℕ) (kept : Input) (front : List ℕ) (k : Keeps i before kept front) (fits : i.to ≤ length before) where
  abbrev had : List ℕ
  had = between before i.from i.to

  long : (c : Bool) (dropped : List ℕ) → Dropped c dropped → true ≡ (c || ltb longest_line (i.to - i.from)) → longest_line < length (dropped ++ had)
  long true dropped h e = omega (arith, h.0, length-append dropped had)
  long false dropped h e =
      omega (arith, ltb-true longest_line (i.to - i.from) (sym e), length-append dropped had, length_between before i.from i.to fits)

  not_cut : (c : Bool) (dropped : List ℕ) → Dropped c dropped → false ≡ (c || ltb longest_line (i.to - i.from)) → dropped ≡ []
  not_cut true dropped h e = never (cc)
  not_cut false dropped h e = h

  kept_joins : (done : List ℕ) → Joined done b l i.cut text → has_feed had ≡ false
      → (done' : List ℕ) × Joined done' b l kept.cut text × (done ++ had ≡ done' ++ take kept.to front)
  kept_joins done j h = go kept.cut k.long k.bytes
    where
      go : (t : Bool) → t ≡ (i.cut || ltb longest_line (i.to - i.from)) → take kept.to front ≡ cond t [] had
          → (done' : List ℕ) × Joined done' b l t text × (done ++ had ≡ done' ++ take kept.to front)
      go true e f = (
        done ++ had,
        record {
          taken = j.taken;
          dropped = j.dropped ++ had;
          takes = j.takes;
          start = (long i.cut j.dropped j.start e, feed_append j.dropped had (dropped_feed i.cut j.dropped j.start) h);
          all = ap (λ xs. xs ++ had) j.all ∙ append_assoc j.taken j.dropped had;
        },
        sym (append-nil (done ++ had)) ∙ ap (λ xs. done ++ had ++ xs) (sym f),
      )
      go false e f = (
        done,
        record { taken = j.taken; dropped = j.dropped; takes = j.takes; start = not_cut i.cut j.dropped j.start e; all = j.all },
        ap (λ xs. done ++ xs) (sym f),
      )

-- what is read stands behind what was kept
module _ (i : Input) (before : List ℕ) (r : Input) (after : List ℕ) (k : Reads i before r after) (front : i.from ≡ 0) (room : i.to < length before) where
  kept_bytes : between k.into i.from i.to ≡ take i.to before
  kept_bytes = ap (λ n. between k.into n i.to) front ∙ ap (λ n. take n k.into) (sub-zero i.to) ∙ k.bytes

  closed_adds : (t : Bool) → between (cond t (set k.into i.to 10) k.into) i.from (cond t (i.to + 1) i.to) ≡ take i.to before ++ cond t (10 ∷ []) []
  closed_adds true =
      let xs = set k.into i.to 10 in
      let inside : i.to < length k.into = omega (arith, k.size) in
      between_split xs i.from i.to (i.to + 1) (omega arith) (omega arith)
      ∙ ap (λ ys. ys ++ between xs i.to (i.to + 1)) (ap (λ n. between xs n i.to) front ∙ ap (λ n. take n xs) (sub-zero i.to) ∙ take-set-le i.to k.into i.to 10 (omega arith) ∙ k.bytes)
      ∙ ap (λ ys. take i.to before ++ ys) (between_one xs i.to (omega (arith, length-set k.into i.to 10)) ∙ ap (λ n. n ∷ []) (get_or-set_same k.into i.to 10 0 inside))
  closed_adds false = kept_bytes ∙ sym (append-nil (take i.to before))

  read_adds : (r.cut ≡ i.cut) × (length after ≡ length before) × (between after r.from r.to ≡ take i.to before ++ added k.got i k.into)
  read_adds = go k.got k.handled
    where
      closed_size : (t : Bool) → length (cond t (set k.into i.to 10) k.into) ≡ length before
      closed_size true = length-set k.into i.to 10 ∙ k.size
      closed_size false = k.size

      go : (got : ℤ) → AfterRead got i k.into r after
          → (r.cut ≡ i.cut) × (length after ≡ length before) × (between after r.from r.to ≡ take i.to before ++ added got i k.into)
      go (negsuc n) e = (ap (λ x. x.cut) e.0, ap length e.1 ∙ k.size, rw (e.0, e.1) (kept_bytes ∙ sym (append-nil (take i.to before))))
      go (pos zero) e = (ap (λ x. x.cut) e.input, ap length e.bytes ∙ closed_size (is_left i), rw (e.input, e.bytes) (closed_adds (is_left i)))
      go (pos (suc n)) e = (
        ap (λ x. x.cut) e.0,
        ap length e.1 ∙ k.size,
        rw (e.0, e.1)
            (between_split k.into i.from i.to (i.to + suc n) (omega arith) (omega arith)
            ∙ ap (λ ys. ys ++ between k.into i.to (i.to + suc n)) kept_bytes),
      )

  -- at the end it is whole lines, or nothing
  ended_whole : i.ended ≡ false → r.ended ≡ true → Complete r.cut (between after r.from r.to)
  ended_whole x y = go k.got k.handled
    where
      closed_whole : (t : Bool) → is_left i ≡ t → Complete i.cut (between (cond t (set k.into i.to 10) k.into) i.from (cond t (i.to + 1) i.to))
      closed_whole true e = inr (take i.to before, closed_adds true)
      closed_whole false e =
          let z : i.to ≡ 0 = omega (arith, ltb-false 0 i.to (or_parts i.cut (ltb 0 i.to) e).1) in
          inl (kept_bytes ∙ ap (λ n. take n before) z, (or_parts i.cut (ltb 0 i.to) e).0)

      go : (got : ℤ) → AfterRead got i k.into r after → Complete r.cut (between after r.from r.to)
      go (negsuc n) e = never (cc (ap (λ q. q.ended) e.0, x, y))
      go (pos zero) e = rw (e.input, e.bytes) (closed_whole (is_left i) refl)
      go (pos (suc n)) e = never (cc (ap (λ q. q.ended) e.0, x, y))

-- what is known between two steps of a turn
record Account (read text : List ℕ) (b : Book) (l : ℕ) (i : Input) (input : List ℕ) : Type 0 where
  done : List ℕ
  joined : Joined done b l i.cut text
  all : read ≡ done ++ between input i.from i.to
  holds : Holds i (length input)
  size : length input ≡ 65536

stopped_account : {read text input : List ℕ} {b : Book} {l : ℕ} {i : Input} → Account read text b l i input → Account read text b l (stopped i) input
stopped_account a = record { done = a.done; joined = a.joined; all = a.all; holds = stopped_holds a.holds; size = a.size }

flushed_account : {read text input : List ℕ} {b : Book} {l : ℕ} {i r : Input} → Flushes i r → Account read text b l i input
    → Account read text b l r input
flushed_account {read} {text} {input} {b} {l} f a = flushed (λ x. Account read text b l x input) f a (stopped_account a)

filled_account : {read text before after : List ℕ} {b : Book} {l : ℕ} {i r : Input} → Account read text b l i before
    → i.more ≡ has_feed (between before i.from i.to) → (f : Fills i before r after) → Account (read ++ added_by f) text b l r after
filled_account {read} {text} {before} {after} {b} {l} {i} {r} a m f = go f
  where
    -- nothing is added
    same : Account (read ++ []) text b l i before
    same = record { done = a.done; joined = a.joined; all = append-nil read ∙ a.all; holds = a.holds; size = a.size }

    go : (f : Fills i before r after) → Account (read ++ added_by f) text b l r after
    go (off x e g) = rw (e, g) same
    go (lines_left x y e g) = rw (e, g) same
    go (at_end x y z e g) = rw (e, g) (stopped_account same)
    go (reads x y z kept front k rd) =
        let short : kept.to < length front = omega (arith, kept_short i before kept front k, k.size, a.size) in
        let zero : kept.from ≡ 0 = ap (λ q. q.from) k.input in
        let w = kept_joins b l text i before kept front k a.holds.inside a.done a.joined (sym m ∙ y) in
        let s = read_adds kept front r after rd zero short in
        let within = reads_within kept front r after rd short in
        record {
          done = w.0;
          joined = subst (λ t. Joined w.0 b l t text) (sym s.0) w.1;
          all = ap (λ xs. xs ++ added rd.got kept rd.into) (a.all ∙ w.2)
              ∙ append_assoc w.0 (take kept.to front) (added rd.got kept rd.into)
              ∙ ap (λ xs. w.0 ++ xs) (sym s.2);
          holds = record { ordered = omega (arith, within.0, zero); inside = omega (arith, within.1, s.1) };
          size = s.1 ∙ k.size ∙ a.size;
        }

took_account : {read text input before after : List ℕ} {b : Book} {l : ℕ} {i : Input} {r : Desk} → Account read text b l i input
    → (t : Took b l i input before r after) → Account read (text ++ t.text) r.book r.lines r.input input
took_account {input = input} {i = i} {r = r} a t =
    let to : r.input.to ≡ i.to = ap (λ x. x.to) t.left in
    record {
      done = a.done ++ between input i.from r.input.from;
      joined = join a.joined t.takes;
      all = a.all
          ∙ ap (λ xs. a.done ++ xs) (between_split input i.from r.input.from i.to t.passed (omega (arith, t.holds.ordered)))
          ∙ sym (append_assoc a.done (between input i.from r.input.from) (between input r.input.from i.to))
          ∙ ap (λ n. a.done ++ between input i.from r.input.from ++ between input r.input.from n) (sym to);
      holds = t.holds;
      size = a.size;
    }

-- what is known of the marks of an input: `more` says whether a whole line is there, and once the input has ended all is whole lines
record Marks (i : Input) (input : List ℕ) : Type 0 where
  line : i.more ≡ has_feed (between input i.from i.to)
  last : i.ended ≡ true → Complete i.cut (between input i.from i.to)

flushed_marks : {i r : Input} {input : List ℕ} → Flushes i r → Marks i input → Marks r input
flushed_marks {input = input} f m = flushed (λ x. Marks x input) f m (record { line = m.line; last = m.last })

filled_last : {read text before after : List ℕ} {b : Book} {l : ℕ} {i r : Input} → Account read text b l i before → Marks i before
    → Fills i before r after → r.ended ≡ true → Complete r.cut (between after r.from r.to)
filled_last a m (off x e g) y = rw (e, g) (m.last (sym (ap (λ q. q.ended) e) ∙ y))
filled_last a m (lines_left x z e g) y = rw (e, g) (m.last (sym (ap (λ q. q.ended) e) ∙ y))
filled_last a m (at_end x z w e g) y = rw (e, g) (m.last w)
filled_last {before = before} {after} {i = i} {r} a m (reads x z w kept front k rd) y =
    ended_whole kept front r after rd (ap (λ q. q.from) k.input) (omega (arith, kept_short i before kept front k, k.size, a.size))
    (ap (λ q. q.ended) k.input ∙ w) y

took_marks : {b : Book} {l : ℕ} {i : Input} {input before : List ℕ} {r : Desk} {after : List ℕ} → Took b l i input before r after
    → (i.ended ≡ true → Complete i.cut (between input i.from i.to)) → Marks r.input input
took_marks {i = i} {input = input} {r = r} t last =
    let to : r.input.to ≡ i.to = ap (λ x. x.to) t.left in
    let from = r.input.from in
    record {
      line = ap (λ x. x.more) t.left ∙ ap (λ n. has_feed (between input from n)) (sym to);
      last = λ e.
          subst (λ n. Complete r.input.cut (between input from n)) (sym to)
          (front_taken (between input i.from from) (between input from i.to) i.cut r.input.cut
          (subst (Complete i.cut) (between_split input i.from from i.to t.passed (omega (arith, t.holds.ordered)))
          (last (sym (ap (λ x. x.ended) t.left) ∙ e)))
          (takes_cut t.takes));
    }

accounts : {input₀ out₀ : List ℕ} {n : ℕ} {d : Desk} {input out : List ℕ} → length input₀ ≡ 65536 → (t : Turned at_start input₀ out₀ n d input out)
    → Account (read_in t) (answers_in t) d.book d.lines d.input input × Marks d.input input
unfolding read_in answers_in has_feed
accounts e none_yet = (
  record {
    done = [];
    joined = record { taken = []; dropped = []; takes = none_taken; start = refl; all = refl };
    all = refl;
    holds = record { ordered = omega arith; inside = omega arith };
    size = e;
  },
  record { line = refl; last = λ y. never (cc) },
)
accounts e (turn_more t on u) =
    let a = accounts e t in
    let f = flushed_account u.flushes a.0 in
    let m = flushed_marks u.flushes a.1 in
    (took_account (filled_account f m.line u.fills) u.took, took_marks u.took (filled_last f m u.fills))

-- what the turns from the start come to
pub whole : {d : Desk} {input₀ out₀ input out : List ℕ} {n : ℕ} → length input₀ ≡ 65536 → (t : Turned at_start input₀ out₀ n d input out)
    → Whole (read_in t) (answers_in t) d input
whole {d} {input = input} e t =
    let a = (accounts e t).0 in
    record {
      taken = a.joined.taken;
      dropped = a.joined.dropped;
      takes = a.joined.takes;
      start = a.joined.start;
      all = a.all ∙ ap (λ xs. xs ++ between input d.input.from d.input.to) a.joined.all;
    }

-- once the input has ended and no whole line is left, all that was read is lines, and each is answered
pub all_answered : {d : Desk} {input₀ out₀ input out : List ℕ} {n : ℕ} → length input₀ ≡ 65536 → (t : Turned at_start input₀ out₀ n d input out)
    → d.input.ended ≡ true → d.input.more ≡ false → Takes fresh 0 false (read_in t) d.book d.lines false (answers_in t)
all_answered {d} {input = input} e t ended none_left =
    let w = whole e t in
    let m = (accounts e t).1 in
    let p = complete_none d.input.cut (between input d.input.from d.input.to) (m.last ended) (sym m.line ∙ none_left) in
    let nothing : w.dropped ≡ [] = subst (λ c. Dropped c w.dropped) p.1 w.start in
    let same : read_in t ≡ w.taken = w.all ∙ ap (λ xs. w.taken ++ w.dropped ++ xs) p.0 ∙ append-nil (w.taken ++ w.dropped) ∙ ap (λ xs. w.taken ++ xs) nothing ∙ append-nil w.taken in
    rw same w.takes

-- where no whole line is there none is taken, and no answer waits
nothing_left : {b : Book} {l : ℕ} {i : Input} {input before : List ℕ} {r : Desk} {after : List ℕ} → Took b l i input before r after
    → has_feed (between input i.from i.to) ≡ false → (r.input.more ≡ false) × (r.at ≡ 0)
nothing_left {i = i} {input = input} {r = r} t h =
    let from = r.input.from in
    let order : from ≤ i.to = omega (arith, t.holds.ordered, ap (λ x. x.to) t.left) in
    let p = feed_split (between input i.from from) (between input from i.to) (ap has_feed (sym (between_split input i.from from i.to t.passed order)) ∙ h) in
    (ap (λ x. x.more) t.left ∙ p.1, omega (arith, t.puts.ends, (takes_none t.takes p.0).1))

-- a turn's read leaves the desk going on, unless it failed or the input was over
why_off : {i r : Input} {before after : List ℕ} (f : Fills i before r after) → i.on ≡ true → r.on ≡ false
    → ReadFailed f ⊎ ((i.more ≡ false) × (i.ended ≡ true) × (r ≡ stopped i) × (after ≡ before))
why_off (off x e g) a b = never (cc)
why_off (lines_left x y e g) a b = never (cc (ap (λ q. q.on) e))
why_off (at_end x y z e g) a b = inr (y, z, e, g)
why_off {r = r} {after = after} (reads x y z kept front k rd) a b = inl (go rd.got rd.handled)
  where
    on : kept.on ≡ true
    on = ap (λ q. q.on) k.input ∙ x

    go : (got : ℤ) → AfterRead got kept rd.into r after → lt_z got (pos 0) ≡ true
    go (negsuc n) e = refl
    go (pos zero) e = never (cc (ap (λ q. q.on) e.input, on, b))
    go (pos (suc n)) e = never (cc (ap (λ q. q.on) e.0, on, b))

-- why turns from the start come to an end
pub why_ended : {d : Desk} {input₀ out₀ input out : List ℕ} {n : ℕ} → length input₀ ≡ 65536 → (t : Turned at_start input₀ out₀ n d input out)
    → d.input.on ≡ false → WhyEnded t
why_ended e none_yet b = never (cc)
why_ended e (turn_more {d = d} {d' = d'} {input = input} {input' = input'} t on u) b = go u.flushes.written refl
  where
    m : Marks u.flushed input
    m = flushed_marks u.flushes (accounts e t).1

    over : (u.flushed.more ≡ false) × (u.flushed.ended ≡ true) × (u.had ≡ stopped u.flushed) × (input' ≡ input) → WhyLast u
    over w =
        let none-there : has_feed (between input' u.had.from u.had.to) ≡ false = rw (w.2, w.3) (sym m.line ∙ w.0) in
        let p = nothing_left u.took none-there in
        all_done (ap (λ x. x.ended) u.took.left ∙ ap (λ x. x.ended) w.2 ∙ w.1) p.0 p.1

    go : (x : Bool) → u.flushes.written ≡ x → WhyLast u
    go false x = write_failed x
    go true x =
        let same : u.flushed ≡ d.input = u.flushes.input ∙ ap (λ q. after_write q d.input) x in
        ⊎_elim (λ w. read_failed w) over
        (why_off u.fills (ap (λ q. q.on) same ∙ on) (sym (ap (λ q. q.on) u.took.left) ∙ b))
