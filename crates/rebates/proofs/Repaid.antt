-- Nobody is left above the cap: of every account that QUOTE tells of, in every book that calls leave, the charge less the rebate is at most
-- the maximum, and with a mill less it would not be, unless the rebate is 0.
-- Assumes nothing.
use mathlib.Core.Path.{◌≡◌, refl, sym, ◌∙◌, ap₂, subst}
use mathlib.Core.List.{List}
use mathlib.Core.Bool.{Bool, true, false}
use Prim.Native.Nat.{ℕ, zero, suc, ◌+◌, ◌-◌, ◌*◌, ◌<◌, ◌≤◌}
use native.Mathlib.Decide.{dec_lt, dec_le}
use native.Mathlib.Omega.{arith}
use Rattle.laws.proofs.Never.{never}
use Rattle.refusal.specs.declared.Check.{Check}
use Rattle.refusal.specs.declared.Check.TheVariants.{Pass, Refuse}
use Rattle.benchmark.specs.declared.Benchmarks.{Benchmarks}
use Rattle.tariff.specs.declared.Tariff.{Tariff}
use Rattle.charge.specs.Most.{months_most}
use Rattle.cap.specs.declared.CellNumbers.{CellNumbers}
use Rattle.cap.specs.Cap.{scale, charged, capped}
use Rattle.verdict.specs.Cells.{cell, tariff_numbers}
use Rattle.book.specs.declared.Place.{Place}
use Rattle.book.specs.declared.Book.{Book}
use Rattle.book.specs.Checks.{inside}
use Rattle.book.specs.Book.{tariff_in, sheet_in, Reachable}
use Rattle.book.specs.Settling.{HasPlace}
use Rattle.book.proofs.Places.{code_range, has_there}
use Rattle.stands.proofs.Placed.{place_lawful}
use Rattle.rebates.specs.declared.Account.{Account}
use Rattle.rebates.specs.Rebates.{months_in, quoted_of, is_refused, numbers_for}
use Rattle.rebates.specs.Repaid.{Repaid}
use Rattle.rebates.proofs.Rounded.{rebate_enough, rebate_no_less}
use Rattle.rebates.proofs.Most.{scale_some}
use Rattle.rebates.proofs.There.{is_refusal, too_many, check, numbers, sides, past, figures_are, refused_there, sheet_there, tariff_there, due_there}

-- an index for every code
index_for : (k : ℕ) → (i : ℕ) × (i < 32) × (inside k ≡ true → suc i ≡ k)
index_for zero = (0, omega arith, λ e. never (cc))
index_for (suc j) = go (dec_lt j 32)
  where
    go : Dec (j < 32) → (i : ℕ) × (i < 32) × (inside (suc j) ≡ true → suc i ≡ suc j)
    go (yes h) = (j, h, λ e. refl)
    go (no h) = (0, omega arith, λ e. absurd (omega (arith, code_range (suc j) e)))

passes_if : (c : Check) → is_refusal c ≡ false → c ≡ Pass
passes_if Pass e = refl
passes_if (Refuse n) e = never (cc)

-- what a rebate is to be, for the numbers of a cell, a tariff and months
abbrev Repays : List ℕ → CellNumbers → Tariff → ℕ → Type 0
Repays months e x d =
    (charged e x months ≤ capped e months + d * scale e) × (0 < d → capped e months + (d - 1) * scale e < charged e x months)

moved : (months : List ℕ) {e g : CellNumbers} {x y : Tariff} {d r : ℕ} → e ≡ g → x ≡ y → d ≡ r → Repays months e x d → Repays months g y r
moved months {e} {g} {x} {y} {d} p q r h =
    subst (λ k. Repays months g y k) r (subst (λ (z : Tariff). Repays months g z d) q (subst (λ (n : CellNumbers). Repays months n x d) p h))

-- of an account with a list, on the place of its code
repaid_there : {b : Book} {i : ℕ} {p : Place} {loaded : Bool} {f : Benchmarks} (desk : ℕ) (a : Account) (there : HasPlace b a.code i p loaded f)
    (few : a.count ≤ months_most) → check desk a there few ≡ Pass → Repaid b desk a
repaid_there {b} {i} {p} {loaded} {f} desk a there few e =
    let h = tariff_there desk a there few e in
    let n = numbers desk a there few in
    let q = sides desk a there few n in
    let positive = scale_some f (tariff_in p) (cell a.region a.method) (place_lawful there (past desk a there few e).loaded) in
    let same : n ≡ numbers_for (sheet_in b) h.0 a =
    ap₂ (λ (g : Benchmarks) (x : Tariff). tariff_numbers g x (cell a.region a.method)) (figures_are desk a there few e) (sym h.2) in
    let repays = moved (months_in a) same (sym h.2) (sym (due_there desk a there few e)) (rebate_enough (scale n) q positive, rebate_no_less (scale n) q positive) in
    record { sheet = sheet_in b; in_force_lem = sheet_there desk a there few e; holding = h.0; held = h.1; within = repays.0; no_less = repays.1 }

pub repaid_exactly : (b : Book) → Reachable b → (desk : ℕ) (a : Account) → is_refused (quoted_of b desk a) ≡ false → Repaid b desk a
repaid_exactly b from desk a told = go (dec_le a.count months_most)
  where
    go : Dec (a.count ≤ months_most) → Repaid b desk a
    go (yes few) =
        let at = index_for a.code in
        let there = has_there from a.code at.0 (at.1, at.2) in
        repaid_there desk a there few (passes_if (check desk a there few) (sym (refused_there desk a there few) ∙ told))
    go (no h) = let r = too_many b desk a (omega arith) in never (cc)
