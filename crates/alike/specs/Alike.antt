-- "Take a desk without all fourteen, and two books with the same tariffs, states, marks and period, whose sheets differ only in the network
-- fields of regions outside that desk: every list of that desk's calls gets the same answers from both" (document 02, M-107).
-- Assumes nothing.
use Rattle.std.specs.Prelude.{◌≡◌, false, List, ℕ, ◌+◌, ◌*◌, ◌<◌}
use Rattle.std.proofs.Math.Option.{Option, none, some}
use Rattle.sheet.specs.Sheet.{field}
use Rattle.desks.specs.Desks.{is_full, in_desk}
use Rattle.book.specs.declared.Book.{Book}
use Rattle.book.specs.Calls.{Sheet}
use Rattle.book.specs.Book.{in_force, Reachable}
use Rattle.alike.specs.Replies.{Asking, replies}

-- field k is one of the four network fields, from field 37 on, of a region outside the desk
abbrev pub NetworkOutside : (desk k : ℕ) → Type 0
NetworkOutside desk k = (r : ℕ) × (f : ℕ) × (r < 14) × (f < 4) × (k ≡ 37 + 4 * r + f) × (in_desk desk r ≡ false)

pub record SheetsAlike (desk : ℕ) (s t : Sheet) : Type 0 where
  pub period : s.period ≡ t.period
  pub fields : (k : ℕ) → (NetworkOutside desk k → ⊥) → field s.fields k ≡ field t.fields k

-- neither book has a sheet, or both have
abbrev pub InForceAlike : (desk : ℕ) → Option Sheet → Option Sheet → Type 0
InForceAlike desk none none = Unit {0}
InForceAlike desk none (some t) = ⊥
InForceAlike desk (some s) none = ⊥
InForceAlike desk (some s) (some t) = SheetsAlike desk s t

-- the places have the tariffs, the states, the marks and, since M-108, the directions. What is kept for UNDO is not compared: this desk cannot use it
pub record Alike (desk : ℕ) (b c : Book) : Type 0 where
  pub places : b.places ≡ c.places
  pub sheets : InForceAlike desk (in_force b) (in_force c)

abbrev pub TwoBooks : Type 0
TwoBooks =
    (desk : ℕ) → is_full desk ≡ false → (b c : Book) → Reachable b → Reachable c → Alike desk b c
    → (list : List Asking) → replies desk b list ≡ replies desk c list
