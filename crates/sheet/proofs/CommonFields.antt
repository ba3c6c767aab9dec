-- What is worked out from fields 0 to 36 is the same for two sheets that agree in them; so it is for a sheet and its common fields.
-- Assumes nothing.
use mathlib.Core.Path.{◌≡◌, ◌∙◌}
use mathlib.Core.Bool.{true}
use mathlib.Core.List.{List}
use Prim.Native.Nat.{ℕ, ◌<◌}
use native.Mathlib.Omega.{arith}
use lib.Seq.{get_or-take, length-take-le}
use Rattle.laws.proofs.Every.{every_alike}
use Rattle.sheet.specs.Sheet.{field_count, indexed, df_term, cm_term, pc_term, oc_term, paac_term, four_fit, paac_fits, terms_fit}
use Rattle.sheet.specs.CommonFields.{common_count, common_fields, Agree}
use Rattle.sheet.specs.Ranged.{Ranged, Indexed}

-- two sheets that agree in fields 0 to 36: their terms, and refusal 4
module _ (s t : List ℕ) (same : Agree s t) where
  indexed_same :
      (baseline current initial : ℕ) → baseline < common_count → current < common_count → initial < common_count
      → indexed s baseline current initial ≡ indexed t baseline current initial
  unfolding indexed
  indexed_same baseline current initial hb hc hi = rw (same baseline hb, same current hc, same initial hi)

  module _ (f : ℕ) (l : f < 4) where
    pub df_same : df_term s f ≡ df_term t f
    df_same = indexed_same _ _ _ (omega arith) (omega arith) (omega arith)

    pub cm_same : cm_term s f ≡ cm_term t f
    cm_same = indexed_same _ _ _ (omega arith) (omega arith) (omega arith)

    pub pc_same : pc_term s f ≡ pc_term t f
    pc_same = indexed_same _ _ _ (omega arith) (omega arith) (omega arith)

    pub oc_same : oc_term s f ≡ oc_term t f
    oc_same = indexed_same _ _ _ (omega arith) (omega arith) (omega arith)

    four_fit_same : four_fit s f ≡ four_fit t f
    unfolding four_fit
    four_fit_same = rw (df_same, cm_same, pc_same, oc_same)

  pub paac_same : (p : ℕ) → p < 2 → paac_term s p ≡ paac_term t p
  paac_same p l = indexed_same _ _ _ (omega arith) (omega arith) (omega arith)

  pub terms_fit_same : terms_fit s ≡ terms_fit t
  unfolding terms_fit paac_fits
  terms_fit_same = rw (every_alike (four_fit s) (four_fit t) 4 four_fit_same, paac_same 0 (omega arith), paac_same 1 (omega arith))

-- a sheet and its common fields
pub common_agree : (s : List ℕ) → Agree (common_fields s) s
common_agree s k l = get_or-take common_count s k 0 l

pub common_ranged : (s : List ℕ) → Ranged field_count s → Ranged common_count (common_fields s)
common_ranged s h =
    record {
      count = length-take-le common_count s (omega (arith, h.count));
      ranges = λ k l. rw (common_agree s k l) (h.ranges k (omega arith));
    }

-- the common fields of a sheet that refusal 4 lets pass
pub common_indexed : (s : List ℕ) → Ranged field_count s → terms_fit s ≡ true → Indexed (common_fields s)
common_indexed s h e =
    record { ranged = common_ranged s h; terms = terms_fit_same (common_fields s) s (common_agree s) ∙ e }
