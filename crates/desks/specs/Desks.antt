-- "Desks with regions", M-107 of document 02: "A call carries a set of regions, bits as in a tariff", that of its desk.
-- Assumes nothing.
use Rattle.std.specs.Prelude.{Bool, not, ◌&&◌, ◌||◌, ℕ, leb, ltb, eqb}
use Rattle.laws.specs.Notions.{every, bit}
use Rattle.tariff.specs.Tariff.{all_fourteen}

-- "a desk with all fourteen"
abbrev pub is_full : ℕ → Bool
is_full desk = eqb desk all_fourteen

-- "an empty set or a higher bit counts as outside the desk"
abbrev pub is_desk : ℕ → Bool
is_desk desk = leb 1 desk && leb desk all_fourteen

-- a region, 0 to 13, is one of the desk's
unfoldable pub in_desk : (desk region : ℕ) → Bool
in_desk desk region = ltb region 14 && (is_desk desk && bit desk region)

-- a tariff with these regions "is offered in their regions alone": each region is the desk's or the tariff is not offered there
unfoldable pub covers : (desk regions : ℕ) → Bool
covers desk regions = is_desk desk && every 14 (λ r. bit desk r || not (bit regions r))

-- A desk with all fourteen is held back nowhere. "Other desks may use a code .. only if its tariff is offered in their regions alone, and may
-- query only their regions."
abbrev pub may_use : (desk regions : ℕ) → Bool
may_use desk regions = is_full desk || covers desk regions

abbrev pub may_query : (desk region : ℕ) → Bool
may_query desk region = is_full desk || in_desk desk region
