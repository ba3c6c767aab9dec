-- "A tariff" of document 01: the record and refusal 8; the shares of kind 3 as document 02's M-103 has them, and the standing charges by
-- region of M-104.
-- Assumes nothing.
use Rattle.std.specs.Prelude.{Bool, false, cond, ◌&&◌, ◌||◌, List, [], ◌∷◌, ℕ, ◌+◌, ◌-◌, leb, eqb, length, get_or, take, Option, Some, None}
use Rattle.laws.specs.Notions.{every, sum, bit}
use Rattle.refusal.specs.declared.Check.{Check}
use Rattle.refusal.specs.declared.Check.TheVariants.{Pass}
use Rattle.refusal.specs.Checks.{unless}
use Rattle.shares.specs.Shares.{whole_share}
use Rattle.fours.specs.Fours.{within, zero_from, rising}
use Rattle.tariff.specs.declared.Kind.{Kind}
use Rattle.tariff.specs.declared.Kind.TheVariants.{SingleRegister, Economy7, MultiRegister}
use Rattle.tariff.specs.declared.Tariff.{Tariff}

-- the most of a rate, of a standing charge and of a step
abbrev pub rate_most : ℕ
rate_most = 200000

abbrev pub standing_most : ℕ
standing_most = 1000000

abbrev pub step_most : ℕ
step_most = 9999

-- all fourteen regions, bits 0 to 13
abbrev pub all_fourteen : ℕ
all_fourteen = 16383

-- M-104: "A tariff becomes 27 numbers"
abbrev pub record_length : ℕ
record_length = 27

-- "Kind 1, single-register .. Kind 2, Economy 7 .. Kind 3, other multi-register"
abbrev pub kind_of : ℕ → Option Kind
kind_of n = cond (eqb n 1) (Some SingleRegister) (cond (eqb n 2) (Some Economy7) (cond (eqb n 3) (Some MultiRegister) None))

-- "0 kind; 1 n; 2 standing charge per day; 3 regions; 4 methods; 5-8 rates; 9-12 steps", and M-104: "fields 13 to 26 are added to field 2
-- for regions 0 to 13"
abbrev pub tariff_of : List ℕ → Tariff
tariff_of x =
    record {
      kind = get_or x 0 0;
      n = get_or x 1 0;
      standing = get_or x 2 0;
      regions = get_or x 3 0;
      methods = get_or x 4 0;
      rates = get_or x 5 0 ∷ get_or x 6 0 ∷ get_or x 7 0 ∷ get_or x 8 0 ∷ [];
      steps = get_or x 9 0 ∷ get_or x 10 0 ∷ get_or x 11 0 ∷ get_or x 12 0 ∷ [];
      regional =
          get_or x 13 0 ∷ get_or x 14 0 ∷ get_or x 15 0 ∷ get_or x 16 0 ∷ get_or x 17 0 ∷ get_or x 18 0 ∷ get_or x 19 0
          ∷ get_or x 20 0 ∷ get_or x 21 0 ∷ get_or x 22 0 ∷ get_or x 23 0 ∷ get_or x 24 0 ∷ get_or x 25 0 ∷ get_or x 26 0 ∷ [];
    }

-- the standing charge of the region concerned
unfoldable pub standing_in : Tariff → ℕ → ℕ
standing_in x region = x.standing + get_or x.regional region 0

-- rates in mills per kWh, 0 to 200,000
unfoldable pub rates_within : List ℕ → Bool
rates_within rates = within rates 4 0 rate_most

-- "Kind 1, single-register: n 1 to 4, n - 1 steps strictly rising, 1 to 9,999."
unfoldable pub single_register : Tariff → Bool
single_register x =
    leb 1 x.n && leb x.n 4
    && (within x.steps (x.n - 1) 1 step_most && rising x.steps (x.n - 1) && zero_from x.rates x.n && zero_from x.steps (x.n - 1))

-- "Kind 2, Economy 7: n 2, peak rate then off-peak, no steps."
unfoldable pub economy7 : Tariff → Bool
economy7 x = eqb x.n 2 && zero_from x.rates 2 && zero_from x.steps 0

-- "Kind 3, other multi-register: n 2 to 4, n steps", and M-103: "Kind 3 steps become tenths with sum 1,000."
unfoldable pub multi_register : Tariff → Bool
multi_register x =
    leb 2 x.n && leb x.n 4
    && (within x.steps x.n 0 whole_share && eqb (sum (take x.n x.steps)) whole_share && zero_from x.rates x.n && zero_from x.steps x.n)

unfoldable pub valid_kind : Tariff → Bool
valid_kind x =
    cond (eqb x.kind 1) (single_register x) (cond (eqb x.kind 2) (economy7 x) (cond (eqb x.kind 3) (multi_register x) false))

-- M-104: "Each sum stays at or below 1,000,000. A region not offered has 0 there."
unfoldable pub region_fits : Tariff → ℕ → Bool
region_fits x region = leb (standing_in x region) standing_most && (bit x.regions region || eqb (get_or x.regional region 0) 0)

-- standing charge 0 to 1,000,000; regions bits 0 to 13, not empty; methods bits 0 and 1, not empty; the rates; the fourteen; the kind
unfoldable pub valid_tariff : Tariff → Bool
valid_tariff x =
    leb x.standing standing_most
    && (leb 1 x.regions && leb x.regions all_fourteen)
    && (leb 1 x.methods && leb x.methods 3)
    && rates_within x.rates
    && every 14 (region_fits x)
    && valid_kind x

-- refusal 8: "not such a record, its length included"
unfoldable pub record_check : List ℕ → Check
record_check x = unless (eqb (length x) record_length && valid_tariff (tariff_of x)) 8 Pass
