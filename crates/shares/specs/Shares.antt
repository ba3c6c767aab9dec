-- Shares of a tariff's registers, and the rate that they weight.
-- Assumes nothing.
use Rattle.std.specs.Prelude.{List, [], ◌∷◌, ℕ, ◌+◌, ◌*◌}

-- M-103: "tenths with sum 1,000", the base of all shares
abbrev pub whole_share : ℕ
whole_share = 1000

-- the weighted rate, times the whole: each rate times its share, added up
unfoldable pub weighted : List ℕ → List ℕ → ℕ
weighted [] shares = 0
weighted (r ∷ rs) [] = 0
weighted (r ∷ rs) (p ∷ ps) = r * p + weighted rs ps

-- what it stands for (proofs/Weighted.antt, `registers_weighted`): each register's share of the kWh at its rate
unfoldable pub registers : List ℕ → List ℕ → ℕ → ℕ
registers [] shares kwh = 0
registers (r ∷ rs) [] kwh = 0
registers (r ∷ rs) (p ∷ ps) kwh = r * (p * kwh) + registers rs ps kwh
