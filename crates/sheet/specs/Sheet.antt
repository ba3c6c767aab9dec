-- "The cost sheet" of document 01, and its indexed terms; field 36 as document 02's M-102 has it, field 95 as M-103.
-- Assumes nothing.
use Rattle.std.specs.Prelude.{Bool, cond, ◌&&◌, List, ℕ, ◌+◌, ◌*◌, ◌/◌, leb, ltb, eqb, ℤ, pos, neg_ℤ, ◌+ℤ◌, ◌-ℤ◌, ◌*ℤ◌, get_or}
use Rattle.std.specs.Int.Signed.{le_z, shr_z}
use Rattle.laws.specs.Notions.{every}
use Rattle.shares.specs.Shares.{whole_share}
use Rattle.sheet.specs.declared.Range.{Range}

-- M-103: "not 96 numbers"; field k of a sheet
abbrev pub field_count : ℕ
field_count = 96

abbrev pub field : List ℕ → ℕ → ℕ
field s k = get_or s k 0

-- M-102: field 36, SMNCC, "is a signed number in two's complement": of 32 bits, a word from 2^31 up stands for itself less 2^32
abbrev pub smncc_field : ℕ
smncc_field = 36

unfoldable pub signed : ℕ → ℤ
signed word = cond (ltb word 2147483648) (pos word) (pos word -ℤ pos 4294967296)

-- the number that the word handed in for a field stands for: in every other field the word itself
unfoldable pub value_of : ℕ → ℕ → ℤ
value_of k word = cond (eqb k smncc_field) (signed word) (pos word)

abbrev pub smncc : List ℕ → ℤ
smncc s = value_of smncc_field (field s smncc_field)

-- M-103: "field 95, the peak share in tenths"
abbrev pub peak_field : ℕ
peak_field = 95

abbrev pub peak_share : List ℕ → ℕ
peak_share s = field s peak_field

-- money, a net cost or saving, parts per million, an initial and a current index, a consumption level m, a share in tenths of a percent
abbrev pub money : Range
money = record { low = pos 0; high = pos 100000000 }

abbrev pub net_cost : Range
net_cost = record { low = neg_ℤ (pos 100000000); high = pos 100000000 }

abbrev pub ppm : Range
ppm = record { low = pos 0; high = pos 1000000 }

abbrev pub initial_index : Range
initial_index = record { low = pos 1; high = pos 1000000000 }

abbrev pub current_index : Range
current_index = record { low = pos 0; high = pos 1000000000 }

abbrev pub level : Range
level = record { low = pos 1; high = pos 20000 }

abbrev pub tenths : Range
tenths = record { low = pos 0; high = pos whole_share }

-- no value at all, for a number that is no field's
abbrev pub nothing : Range
nothing = record { low = pos 1; high = pos 0 }

-- "The range of a field follows from its number": 0-15 money, 16-19 ppm, 20 and 21 money, 22-28 initial, 29-35 current,
-- 36 a net cost, 37-92 money, 93 and 94 m, 95 tenths
unfoldable pub range_of : ℕ → Range
range_of k =
    cond (leb k 15) money
    (cond (leb k 19) ppm
    (cond (leb k 21) money
    (cond (leb k 28) initial_index
    (cond (leb k 35) current_index
    (cond (leb k 36) net_cost
    (cond (leb k 92) money (cond (leb k 94) level (cond (leb k 95) tenths nothing))))))))

unfoldable pub field_in_range : ℕ → ℕ → Bool
field_in_range k word = le_z (range_of k).low (value_of k word) && le_z (value_of k word) (range_of k).high

-- no field is outside its range
unfoldable pub fields_in_range : List ℕ → Bool
fields_in_range s = every field_count (λ k. field_in_range k (field s k))

-- "Round(n, d)" is n / d to the nearest whole, halves up (proofs/Round.antt, `round_nearest`)
unfoldable pub round : ℕ → ℕ → ℕ
round n d = (2 * n + d) / (2 * d)

-- the same of a signed n: `shr_z` is the quotient rounded down (proofs/Round.antt, `round_alike`). No sheet that SET accepts has it of
-- an n below zero (benchmark/specs/Signs.antt)
unfoldable pub round_signed : ℤ → ℕ → ℤ
round_signed n d = shr_z (pos 2 *ℤ n +ℤ pos d) (2 * d)

-- "An indexed term is Round(baseline × current, initial)", each given by its field
unfoldable pub indexed : List ℕ → ℕ → ℕ → ℕ → ℕ
indexed s baseline current initial = round (field s baseline * field s current) (field s initial)

-- the eighteen: DF0 by DFI, CM0 by CMI, PC0 by PI, OC0 by CPIH, at place f of the four; PAAC by CPIH, of method p
abbrev pub df_term : List ℕ → ℕ → ℕ
df_term s f = indexed s f 29 22

abbrev pub cm_term : List ℕ → ℕ → ℕ
cm_term s f = indexed s (4 + f) 30 23

abbrev pub pc_term : List ℕ → ℕ → ℕ
pc_term s f = indexed s (8 + f) (32 + f) (25 + f)

abbrev pub oc_term : List ℕ → ℕ → ℕ
oc_term s f = indexed s (12 + f) 31 24

abbrev pub paac_term : List ℕ → ℕ → ℕ
paac_term s p = indexed s (20 + p) 31 24

-- the most that an indexed term may be
abbrev pub term_most : ℕ
term_most = 100000000

-- no indexed term is above it
unfoldable pub four_fit : List ℕ → ℕ → Bool
four_fit s f = leb (df_term s f) term_most && leb (cm_term s f) term_most && leb (pc_term s f) term_most && leb (oc_term s f) term_most

unfoldable pub paac_fits : List ℕ → ℕ → Bool
paac_fits s p = leb (paac_term s p) term_most

unfoldable pub terms_fit : List ℕ → Bool
terms_fit s = every 4 (four_fit s) && (paac_fits s 0 && paac_fits s 1)
