-- "Benchmark Maximum Charge (28AD.7 to 28AD.13)" of document 01, the 112 figures of a sheet, and SET's refusals 1 to 5 and 14. Every part
-- is a signed number, since SMNCC can be a saving (document 02, M-102).
-- Assumes nothing.
use Rattle.std.specs.Prelude.{Bool, List, [], ◌∷◌, ℕ, ◌+◌, ◌*◌, ◌/◌, ◌%◌, leb, eqb, ℤ, pos, nat_abs, ◌+ℤ◌, ◌*ℤ◌, length, get_or, replicate}
use Rattle.std.specs.Int.Signed.{le_z}
use Rattle.laws.specs.Notions.{every, tabulate}
use Rattle.refusal.specs.declared.Check.{Check}
use Rattle.refusal.specs.declared.Check.TheVariants.{Pass}
use Rattle.refusal.specs.Checks.{unless}
use Rattle.calendar.specs.declared.Period.{Period}
use Rattle.calendar.specs.Calendar.{period_in_range, period_days}
use Rattle.sheet.specs.Sheet.{field_count, field, smncc, peak_share, fields_in_range, round_signed, df_term, cm_term, pc_term, oc_term, paac_term, terms_fit}
use Rattle.benchmark.specs.declared.Benchmarks.{Benchmarks}

-- "Four" means single-rate nil, single-rate m, Economy 7 nil, Economy 7 m
abbrev pub four : ℕ → ℕ → ℕ
four arrangement level = 2 * arrangement + level

-- the sheet's own figures: HAP of an arrangement, PAP of a method, NC of a region at place f of the four
abbrev pub hap : List ℕ → ℕ → ℤ
hap s a = pos (field s (16 + a))

abbrev pub pap : List ℕ → ℕ → ℤ
pap s p = pos (field s (18 + p))

unfoldable pub nc : List ℕ → ℕ → ℕ → ℤ
nc s region f = pos (field s (37 + 4 * region + f))

-- at place f of the four: "WC = DF term + CM term. PC = its term. OC = OC term + SMNCC, SMNCC at both levels as drafted."
unfoldable pub wc : List ℕ → ℕ → ℤ
wc s f = pos (df_term s f) +ℤ pos (cm_term s f)

unfoldable pub pc : List ℕ → ℕ → ℤ
pc s f = pos (pc_term s f)

unfoldable pub oc : List ℕ → ℕ → ℤ
oc s f = pos (oc_term s f) +ℤ smncc s

-- "PAENC = PAAC term (by CPIH) + Round(PAP × (WC + PC + OC), 1,000,000)", where costs is WC + PC + OC
unfoldable pub paenc : List ℕ → ℕ → ℤ → ℤ
paenc s p costs = pos (paac_term s p) +ℤ round_signed (pap s p *ℤ costs) 1000000

-- "H = Round(HAP × (WC + PC + OC + PAENC), 1,000,000)"
unfoldable pub headroom : List ℕ → ℕ → ℤ → ℤ
headroom s a costs = round_signed (hap s a *ℤ costs) 1000000

-- "PANC = Round(PAP × NC, 1,000,000)"
unfoldable pub panc : List ℕ → ℕ → ℤ → ℤ
panc s p network = round_signed (pap s p *ℤ network) 1000000

-- "The benchmark is WC + NC + PC + OC + H + PAENC + PANC."
unfoldable pub benchmark : List ℕ → ℕ → ℕ → ℕ → ℕ → ℤ
benchmark s r a p l =
    let f = four a l in
    let costs = wc s f +ℤ pc s f +ℤ oc s f in
    let e = paenc s p costs in
    wc s f +ℤ nc s r f +ℤ pc s f +ℤ oc s f +ℤ headroom s a (costs +ℤ e) +ℤ e +ℤ panc s p (nc s r f)

-- The 112 figures in one list, by region, then arrangement, method and level: the index of a figure, and the figure of an index.
-- They are kept as whole numbers of mills: no benchmark of a sheet that SET accepts is below zero (proofs/Lawful.antt, `charge_at_index`).
abbrev pub figure_index : ℕ → ℕ → ℕ → ℕ → ℕ
figure_index r a p l = 8 * r + 4 * a + 2 * p + l

unfoldable pub figure : List ℕ → ℕ → ℕ
figure s k = nat_abs (benchmark s (k / 8) (k / 4 % 2) (k / 2 % 2) (k % 2))

unfoldable pub figures : List ℕ → List ℕ
figures s = tabulate 112 (figure s)

-- no OC is below zero, at any place of the four
unfoldable pub ocs_fit : List ℕ → Bool
ocs_fit s = every 4 (λ f. le_z (pos 0) (oc s f))

-- no benchmark at m is below its benchmark at nil, in any region, arrangement and method: 56 pairs
unfoldable pub ordered : List ℕ → Bool
ordered charges = every 56 (λ j. leb (get_or charges (2 * j) 0) (get_or charges (2 * j + 1) 0))

-- what a sheet and its period come to
unfoldable pub benchmarks_of : List ℕ → Period → Benchmarks
benchmarks_of s p =
    record { charges = figures s; levels = field s 93 ∷ field s 94 ∷ []; peak = peak_share s; months = p.months; days = period_days p }

-- SET's checks. "1: not 96 numbers" (M-103). "2: a field outside its range. 3: a period outside its range. 4: an indexed term above
-- 100,000,000. 5: some benchmark at m below its benchmark at nil." M-102: "14, some OC below zero, in SET and TRIAL after 4 and before 5."
unfoldable pub set_check : List ℕ → Period → Check
set_check s p =
    unless (eqb (length s) field_count) 1
    (unless (fields_in_range s) 2
    (unless (period_in_range p) 3
    (unless (terms_fit s) 4 (unless (ocs_fit s) 14 (unless (ordered (figures s)) 5 Pass)))))

-- nothing worked out, as in a book without a sheet
abbrev pub no_benchmarks : Benchmarks
no_benchmarks = record { charges = replicate 112 0; levels = replicate 2 0; peak = 0; months = 0; days = 0 }
