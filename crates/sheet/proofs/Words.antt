-- The number that a word stands for, and signed numbers in 64 bits.
-- Assumes nothing.
use mathlib.Core.Path.{◌≡◌, refl}
use mathlib.Core.Bool.{Bool, true, false, cond}
use Prim.Native.Nat.{ℕ, ◌<◌}
use lib.Dec.{ltb}
use lib.IntN.{pos, ◌-ℤ◌}
use borrow.Author.Tests.{lt-ltb, ne_eqb}
use mir.Syntax.{w32}
use mir.Val.{to_z}
use Rattle.sheet.specs.Sheet.{smncc_field, signed, value_of}

-- in every field but 36 a word stands for itself
pub plain_value : (k word : ℕ) → (k ≡ smncc_field → ⊥) → value_of k word ≡ pos word
unfolding value_of
plain_value k word h = rw (ne_eqb k smncc_field h)

-- two's complement, as the library reads 32 bits
pub signed_as_bits : (word : ℕ) → word < 4294967296 → signed word ≡ to_z w32 word
unfolding signed
signed_as_bits word h = go (ltb word 2147483648) refl
  where
    go : (b : Bool) → ltb word 2147483648 ≡ b → cond (ltb word 2147483648) (pos word) (pos word -ℤ pos 4294967296) ≡ to_z w32 word
    go true e = rw e
    go false e = rw (e, lt-ltb word 4294967296 h)
