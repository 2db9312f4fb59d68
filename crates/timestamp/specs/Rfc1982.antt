-- RFC 1982, "Serial Number Arithmetic", sections 3.1 and 3.2, at SERIAL_BITS = 16. A serial number is a natural number below 2 ^ SERIAL_BITS.
-- Definitions only. Assumes nothing.
use Rattle.std.specs.Prelude.{ℕ, ◌+◌, ◌-◌, ◌%◌, ◌^◌, Bool, cond, ◌&&◌, ◌||◌, ◌==◌, nat_le, nat_lt}

-- SERIAL_BITS, the number of bits of a serial number
abbrev pub serial_bits : ℕ
serial_bits = 16

-- What section 3.1 says of a sum: its value, or nothing, where the number added is out of range
pub data Sum : Type 0 where
  defined : ℕ → Sum
  undefined_sum : Sum

-- Section 3.1: n of 0 to 2 ^ (SERIAL_BITS - 1) - 1 is added to s, and the sum is (s + n) modulo 2 ^ SERIAL_BITS; the addition of any other n is undefined
unfoldable pub serial_sum : ℕ → ℕ → Sum
serial_sum s n = cond (nat_le n (2 ^ (serial_bits - 1) - 1)) (defined ((s + n) % 2 ^ serial_bits)) undefined_sum

-- Section 3.2: i1 is less than i2 where
--   i1 < i2 and i2 - i1 < 2 ^ (SERIAL_BITS - 1), or i1 > i2 and i1 - i2 > 2 ^ (SERIAL_BITS - 1)
unfoldable pub serial_less : ℕ → ℕ → Bool
serial_less i1 i2 = (nat_lt i1 i2 && nat_lt (i2 - i1) (2 ^ (serial_bits - 1))) || (nat_lt i2 i1 && nat_lt (2 ^ (serial_bits - 1)) (i1 - i2))

-- Section 3.2: i1 is greater than i2 where
--   i1 < i2 and i2 - i1 > 2 ^ (SERIAL_BITS - 1), or i1 > i2 and i1 - i2 < 2 ^ (SERIAL_BITS - 1)
unfoldable pub serial_greater : ℕ → ℕ → Bool
serial_greater i1 i2 = (nat_lt i1 i2 && nat_lt (2 ^ (serial_bits - 1)) (i2 - i1)) || (nat_lt i2 i1 && nat_lt (i1 - i2) (2 ^ (serial_bits - 1)))

-- What section 3.2 says of two serial numbers; `undefined_order` where they are not equal and neither is less or greater
pub data Comparison : Type 0 where
  equal less greater undefined_order : Comparison

-- Section 3.2: the comparison of i1 with i2
unfoldable pub compared : ℕ → ℕ → Comparison
compared i1 i2 = cond (i1 == i2) equal (cond (serial_less i1 i2) less (cond (serial_greater i1 i2) greater undefined_order))
