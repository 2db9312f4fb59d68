-- Stamps as document 01 has them, under "src/timestamp.rs". A stamp is given by its 16 bits, a natural number below 65,536.
-- Definitions only. Assumes nothing.
use Rattle.std.specs.Prelude.{ℕ, zero, suc, ◌+◌, ◌-◌, ◌%◌, Bool, cond, ◌&&◌, ℤ, pos, negsuc, int_le, nat_lt}
use Rattle.std.specs.declared.cmp.Ordering.{Ordering}
use Rattle.std.specs.declared.cmp.Ordering.TheVariants.{Less, Equal, Greater}

-- a stamp and a number of frames: the sum wraps modulo 65,536
abbrev pub sum_of : ℕ → ℕ → ℕ
sum_of s n = (s + n) % 65536

-- the difference of two stamps, wrapped modulo 65,536: the number below 65,536 whose sum with b is a
abbrev pub difference_of : ℕ → ℕ → ℕ
difference_of a b = (a + (65536 - b)) % 65536

-- 16 bits read as a signed number, -32,768 to 32,767
unfoldable pub signed_of : ℕ → ℤ
signed_of n = cond (nat_lt n 32768) (pos n) (negsuc (65535 - n))

-- a signed number of that range written as its 16 bits
abbrev pub bits_of : ℤ → ℕ
bits_of (pos n) = n
bits_of (negsuc n) = 65535 - n

-- how a number stands to 0
abbrev pub sign_of : ℤ → Ordering
sign_of (negsuc n) = Less
sign_of (pos zero) = Equal
sign_of (pos (suc n)) = Greater

-- the order of two stamps is the sign of their signed difference
unfoldable pub order_of : ℕ → ℕ → Ordering
order_of a b = sign_of (signed_of (difference_of a b))

-- the number of an order, the first against the second: -1, 0 or 1
abbrev pub order_number : Ordering → ℤ
order_number Less = negsuc 0
order_number Equal = pos 0
order_number Greater = pos 1

-- the stamp t is in the accepted range around m: its signed difference to m is -16,383 to 16,382
unfoldable pub in_range : ℕ → ℕ → Bool
in_range m t = int_le (negsuc 16382) (signed_of (difference_of t m)) && int_le (signed_of (difference_of t m)) (pos 16382)
