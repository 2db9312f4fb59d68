-- A bit pattern that is tested before a float is made of it. Assumes nothing.
use Rattle.std.proofs.Common.{ℕ, ◌%◌, ◌^◌, ◌≤◌, Bool, not, T, sym, ◌∙◌, subst, le-ltb}
use lib.Ieee.{binary64, nan_bits}
use lib.Ieee.Bits.{nan_bits_above}

-- any other pattern is no NaN's
pub no_nan : (n : ℕ) → n % 2 ^ 63 ≤ 0x7ff0_0000_0000_0000 → T (not (nan_bits binary64 n))
no_nan n h = subst (λ (t : Bool). T (not t)) (sym (nan_bits_above binary64 n ∙ le-ltb 0x7ff0_0000_0000_0000 (n % 2 ^ 63) h)) tt
