-- The signed reading of 16 bits, and back. Assumes nothing.
use Rattle.std.proofs.Common.{◌≡◌, ℕ, ◌-◌, ◌<◌, ◌≤◌, ℤ, pos, negsuc, ap, ◌∙◌, arith, w16, SFits, le-ltb, lt-ltb}
use Rattle.timestamp.specs.Timestamps.{signed_of, bits_of}

-- the lower half reads as itself
pub signed_low : (d : ℕ) → d < 32768 → signed_of d ≡ pos d
unfolding signed_of
signed_low d h = simp (lt-ltb d 32768 h)

-- the upper half reads as negative
pub signed_high : (d : ℕ) → 32768 ≤ d → signed_of d ≡ negsuc (65535 - d)
unfolding signed_of
signed_high d h = simp (le-ltb d 32768 h)

-- a signed number written and read back is that number
pub signed_bits : (v : ℤ) → SFits w16 v → signed_of (bits_of v) ≡ v
signed_bits (pos n) f = signed_low n f.sfits
signed_bits (negsuc n) f = signed_high (65535 - n) (omega (arith, f.sfits)) ∙ ap negsuc (omega (arith, f.sfits))
