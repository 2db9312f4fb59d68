-- A finite float between two numbers: how the laws of this crate, and those of the crates above it, say a bound.
-- Definitions only. Assumes nothing.
use Rattle.std.specs.Prelude.{ℕ, ◌^◌, Bool, true, false, T, Float}
use Rattle.std.proofs.Common.{pow_pos}
use Rattle.std.specs.Float.Ieee.Scale.{finite}
use Rattle.timestamp.specs.Floats.{zero64, one64}
use Rattle.float_laws.specs.Fractions.{Q, Le, val, sgn}

-- The whole number n, or -n where the sign is `true`.
abbrev pub whole_q : Bool → ℕ → Q
whole_q s n = sgn s n (2 ^ 0) (pow_pos 0)

-- z is finite, at least lo and at most hi.
abbrev pub Between : Q → Float → Q → Type 0
Between lo z hi = T (finite z) × Le lo (val z) × Le (val z) hi

-- z is finite, at least -n and at most n.
abbrev pub Within : Float → ℕ → Type 0
Within z n = Between (whole_q true n) z (whole_q false n)

-- z is finite, at least 0 and at most 1.
abbrev pub InUnit : Float → Type 0
InUnit z = Between (val zero64) z (val one64)
