-- Frame counts as document 01 has them, under "src/timestamp.rs": binary64 values in the stamps' space, and their way to a stamp. Each operation is IEEE 754's,
-- in the Rust's order. Definitions only. Assumes nothing.
use Rattle.std.specs.Prelude.{ℕ, false, cond, ℤ, pos, Float}
use Rattle.std.specs.Float.{fin, binary64}
use Rattle.std.specs.Float.Ieee.{add, sub, mul, div, rem, lt, to_signed, of_int}
use Rattle.timestamp.specs.Floats.{zero64}
use Rattle.timestamp.specs.Timestamps.{signed_of}
use Rattle.timestamp.specs.Whole.{ceil_of}

-- 32,768, half of the stamps' space
abbrev pub half64 : Float
half64 = fin false 1 (pos 15)

-- 65,536, the size of the stamps' space
abbrev pub cycle64 : Float
cycle64 = fin false 1 (pos 16)

-- a remainder by y that is below 0 has y added to it
abbrev pub never_negative : Float → Float → Float
never_negative y r = cond (lt r zero64) (add binary64 r y) r

-- a number of frames wrapped into the stamps' space: (x + 32,768) rem 65,536 - 32,768, the remainder never negative
unfoldable pub from_unwrapped : Float → Float
from_unwrapped x = sub binary64 (never_negative cycle64 (rem binary64 (add binary64 x half64) cycle64)) half64

-- the frame count of a time
unfoldable pub from_seconds : Float → Float → Float
from_seconds seconds timestep = from_unwrapped (div binary64 seconds timestep)

-- the difference of two frame counts, wrapped
abbrev pub float_difference_of : Float → Float → Float
float_difference_of x y = from_unwrapped (sub binary64 x y)

-- a frame count in seconds
abbrev pub as_seconds : Float → Float → Float
as_seconds x timestep = mul binary64 x timestep

-- the frame count of a stamp, exact
abbrev pub float_of : ℕ → Float
float_of t = of_int binary64 (signed_of t)

-- the stamp of a frame count, signed: cut toward zero, saturating at -32,768 and 32,767, and 0 for a NaN
unfoldable pub stamp_of : Float → ℤ
stamp_of x = to_signed 15 x

-- the stamp of a frame count rounded up, saturating in the same way
unfoldable pub ceil_stamp_of : Float → ℤ
ceil_stamp_of x = to_signed 15 (ceil_of x)
