-- What the hosts' calls on stamps answer: document 01, the last section, "Forms the Rust has and Rattle lacks". (The order's number is `order_number` of
-- timestamp's specs/Timestamps.) Definitions only. Assumes nothing.
use Rattle.std.specs.Prelude.{Bool, cond, ℤ, pos, Float}
use Rattle.timestamp.specs.FloatTimestamps.{from_seconds, stamp_of}
use Rattle.timestamp.specs.Floats.{least64, between, one64, time_ok}

-- a timestep is in the settings' range, 1/1024 to 1 second
abbrev pub timestep_ok : Float → Bool
timestep_ok t = between least64 one64 t

-- the frame stamp of a time, cut toward zero and signed, or 65,536 plus 1 for the timestep, or plus 2 for the seconds; with both out of range, the timestep's
unfoldable pub frame_stamp_of : Float → Float → ℤ
frame_stamp_of s t = cond (timestep_ok t) (cond (time_ok s) (stamp_of (from_seconds s t)) (pos 65538)) (pos 65537)
