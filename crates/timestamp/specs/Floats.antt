-- Floats that several definitions need, each under one name: IEEE 754 binary64 values, small operations on them, and limits that are floats.
-- Definitions only. Assumes nothing.
use Rattle.std.specs.Prelude.{Bool, true, false, cond, ◌&&◌, pos, negsuc, Float}
use Rattle.std.specs.Float.{fin, binary64}
use Rattle.std.specs.Float.Ieee.{sub, div, neg, lt, le}

-- +0.0
abbrev pub zero64 : Float
zero64 = fin false 0 (pos 0)

-- 1.0
abbrev pub one64 : Float
one64 = fin false 1 (pos 0)

-- 2.0
abbrev pub two64 : Float
two64 = fin false 1 (pos 1)

-- 1/1024, the shortest timestep
abbrev pub least64 : Float
least64 = fin false 1 (negsuc 9)

-- 64.0
abbrev pub sixty_four64 : Float
sixty_four64 = fin false 1 (pos 6)

-- |x|; -0.0 stays as it is, which no comparison tells from +0.0
abbrev pub abs_of : Float → Float
abs_of x = cond (lt x zero64) (neg x) x

-- x brought into 0 to 1; a NaN stays
abbrev pub clamped_of : Float → Float
clamped_of x = cond (lt x zero64) zero64 (cond (lt one64 x) one64 x)

-- the tween weight before it is shaped: 1 - overshoot / timestep
abbrev pub tween_of : Float → Float → Float
tween_of overshoot timestep = sub binary64 one64 (div binary64 overshoot timestep)

-- ---- ranges and limits

-- x is from lo to hi; -0 is as good as 0, and a NaN is in no range
abbrev pub between : Float → Float → Float → Bool
between lo hi x = le lo x && le x hi

-- 3,600: the seconds of an hour
abbrev pub hour64 : Float
hour64 = fin false 225 (pos 4)

-- -3,600
abbrev pub minus_hour64 : Float
minus_hour64 = fin true 225 (pos 4)

-- a time is finite and within 2 ^ 32 on both sides of 0
abbrev pub time_ok : Float → Bool
time_ok x = between (fin true 1 (pos 32)) (fin false 1 (pos 32)) x

-- a clock sample is finite and within 2 ^ 33
abbrev pub sample_ok : Float → Bool
sample_ok x = between (fin true 1 (pos 33)) (fin false 1 (pos 33)) x
