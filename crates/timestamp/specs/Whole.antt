-- The whole numbers next to a binary64 value, defined on its mathematical value. A NaN and an infinity stay as they are, and a result of 0 keeps the value's
-- sign. Definitions only. Assumes nothing.
use Rattle.std.specs.Prelude.{ℕ, ◌+◌, ◌-◌, ◌*◌, ◌/◌, Bool, cond, Float}
use Rattle.std.specs.Float.{nan, inf, fin, binary64}
use Rattle.std.specs.Float.Ieee.{up, down, round}

-- The value with the sign s (true for negative) and the magnitude a / c has its magnitude made the whole number `to s a c`
abbrev pub whole_by : (Bool → ℕ → ℕ → ℕ) → Float → Float
whole_by to nan = nan
whole_by to (inf s) = inf s
whole_by to (fin s m e) = round binary64 s (to s (m * up e) (down e)) 1

-- a / c cut to a whole number
abbrev pub toward_zero : Bool → ℕ → ℕ → ℕ
toward_zero s a c = a / c

-- the next whole number up, which for a negative value is the one toward zero
abbrev pub upward : Bool → ℕ → ℕ → ℕ
upward s a c = cond s (a / c) ((a + (c - 1)) / c)

-- the next whole number down, which for a negative value is the one away from zero
abbrev pub downward : Bool → ℕ → ℕ → ℕ
downward s a c = cond s ((a + (c - 1)) / c) (a / c)

-- the nearest whole number, a half going away from zero
abbrev pub closest : Bool → ℕ → ℕ → ℕ
closest s a c = (a * 2 + c) / (c * 2)

-- x without its fraction
unfoldable pub trunc_of : Float → Float
trunc_of x = whole_by toward_zero x

-- the least whole number that is not below x
unfoldable pub ceil_of : Float → Float
ceil_of x = whole_by upward x

-- the greatest whole number that is not above x
unfoldable pub floor_of : Float → Float
floor_of x = whole_by downward x

-- the whole number nearest to x, halves away from zero
unfoldable pub round_of : Float → Float
round_of x = whole_by closest x
