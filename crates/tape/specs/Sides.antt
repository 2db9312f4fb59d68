-- The two worlds of a client, by number: 0 is the left one and 1 the right one, as document 01 has them.
-- Definitions only. Assumes nothing.
use Rattle.std.specs.Prelude.{ℕ, Bool, true, false, cond, ◌==◌}
use Rattle.tape.specs.declared.Side.{Side}
use Rattle.tape.specs.declared.Side.TheVariants.{Left, Right}

-- a side is the left one
abbrev pub is_left : Side → Bool
is_left Left = true
is_left Right = false

-- the number of a side
abbrev pub side_number : Side → ℕ
side_number s = cond (is_left s) 0 1

-- the side of a number: any but 0 is right
abbrev pub side_named : ℕ → Side
side_named n = cond (n == 0) Left Right

-- the other side
abbrev pub other_of : Side → Side
other_of Left = Right
other_of Right = Left
