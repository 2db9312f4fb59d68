-- What the functions inside the crate are said to give. Definitions only. Assumes nothing.
use Rattle.std.specs.Prelude.{ℕ, List, Float}
use Rattle.std.specs.Float.{binary64}
use Rattle.std.specs.Float.Ieee.{of_bits}
use Rattle.host.specs.Mean.{word_at}

-- the float of 8 bytes, low byte first
abbrev pub float_in : List ℕ → Float
float_in word = of_bits binary64 (word_at word 0)
