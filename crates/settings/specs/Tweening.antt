-- Document 01, "src/lib.rs": the tweening methods, by the numbers that a call gives, and how each shapes a tween weight.
-- Definitions only. Assumes nothing.
use Rattle.std.specs.Prelude.{ℕ, Bool, true, false, cond, ◌==◌, Float}
use Rattle.timestamp.specs.Whole.{floor_of, round_of}
use Rattle.settings.specs.declared.TweeningMethod.{TweeningMethod}
use Rattle.settings.specs.declared.TweeningMethod.TheVariants.{MostRecentlyPassed, Nearest, Interpolated, Unknown}

-- the method that a number names: 0, 1 and 2 in the order of the Rust's cases, and none for any other
unfoldable pub method_of : ℕ → TweeningMethod
method_of n = cond (n == 0) MostRecentlyPassed (cond (n == 1) Nearest (cond (n == 2) Interpolated Unknown))

-- it is one of the three methods
abbrev pub known_of : TweeningMethod → Bool
known_of MostRecentlyPassed = true
known_of Nearest = true
known_of Interpolated = true
known_of Unknown = false

-- the weight as the method shapes it: rounded down, rounded with a half away from zero, or as it is
abbrev pub shaped_of : TweeningMethod → Float → Float
shaped_of MostRecentlyPassed t = floor_of t
shaped_of Nearest t = round_of t
shaped_of Interpolated t = t
shaped_of Unknown t = t
