-- Document 01, "src/clocksync.rs": the mean of samples, which sorts, drops both extremes and sums upward from +0.0, and which samples are in range.
-- Definitions only. Assumes nothing.
use Rattle.std.specs.Prelude.{ℕ, suc, ◌-◌, Bool, true, cond, ◌&&◌, List, [], ◌∷◌, length, take, drop, pos, Float}
use Rattle.std.specs.Float.{binary64}
use Rattle.std.specs.Float.Ieee.{lt, add, div, of_int}
use Rattle.timestamp.specs.Floats.{zero64, sample_ok}

-- x in a sorted list: before the first that is greater, so after those that are equal to it, -0.0 and +0.0 among them
unfoldable pub sample_inserted : Float → List Float → List Float
sample_inserted x [] = x ∷ []
sample_inserted x (y ∷ ys) = cond (lt x y) (x ∷ y ∷ ys) (y ∷ sample_inserted x ys)

-- where x goes in such a list: how many stand before the first that is greater
unfoldable pub place_of : Float → List Float → ℕ
place_of x [] = 0
place_of x (y ∷ ys) = cond (lt x y) 0 (suc (place_of x ys))

-- the samples inserted one by one, in the order in which they came, into a list that is sorted already
unfoldable pub sorted_onto : List Float → List Float → List Float
sorted_onto ys [] = ys
sorted_onto ys (x ∷ xs) = sorted_onto (sample_inserted x ys) xs

-- the samples in order, the least first, and equal ones in the order in which they came
unfoldable pub sorted_of : List Float → List Float
sorted_of xs = sorted_onto [] xs

-- the samples without the d first and the d last
abbrev pub inner_of : ℕ → List Float → List Float
inner_of d xs = drop d (take (length xs - d) xs)

-- a sum, from the first to the last, each addition rounded
unfoldable pub sum_from : Float → List Float → Float
sum_from sum [] = sum
sum_from sum (x ∷ xs) = sum_from (add binary64 sum x) xs

-- the sum from +0.0 upward over the number of samples; a NaN where none is left
unfoldable pub average_of : List Float → Float
average_of xs = div binary64 (sum_from zero64 xs) (of_int binary64 (pos (length xs)))

-- the mean of the samples, d of them dropped at each extreme
unfoldable pub mean_of : ℕ → List Float → Float
mean_of d xs = average_of (inner_of d (sorted_of xs))

-- every sample is finite and within 2^33 (`sample_ok`): asked of those of a sound clock, and of those of the hosts' mean call
unfoldable pub samples_ok : List Float → Bool
samples_ok [] = true
samples_ok (x ∷ xs) = sample_ok x && samples_ok xs
