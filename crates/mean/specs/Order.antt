-- IEEE 754's order on a list of samples: what it means that a list is in order, and that it has the same samples as another.
-- Definitions only. Assumes nothing.
use Rattle.std.specs.Prelude.{T, List, [], ◌∷◌, Float}
use mathlib.Core.List.{Permᴰ}
use Rattle.std.specs.Float.{binary64}
use Rattle.std.specs.Float.Ieee.{fits, le}
use Rattle.std.specs.Float.Ieee.Scale.{finite}

-- every sample has the property
abbrev pub All : (Float → Type 0) → List Float → Type 0
All p [] = Unit {0}
All p (x ∷ xs) = p x × All p xs

-- every sample is finite
abbrev pub AllFinite : List Float → Type 0
AllFinite xs = All (λ x. T (finite x)) xs

-- every sample is a value of binary64
abbrev pub AllFit : List Float → Type 0
AllFit xs = All (λ x. T (fits binary64 x)) xs

-- x is at most every sample of the list
abbrev pub AtMost : Float → List Float → Type 0
AtMost x [] = Unit {0}
AtMost x (y ∷ ys) = T (le x y) × AtMost x ys

-- each sample is at most every later one
abbrev pub Ordered : List Float → Type 0
Ordered [] = Unit {0}
Ordered (x ∷ xs) = AtMost x xs × Ordered xs

-- the second list has the samples of the first, each as often: one comes from the other by exchanging neighbours
abbrev pub Permutes : List Float → List Float → Type 0
Permutes xs ys = Permᴰ xs ys
