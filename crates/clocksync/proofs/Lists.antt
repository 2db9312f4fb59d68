-- Lists in the 64 slots of an array, and what the loops over an array keep. Assumes nothing.
use mathlib.Core.Path.{◌≡◌, ap}
use mathlib.Core.List.{List, [], ◌∷◌, ◌++◌}
use Prim.Native.Nat.{ℕ, zero, suc, ◌-◌, ◌<◌}
use native.Mathlib.Nat.{le_of_suc-le-suc, not-suc-le-zero}
use native.Mathlib.Numerals.{unary_clauses}
use lib.ListN.{length, take, set, replicate}
use lib.Seq.{take-append_seam}
use lib.Ieee.{Float}
use Rattle.timestamp.specs.Floats.{zero64}
use Rattle.clocksync.specs.Clock.{laid_out}

-- ---- laid out in slots

-- a store at the first unused slot lays out the list with one element more
module _ {A : Type 0} where
  pub pad_push : (n : ℕ) (z : A) (xs : List A) (x : A) → length xs < n
      → set (xs ++ replicate (n - length xs) z) (length xs) x ≡ (xs ++ (x ∷ [])) ++ replicate (n - length (xs ++ (x ∷ []))) z
  pad_push zero z xs x h = absurd (not-suc-le-zero h)
  pad_push (suc n) z [] x h = simp unary_clauses
  pad_push (suc n) z (y ∷ xs) x h = simp unary_clauses (ap (λ (l : List A). y ∷ l) (pad_push n z xs x (le_of_suc-le-suc h)))

pub laid_push : (xs : List Float) (x : Float) → length xs < 64 → set (laid_out xs) (length xs) x ≡ laid_out (xs ++ (x ∷ []))
laid_push xs x h = pad_push 64 zero64 xs x h

-- what a clock with these slots holds
pub take-laid : (xs : List Float) → take (length xs) (laid_out xs) ≡ xs
take-laid xs = take-append_seam xs _
