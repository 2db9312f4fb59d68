-- What a comparison of floats says of their sizes. Assumes nothing.
use Rattle.std.proofs.Common.{◌≡◌, ℕ, ◌≤◌, true, ◌&&◌, ◌||◌, eqb, ltb, eqb-true}
use Rattle.timestamp.proofs.Basics.{le_true}

-- `le` of two values that are not negative
pub le_at : (a b : ℕ) → ltb a b || (eqb a b && true) ≡ true → a ≤ b
le_at a b h = le_true (eqb a b) true (eqb-true a b) h
