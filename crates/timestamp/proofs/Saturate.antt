-- `to_signed 15`, Rust's `as i16`, at a value that is at least the upper end of the range. Assumes nothing.
use Rattle.std.proofs.Common.{◌≡◌, ℕ, ◌*◌, ◌/◌, ◌<◌, ◌≤◌, true, false, ◌&&◌, ◌||◌, eqb, ltb, pos, refl, ap}
use Rattle.std.proofs.Common.{le-div_iff_mul-le, arith, eqb-true}
use lib.Ieee.{Float, nan, inf, fin, up, down, lt, le, eq, to_signed}
use lib.Ieee.Fits.{down_pos}
use Rattle.timestamp.proofs.Basics.{not_true, le_true, signs_apart}

-- 32,767
abbrev pub most : Float
most = fin false 32767 (pos 0)

-- `le` of two values that are not negative
le_at : (a b : ℕ) → ltb a b || (eqb a b && true) ≡ true → a ≤ b
le_at a b h = le_true (eqb a b) true (eqb-true a b) h

div_ge : (k a c : ℕ) → 0 < c → k * c ≤ a → k ≤ a / c
div_ge k a c C h = (le-div_iff_mul-le C).1 h

-- from 32,767 up the stamp is 32,767
pub saturates : (x : Float) → le most x ≡ true → to_signed 15 x ≡ pos 32767
unfolding le lt eq to_signed
saturates nan h = not_true h
saturates (inf true) h = not_true h
saturates (inf false) h = refl
saturates (fin true m e) h = absurd (signs_apart (32767 * down e) (m * up e * 1) (omega (arith, down_pos e)) h)
saturates (fin false m e) h =
    let l : 32767 ≤ m * up e / down e = div_ge 32767 (m * up e) (down e) (down_pos e) (omega (arith, le_at (32767 * down e) (m * up e * 1) h)) in
    ap pos (omega arith)
