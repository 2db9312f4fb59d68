-- The overshoot, 0 to a timestep; the tween weight and the blend weight, 0 to 1.
use mathlib.Core.Path.{◌≡◌, subst}
use Prim.Native.Nat.{ℕ, ◌+◌, ◌-◌, ◌*◌, ◌≤◌}
use native.Mathlib.Nat.{mul-le-mul_right}
use native.Mathlib.Omega.{arith}
use mathlib.Core.Bool.{Bool, true, false, not, cond}
use lib.Dec.{T}
use lib.Ieee.{Float, lt, le, binary64, fits, sub, mul, div}
use lib.Ieee.Positive.{den, positive, positive-finite}
use lib.Ieee.Scale.{finite}
use Rattle.float_laws.specs.Fractions.{pnum, nnum, val}
use Rattle.float_laws.specs.Bounds.{Between, InUnit}
use Rattle.timestamp.specs.Floats.{zero64, one64, tween_of, clamped_of}
use Rattle.float_laws.specs.Laws.{TweenUnit}
use Rattle.float_laws.proofs.Value.{q_nonneg, le_to_val}
use Rattle.float_laws.proofs.Order.{float_le_of_not_lt}
use Rattle.float_laws.proofs.Bounds.{held_val, held_zero, held_one, in_order_lem, sub-between, mul-between, div-between}

-- Where 0 ≤ o ≤ t and t is positive, o / t is from 0 to 1.
quotient_unit : (o t : Float) → T (finite o) → T (positive t) → T (le zero64 o) → T (le o t) → InUnit (div binary64 o t)
quotient_unit o t p q h k =
    div-between binary64 (val zero64) (val one64) o t held_zero held_one p q
    (low_side (pnum o) (nnum o) (den o) (pnum t) (den t) (q_nonneg (val o) (le_to_val zero64 o tt p h)))
    (omega (arith, le_to_val o t p (positive-finite t q) k))
  where
    low_side : (a n d b e : ℕ) → n ≤ a → 0 * 1 * (b * d) + n * e * 1 ≤ a * e * 1 + 0 * (b * d)
    low_side a n d b e h = let k = mul-le-mul_right e h in omega arith

-- Where w is from 0 to 1, so is 1 - w.
one_less_unit : (w : Float) → InUnit w → InUnit (sub binary64 one64 w)
one_less_unit w b =
    sub-between binary64 (val zero64) (val one64) one64 w held_zero held_one tt b.0
    (omega (arith, b.2)) (omega (arith, b.1))

-- Where 0 ≤ o ≤ t and t is positive, the tween weight is finite and from 0 to 1. Nothing uses it yet: kept for request 2 of document 02.
pub tween_unit : TweenUnit
unfolding TweenUnit
tween_unit o t p q h k = in_order_lem zero64 (tween_of o t) one64 tt tt (one_less_unit (div binary64 o t) (quotient_unit o t p q h k))

-- Where y is from 0 to 1 and t is at least 0, y t is from 0 to t.
pub mul_unit : (y t : Float) → T (fits binary64 t) → T (finite t) → T (le zero64 t) → InUnit y → Between (val zero64) (mul binary64 y t) (val t)
mul_unit y t ft pt h b =
    let k = q_nonneg (val t) (le_to_val zero64 t tt pt h) in
    mul-between binary64 (val zero64) (val t) y t held_zero (held_val binary64 t ft pt) b.0 pt
    (low_side (pnum y) (nnum y) (den y) (pnum t) (nnum t) (den t) k b.1)
    (high_side (pnum y) (nnum y) (den y) (pnum t) (nnum t) (den t) k b.2)
  where
    low_at : (a n d m e w : ℕ) → n ≤ a → 0 * 1 * (d * e) + (a * m + n * (m + w)) * 1 ≤ (a * (m + w) + n * m) * 1 + 0 * (d * e)
    low_at a n d m e w h = let k = mul-le-mul_right w h in omega arith

    low_side : (a n d b m e : ℕ) → m ≤ b → 0 * 1 * d + n * 1 ≤ a * 1 + 0 * d → 0 * 1 * (d * e) + (a * m + n * b) * 1 ≤ (a * b + n * m) * 1 + 0 * (d * e)
    low_side a n d b m e h k =
        let i : m + (b - m) ≡ b = omega arith in
        subst (λ (z : ℕ). 0 * 1 * (d * e) + (a * m + n * z) * 1 ≤ (a * z + n * m) * 1 + 0 * (d * e)) i (low_at a n d m e (b - m) (omega arith))

    high_at : (a n d m e w : ℕ) → a ≤ d + n → (a * (m + w) + n * m) * e + m * (d * e) ≤ (m + w) * (d * e) + (a * m + n * (m + w)) * e
    high_at a n d m e w h = let k = mul-le-mul_right (w * e) h in omega arith

    high_side : (a n d b m e : ℕ) → m ≤ b → a * 1 + 0 * d ≤ 1 * 1 * d + n * 1 → (a * b + n * m) * e + m * (d * e) ≤ b * (d * e) + (a * m + n * b) * e
    high_side a n d b m e h k =
        let i : m + (b - m) ≡ b = omega arith in
        let j : a ≤ d + n = omega arith in
        subst (λ (z : ℕ). (a * z + n * m) * e + m * (d * e) ≤ z * (d * e) + (a * m + n * z) * e) i (high_at a n d m e (b - m) j)

-- A finite float clamped is from 0 to 1.
pub clamp_unit : (x : Float) → T (finite x) → T (le zero64 (clamped_of x)) × T (le (clamped_of x) one64)
unfolding le
clamp_unit x p = go (lt x zero64) (lt one64 x) (λ (h : T (not (lt x zero64))). float_le_of_not_lt x zero64 p tt h)
    (λ (h : T (not (lt one64 x))). float_le_of_not_lt one64 x tt p h)
  where
    go : (a b : Bool) → (T (not a) → T (le zero64 x)) → (T (not b) → T (le x one64))
        → T (le zero64 (cond a zero64 (cond b one64 x))) × T (le (cond a zero64 (cond b one64 x)) one64)
    go true b h k = (tt, tt)
    go false true h k = (tt, tt)
    go false false h k = (h tt, k tt)
