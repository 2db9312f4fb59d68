-- A timestep, 1/1024 to 1 second: seconds to frames and back, and its whole units of 2 ^ -17.
use mathlib.Core.Path.{◌≡◌, sym, subst}
use Prim.Native.Nat.{ℕ, suc, ◌+◌, ◌*◌, ◌≤◌, ◌<◌, ◌^◌, ◌/◌}
use native.Mathlib.Nat.{le_refl, mul-le-mul_right, le_of_suc-le-suc, div-mul-le_self, div-lt_iff_lt-mul, le-div_iff_mul-le}
use native.Mathlib.Omega.{arith}
use mathlib.Core.Bool.{true, false}
use lib.Dec.{T}
use lib.Ieee.{Float, le, binary64, div}
use lib.Ieee.Positive.{den, den_pos, positive}
use lib.Ieee.Scale.{finite}
use Rattle.float_laws.specs.Fractions.{Le, mul_q, pnum, nnum, val}
use Rattle.float_laws.specs.Bounds.{whole_q, Within}
use Rattle.timestamp.specs.Floats.{zero64, one64, least64}
use Rattle.float_laws.specs.Laws.{Step}
use Rattle.float_laws.proofs.Value.{le_to_val, lt_of_val}
use Rattle.float_laws.proofs.Order.{float_le_trans, positive_of_lt, positive_nnum}
use Rattle.float_laws.proofs.Operations.{div_q}
use Rattle.float_laws.proofs.Bounds.{div-between}
use Rattle.float_laws.proofs.Within.{held_whole, within_low, within_high}

-- A float that is at least 1/1024 is positive.
least_positive : (t : Float) → T (finite t) → T (le least64 t) → T (positive t)
least_positive t p h = positive_of_lt t p (lt_of_val zero64 t tt p (omega (arith, den_pos t, le_to_val least64 t tt p h)))

-- A float that is at least 1/1024 has no numerator below 0.
pub least_unsigned : (t : Float) → T (finite t) → T (le least64 t) → nnum t ≡ 0
least_unsigned t p h = positive_nnum t (least_positive t p h)

-- A timestep is positive.
pub step_positive : (t : Float) → Step t → T (positive t)
step_positive t s = least_positive t s.finite_t s.least

-- A timestep is at least 0, as the test says it.
pub step_nonneg : (t : Float) → Step t → T (le zero64 t)
unfolding le
step_nonneg t s = float_le_trans zero64 least64 t tt s.least

-- ---- frames to seconds and seconds to frames

-- The lower bound -n of x is one of the exact product.
pub mul_step_low : (x t : Float) (n : ℕ) → Step t → nnum x ≤ pnum x + n * den x → Le (whole_q true n) (mul_q (val x) (val t))
mul_step_low x t n s h = low_side (pnum x) (nnum x) (den x) (pnum t) (nnum t) (den t) (least_unsigned t s.finite_t s.least)
    (le_to_val t one64 s.finite_t tt s.most) h
  where
    low_at : (p m d q e : ℕ) → q ≤ e → m ≤ p + n * d → 0 * (d * e) + (p * 0 + m * q) * 1 ≤ (p * q + m * 0) * 1 + n * (d * e)
    low_at p m d q e h k = let u = mul-le-mul_right q k in let v = mul-le-mul_right (n * d) h in omega arith

    low_side : (p m d q r e : ℕ) → r ≡ 0 → q * 1 + 0 * e ≤ 1 * 1 * e + r * 1 → m ≤ p + n * d
        → 0 * (d * e) + (p * r + m * q) * 1 ≤ (p * q + m * r) * 1 + n * (d * e)
    low_side p m d q r e z h k = subst (λ (y : ℕ). 0 * (d * e) + (p * y + m * q) * 1 ≤ (p * q + m * y) * 1 + n * (d * e)) (sym z)
        (low_at p m d q e (omega arith) k)

-- 1/1024 ≤ t on numerators.
least_reach : (t : Float) → T (finite t) → T (le least64 t) → den t ≤ pnum t * 1024
least_reach t p h = omega (arith, least_unsigned t p h, le_to_val least64 t tt p h)

-- The lower bound -n of x gives the lower bound -1024 n of the exact quotient.
pub div-least_low : (x t : Float) (n : ℕ) (p : T (finite t)) → T (le least64 t) → (q : T (positive t)) → nnum x ≤ pnum x + n * den x
    → Le (whole_q true (n * 1024)) (div_q (val x) t q)
div-least_low x t n p l q h = low_side (pnum x) (nnum x) (den x) (pnum t) (den t) (least_reach t p l) h
  where
    low_side : (p m d q e : ℕ) → e ≤ q * 1024 → m ≤ p + n * d → 0 * (q * d) + m * e * 1 ≤ p * e * 1 + n * 1024 * (q * d)
    low_side p m d q e h k = let u = mul-le-mul_right e k in let v = mul-le-mul_right (n * d) h in omega arith

-- |x| ≤ n gives |x / t| ≤ 1024 n, rounding included, for any t that is at least 1/1024.
pub div-least_within : (x t : Float) (n : ℕ) → n * 1024 < 2 ^ 53 → Within x n → T (finite t) → T (le least64 t) → Within (div binary64 x t) (n * 1024)
div-least_within x t n s a p l =
    let q = least_positive t p l in
    div-between binary64 (whole_q true (n * 1024)) (whole_q false (n * 1024)) x t (held_whole true (n * 1024) s) (held_whole false (n * 1024) s) a.0 q
    (div-least_low x t n p l q (within_low x n a))
    (high_side (pnum x) (nnum x) (den x) (pnum t) (den t) (least_reach t p l) (within_high x n a))
  where
    high_side : (p m d q e : ℕ) → e ≤ q * 1024 → p ≤ n * d + m → p * e * 1 + 0 * (q * d) ≤ n * 1024 * (q * d) + m * e * 1
    high_side p m d q e h k = let u = mul-le-mul_right e k in let v = mul-le-mul_right (n * d) h in omega arith

-- |x| ≤ n seconds are at most 1024 n frames: |x / t| ≤ 1024 n, rounding included.
pub div_step_within : (x t : Float) (n : ℕ) → n * 1024 < 2 ^ 53 → Within x n → Step t → Within (div binary64 x t) (n * 1024)
div_step_within x t n s a st = div-least_within x t n s a st.finite_t st.least

-- ---- whole units of 2 ^ -17

-- t in units of 2 ^ -17, cut to a whole number.
abbrev pub units_of : Float → ℕ
units_of t = pnum t * 2 ^ 17 / den t

-- A timestep has at least 128 units.
pub units_least : (t : Float) → Step t → 2 ^ 7 ≤ units_of t
units_least t s =
    let z = least_unsigned t s.finite_t s.least in
    (le-div_iff_mul-le (den_pos t)).1 (omega (arith, z, le_to_val least64 t tt s.finite_t s.least))

-- A timestep has at most 2 ^ 17 units.
pub units_most : (t : Float) → Step t → units_of t ≤ 2 ^ 17
units_most t s =
    let z = least_unsigned t s.finite_t s.least in
    le_of_suc-le-suc ((div-lt_iff_lt-mul (den_pos t)).1 (omega (arith, z, den_pos t, le_to_val t one64 s.finite_t tt s.most)))

-- The units of t are at most t.
pub units_under : (t : Float) → units_of t * den t ≤ pnum t * 2 ^ 17
units_under t = div-mul-le_self (pnum t * 2 ^ 17) (den t)

-- One unit more than the units of t is greater than t.
pub units_over : (t : Float) → pnum t * 2 ^ 17 < suc (units_of t) * den t
units_over t = (div-lt_iff_lt-mul (den_pos t)).0 (le_refl (suc (units_of t)))
