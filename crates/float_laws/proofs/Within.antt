-- Bounds that are whole numbers: a finite float between -n and n, and one between 0 and 1.
use mathlib.Core.Path.{◌≡◌, sym, ap, ◌∙◌}
use Prim.Native.Nat.{ℕ, ◌+◌, ◌*◌, ◌≤◌, ◌<◌, ◌^◌}
use native.Mathlib.Nat.{mul-le-mul_right, mul-one}
use native.Mathlib.Omega.{arith}
use mathlib.Core.Bool.{Bool, true, false, true≢false}
use lib.Dec.{T, lit≤}
use lib.Pow.{pow_pos}
use lib.Ieee.{Float, nan, inf, fin, up, le, binary64, add, sub, div}
use lib.Ieee.Exact.{HasValue}
use lib.Ieee.Positive.{den, positive_of_value}
use lib.Ieee.Scale.{finite}
use Rattle.float_laws.specs.Fractions.{pnum, nnum, val}
use Rattle.float_laws.specs.Bounds.{whole_q, Within}
use Rattle.timestamp.specs.Floats.{zero64}
use Rattle.float_laws.proofs.Value.{q_le_trans, le_to_val, le_of_val}
use Rattle.float_laws.proofs.Round.{has_value_finite, has_value_eqv}
use Rattle.float_laws.proofs.Bounds.{Held, held_dyadic, between_widen, add-between, sub-between, div-between}

-- Each whole number below 2 ^ 53, and its negative, is held.
pub held_whole : (s : Bool) (n : ℕ) → n < 2 ^ 53 → Held binary64 (whole_q s n)
held_whole s n h = held_dyadic binary64 s n 0 (lit≤ tt) h

-- The lower bound, on numerators.
pub within_low : (z : Float) (n : ℕ) → Within z n → nnum z ≤ pnum z + n * den z
within_low z n w = omega (arith, w.1)

-- The upper bound, on numerators.
pub within_high : (z : Float) (n : ℕ) → Within z n → pnum z ≤ n * den z + nnum z
within_high z n w = omega (arith, w.2)

-- What is within n is within any larger number.
pub within_widen : (z : Float) (n k : ℕ) → n ≤ k → Within z n → Within z k
within_widen z n k h w = between_widen (whole_q true n) (whole_q false n) (whole_q true k) (whole_q false k) z (omega arith) (omega arith) w

-- 0 is within every bound.
pub zero_within : (n : ℕ) → Within zero64 n
zero_within n = (tt, omega arith, omega arith)

-- ---- against the tests of a program; lo and hi are any floats that are -n and n

-- A finite z with lo ≤ z and z ≤ hi is within n.
pub within_of_tests : (z lo hi : Float) (n : ℕ) → T (finite z) → HasValue lo true n 1 → HasValue hi false n 1 → T (le lo z) → T (le z hi) → Within z n
within_of_tests z lo hi n p v w h k =
    let a = has_value_eqv lo true n 1 (pow_pos 0) v in
    let b = has_value_eqv hi false n 1 (pow_pos 0) w in (
      p,
      q_le_trans (whole_q true n) (val lo) (val z) a.1 (le_to_val lo z (has_value_finite lo true n 1 v) p h),
      q_le_trans (val z) (val hi)
          (whole_q false n) (le_to_val z hi p (has_value_finite hi false n 1 w) k) b.0,
    )

-- What is within n is finite and passes lo ≤ z and z ≤ hi.
pub tests_of_within : (z lo hi : Float) (n : ℕ) → HasValue lo true n 1 → HasValue hi false n 1 → Within z n → T (finite z) × T (le lo z) × T (le z hi)
tests_of_within z lo hi n v w t =
    let a = has_value_eqv lo true n 1 (pow_pos 0) v in
    let b = has_value_eqv hi false n 1 (pow_pos 0) w in (
      t.0,
      le_of_val lo z (has_value_finite lo true n 1 v) t.0 (q_le_trans (val lo) (whole_q true n) (val z) a.0 t.1),
      le_of_val z hi t.0
          (has_value_finite hi false n 1 w) (q_le_trans (val z) (whole_q false n) (val hi) t.2 b.1),
    )

-- ---- the operations

-- |x| ≤ n and |y| ≤ k give |x + y| ≤ n + k, rounding included.
pub add_within : (x y : Float) (n k : ℕ) → n + k < 2 ^ 53 → Within x n → Within y k → Within (add binary64 x y) (n + k)
add_within x y n k s a b =
    add-between binary64 (whole_q true (n + k)) (whole_q false (n + k)) x y (held_whole true (n + k) s) (held_whole false (n + k) s) a.0 b.0
    (low_side (pnum x) (nnum x) (den x) (pnum y) (nnum y) (den y) (within_low x n a) (within_low y k b))
    (high_side (pnum x) (nnum x) (den x) (pnum y) (nnum y) (den y) (within_high x n a) (within_high y k b))
  where
    low_side : (p m d q r e : ℕ) → m ≤ p + n * d → r ≤ q + k * e → 0 * (d * e) + (m * e + r * d) * 1 ≤ (p * e + q * d) * 1 + (n + k) * (d * e)
    low_side p m d q r e h i = let u = mul-le-mul_right e h in let v = mul-le-mul_right d i in omega arith

    high_side : (p m d q r e : ℕ) → p ≤ n * d + m → q ≤ k * e + r → (p * e + q * d) * 1 + 0 * (d * e) ≤ (n + k) * (d * e) + (m * e + r * d) * 1
    high_side p m d q r e h i = let u = mul-le-mul_right e h in let v = mul-le-mul_right d i in omega arith

-- |x| ≤ n and |y| ≤ k give |x - y| ≤ n + k, rounding included.
pub sub_within : (x y : Float) (n k : ℕ) → n + k < 2 ^ 53 → Within x n → Within y k → Within (sub binary64 x y) (n + k)
sub_within x y n k s a b =
    sub-between binary64 (whole_q true (n + k)) (whole_q false (n + k)) x y (held_whole true (n + k) s) (held_whole false (n + k) s) a.0 b.0
    (low_side (pnum x) (nnum x) (den x) (pnum y) (nnum y) (den y) (within_low x n a) (within_high y k b))
    (high_side (pnum x) (nnum x) (den x) (pnum y) (nnum y) (den y) (within_high x n a) (within_low y k b))
  where
    low_side : (p m d q r e : ℕ) → m ≤ p + n * d → q ≤ k * e + r → 0 * (d * e) + (m * e + q * d) * 1 ≤ (p * e + r * d) * 1 + (n + k) * (d * e)
    low_side p m d q r e h i = let u = mul-le-mul_right e h in let v = mul-le-mul_right d i in omega arith

    high_side : (p m d q r e : ℕ) → p ≤ n * d + m → r ≤ q + k * e → (p * e + r * d) * 1 + 0 * (d * e) ≤ (n + k) * (d * e) + (m * e + q * d) * 1
    high_side p m d q r e h i = let u = mul-le-mul_right e h in let v = mul-le-mul_right d i in omega arith

-- |x| ≤ c n gives |x / c| ≤ n, rounding included, for any float y that is the whole number c.
pub div_within : (x y : Float) (c n : ℕ) → n < 2 ^ 53 → 0 < c → HasValue y false c 1 → Within x (c * n) → Within (div binary64 x y) n
div_within x y c n s C v a =
    let q = positive_of_value y c 1 v C in
    let w = cross y c v in
    div-between binary64 (whole_q true n) (whole_q false n) x y (held_whole true n s) (held_whole false n s) a.0 q
    (low_side (pnum x) (nnum x) (den x) (pnum y) (den y) w (within_low x (c * n) a))
    (high_side (pnum x) (nnum x) (den x) (pnum y) (den y) w (within_high x (c * n) a))
  where
    cross : (y : Float) (c : ℕ) → HasValue y false c 1 → pnum y ≡ c * den y
    cross nan c v = absurd v
    cross (inf s) c v = absurd v
    cross (fin true m e) c v = absurd (true≢false v.0)
    cross (fin false m e) c v = sym (mul-one (m * up e)) ∙ v.1

    low_side : (p m d b e : ℕ) → b ≡ c * e → m ≤ p + c * n * d → 0 * (b * d) + m * e * 1 ≤ p * e * 1 + n * (b * d)
    low_side p m d b e w h = let u = mul-le-mul_right e h in let z = ap (λ (k : ℕ). n * (k * d)) w in omega arith

    high_side : (p m d b e : ℕ) → b ≡ c * e → p ≤ c * n * d + m → p * e * 1 + 0 * (b * d) ≤ n * (b * d) + m * e * 1
    high_side p m d b e w h = let u = mul-le-mul_right e h in let z = ap (λ (k : ℕ). n * (k * d)) w in omega arith
