-- The overshoot that a time skip sets, where its target x is rounded up to a stamp c: wrap (c - x) in seconds.
use mathlib.Core.Path.{◌≡◌, sym, ap, ◌∙◌, subst}
use Prim.Native.Nat.{ℕ, zero, suc, ◌+◌, ◌-◌, ◌*◌, ◌≤◌, ◌<◌, ◌^◌}
use native.Mathlib.Nat.{le_trans, le_of_eq, mul-le-mul_right, mul-lt-mul_of_pos_right, mul_assoc, lt_of_le_of_lt}
use native.Mathlib.Omega.{arith}
use mathlib.Core.Bool.{Bool, true, false, not}
use lib.IntN.{pos, negsuc}
use lib.Dec.{T, leb, leb→le, nleb→lt, lit<, lit≤}
use lib.Pow.{pow-add, pow_pos, pow_mono}
use lib.Ieee.{Float, nan, inf, fin, lt, le, binary64, fits, sub, mul, div}
use lib.Ieee.Digits.{back}
use lib.Ieee.Fits.{down_pos}
use lib.Ieee.Positive.{den, den_pos}
use lib.Ieee.Scale.{finite}
use Rattle.float_laws.specs.Fractions.{Le, Lt, pnum, nnum, val}
use Rattle.float_laws.specs.Bounds.{Between, whole_q, InUnit}
use Rattle.timestamp.specs.Floats.{zero64, one64, tween_of}
use Rattle.float_laws.specs.Laws.{Step, last_stamp, first_stamp, SkipCycle}
use Rattle.timestamp.specs.FloatTimestamps.{half64, from_unwrapped}
use Rattle.float_laws.proofs.Value.{le_to_val, lt_to_val, lt_of_val}
use Rattle.float_laws.proofs.Round.{fits_bounds}
use Rattle.float_laws.proofs.Bounds.{held_eqv, diff_q, held_diff, sub-between, mul-between, div-between}
use Rattle.float_laws.proofs.Within.{held_whole}
use Rattle.float_laws.proofs.Timestep.{least_unsigned, step_positive, step_nonneg, mul_step_low, div-least_low, units_of, units_least, units_most}
use Rattle.float_laws.proofs.Timestep.{units_under, units_over}
use Rattle.float_laws.proofs.Overshoot.{mul_unit}
use Rattle.float_laws.proofs.Wrap.{wrap_near, wrap_unit, wrap_cycle}

-- Where c - x is from 0 to 1, the overshoot is from 0 to the timestep.
pub skip_in : (z t : Float) → Step t → InUnit z → Between (val zero64) (mul binary64 (from_unwrapped z) t) (val t)
skip_in z t s w = mul_unit (from_unwrapped z) t s.fits_t s.finite_t (step_nonneg t s) (wrap_unit z w)

-- ---- a target above the last stamp

-- Where x is above 32,767 and c is -32,768, the overshoot is from 0 to the timestep. Nothing uses it yet: kept for request 2 of document 02.
pub skip_cycle : SkipCycle
unfolding SkipCycle
skip_cycle x t p h k s =
    let z = sub binary64 first_stamp x in
    let w = sub-between binary64 (whole_q true (2 ^ 16)) (whole_q true (2 ^ 16 - 1)) first_stamp x (held_whole true (2 ^ 16) (lit< tt))
    (held_whole true (2 ^ 16 - 1) (lit< tt)) tt p
    (omega (arith, le_to_val x half64 p tt k)) (omega (arith, lt_to_val last_stamp x tt p h)) in
    mul_unit (from_unwrapped z) t s.fits_t s.finite_t (step_nonneg t s) (wrap_cycle z w)

-- A value above 32,767 has at most 38 digits below the point.
small_exp : (m k : ℕ) → m < 2 ^ 53 → 32767 * 2 ^ k < m → k ≤ 38
small_exp m k h i = go (leb k 38) (leb→le k 38) (nleb→lt k 38)
  where
    go : (b : Bool) → (T b → k ≤ 38) → (T (not b) → 38 < k) → k ≤ 38
    go true u v = u tt
    go false u v = absurd (omega (arith, pow_mono (v tt), i, h))

-- A value above 32,767 is at least 32,767 + 2 ^ -38.
above_last : (x : Float) → T (fits binary64 x) → T (finite x) → T (lt last_stamp x) → Le (diff_q (32767 * 2 ^ 38 + 1) 0 38) (val x)
above_last x t p h = go x t p (lt_to_val last_stamp x tt p h)
  where
    up_one : (m j q : ℕ) → j * q ≡ 2 ^ 38 → 0 < j → 32767 * q < m → (32767 * 2 ^ 38 + 1) * q ≤ m * 2 ^ 38
    up_one m j q e J h =
        let u : 32767 * q * j < m * j = mul-lt-mul_of_pos_right h J in
        let w : 32767 * (j * q) ≡ 32767 * 2 ^ 38 = ap (λ (y : ℕ). 32767 * y) e in
        let v : 32767 * 2 ^ 38 + 1 ≤ m * j = omega arith in
        let a : (32767 * 2 ^ 38 + 1) * q ≤ m * j * q = mul-le-mul_right q v in
        le_trans a (le_of_eq (mul_assoc m j q ∙ ap (λ (y : ℕ). m * y) e))

    go : (x : Float) → T (fits binary64 x) → T (finite x) → Lt (val last_stamp) (val x) → Le (diff_q (32767 * 2 ^ 38 + 1) 0 38) (val x)
    go nan t p h = absurd p
    go (inf s) t p h = absurd p
    go (fin true m e) t p h = absurd (omega (arith, down_pos e, h))
    go (fin false zero e) t p h = absurd (omega (arith, down_pos e, h))
    go (fin false (suc m) (pos k)) t p h = omega (arith, h)
    go (fin false (suc m) (negsuc k)) t p h =
        let f = fits_bounds binary64 false m (negsuc k) t in
        let i : 32767 * 2 ^ suc k < suc m = omega (arith, h) in
        let E = small_exp (suc m) (suc k) f.0 i in
        let j = 38 - suc k in
        let P : 2 ^ j * 2 ^ suc k ≡ 2 ^ 38 = sym (pow-add 2 j (suc k)) ∙ ap (λ (y : ℕ). 2 ^ y) (back 38 (suc k) E) in
        omega (arith, up_one (suc m) (2 ^ j) (2 ^ suc k) P (pow_pos j) i)

-- 32,767 - x is from -1 to -2 ^ -38, and wrapping leaves it there.
past : (x : Float) → T (fits binary64 x) → T (finite x) → T (lt last_stamp x) → T (le x half64)
    → Between (diff_q 0 (2 ^ 38) 38) (from_unwrapped (sub binary64 last_stamp x)) (diff_q 0 1 38)
past x t p h k =
    let L = held_diff binary64 0 (2 ^ 38) 38 (lit≤ tt) (lit< tt) (lit< tt) in
    let H = held_diff binary64 0 1 38 (lit≤ tt) (lit< tt) (lit< tt) in
    wrap_near 0 (2 ^ 38) 0 1 (sub binary64 last_stamp x) L H
    (held_eqv binary64 (whole_q false 32767) (diff_q (0 + 2 ^ 53) (2 ^ 38) 38) (held_whole false 32767 (lit< tt)) (lit≤ tt, lit≤ tt))
    (held_eqv binary64 (diff_q (2 ^ 53 - 1) 0 38) (diff_q (0 + 2 ^ 53) 1 38) (held_diff binary64 (2 ^ 53 - 1) 0 38 (lit≤ tt) (lit< tt) (lit< tt))
    (lit≤ tt, lit≤ tt))
    (lit≤ tt) (lit< tt)
    (sub-between binary64 (diff_q 0 (2 ^ 38) 38) (diff_q 0 1 38) last_stamp x L H tt p (omega (arith, le_to_val x half64 p tt k))
    (omega (arith, above_last x t p h)))

-- In seconds: at most -u / 2 ^ 55, where u is the units of t.
past_seconds : (y t : Float) → Step t → Between (diff_q 0 (2 ^ 38) 38) y (diff_q 0 1 38) → Between (whole_q true 1) (mul binary64 y t) (diff_q 0 (units_of
    t) 55)
past_seconds y t s b =
    let z = least_unsigned t s.finite_t s.least in
    mul-between binary64 (whole_q true 1) (diff_q 0 (units_of t) 55) y t (held_whole true 1 (lit< tt))
    (held_diff binary64 0 (units_of t) 55 (lit≤ tt) (lit< tt) (lt_of_le_of_lt (units_most t s) (lit< tt))) b.0 s.finite_t
    (mul_step_low y t 1 s (omega (arith, b.1)))
    (high_side (pnum y) (nnum y) (den y) (pnum t) (nnum t) (den t) (units_of t) z (units_under t) b.2)
  where
    high_at : (p n d q e w : ℕ) → w * e ≤ q * 2 ^ 17 → p * 2 ^ 38 + 1 * d ≤ 0 * d + n * 2 ^ 38
        → (p * q + n * 0) * 2 ^ 55 + w * (d * e) ≤ 0 * (d * e) + (p * 0 + n * q) * 2 ^ 55
    high_at p n d q e w h k = let u = mul-le-mul_right d h in let v = mul-le-mul_right q k in omega arith

    high_side : (p n d q m e w : ℕ) → m ≡ 0 → w * e ≤ q * 2 ^ 17 → p * 2 ^ 38 + 1 * d ≤ 0 * d + n * 2 ^ 38
        → (p * q + n * m) * 2 ^ 55 + w * (d * e) ≤ 0 * (d * e) + (p * m + n * q) * 2 ^ 55
    high_side p n d q m e w z h k = subst (λ (y : ℕ). (p * q + n * y) * 2 ^ 55 + w * (d * e) ≤ 0 * (d * e) + (p * y + n * q) * 2 ^ 55) (sym z)
        (high_at p n d q e w h k)

-- As a share of t: at most -2 ^ -39.
past_share : (o t : Float) → Step t → Between (whole_q true 1) o (diff_q 0 (units_of t) 55) → Between (whole_q true 1024) (div binary64 o t) (diff_q 0 1 39)
past_share o t s b =
    div-between binary64 (whole_q true 1024) (diff_q 0 1 39) o t (held_whole true 1024 (lit< tt))
    (held_diff binary64 0 1 39 (lit≤ tt) (lit< tt) (lit< tt)) b.0 (step_positive t s)
    (div-least_low o t 1 s.finite_t s.least (step_positive t s) (omega (arith, b.1)))
    (high_side (pnum o) (nnum o) (den o) (pnum t) (den t) (units_of t) (units_least t s) (units_over t) b.2)
  where
    high_side : (p n d q e w : ℕ) → 2 ^ 7 ≤ w → q * 2 ^ 17 < suc w * e → p * 2 ^ 55 + w * d ≤ 0 * d + n * 2 ^ 55
        → p * e * 2 ^ 39 + 1 * (q * d) ≤ 0 * (q * d) + n * e * 2 ^ 39
    high_side p n d q e w a h k =
        let u = mul-le-mul_right e k in
        let c = mul-le-mul_right e a in
        let i : q * 2 ^ 16 ≤ w * e = omega arith in
        let v = mul-le-mul_right d i in
        omega arith

-- Where x is above 32,767 and c is 32,767, the tween weight of the overshoot is above 1.
pub skip_out : (x t : Float) → T (fits binary64 x) → T (finite x) → T (lt last_stamp x) → T (le x half64) → Step t
    → T (lt one64 (tween_of (mul binary64 (from_unwrapped (sub binary64 last_stamp x)) t) t))
skip_out x t f p h k s =
    let y = from_unwrapped (sub binary64 last_stamp x) in
    let o = mul binary64 y t in
    let q = div binary64 o t in
    let b = past_share o t s (past_seconds y t s (past x f p h k)) in
    let w = sub-between binary64 (diff_q (2 ^ 39 + 1) 0 39) (whole_q false 1025) one64 q
    (held_diff binary64 (2 ^ 39 + 1) 0 39 (lit≤ tt) (lit< tt) (lit< tt)) (held_whole false 1025 (lit< tt)) tt b.0
    (omega (arith, b.2)) (omega (arith, b.1)) in
    let r = sub binary64 one64 q in
    lt_of_val one64 r tt w.0 (omega (arith, den_pos r, w.1))
