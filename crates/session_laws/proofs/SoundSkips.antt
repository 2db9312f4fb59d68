-- The overshoot that a skip sets is from 0 to the timestep where its tween weight passes: the target rounded up is from 0 to 1 frame above it, and where the
-- stamp saturates the weight is above 1. Assumes nothing.
use mathlib.Core.Path.{◌≡◌, refl, sym, ap, ◌∙◌, subst}
use mathlib.Core.Bool.{Bool, true, false, not}
use Prim.Native.Nat.{ℕ, zero, suc, ◌+◌, ◌-◌, ◌*◌, ◌/◌, ◌^◌, ◌<◌, ◌≤◌}
use native.Mathlib.Nat.{le_refl, lt_of_lt_of_le, lt_of_mul-lt-mul_right, div-mul-le_self, div-lt_iff_lt-mul}
use native.Mathlib.Omega.{arith}
use lib.Dec.{T, leb, ltb, lit<, lit≤}
use lib.IntN.{ℤ, pos, negsuc}
use lib.Pow.{pow_pos}
use lib.Ieee.{Float, nan, inf, fin, up, down, binary64, fits, round, sub, mul, div, lt, le, of_int, to_signed, in_float}
use lib.Ieee.Bits.{is_true}
use lib.Ieee.Back.{round_whole, positive_back, negative_back}
use lib.Ieee.Fits.{sub-fits, down_pos}
use lib.Ieee.Positive.{den}
use lib.Ieee.Scale.{finite}
use borrow.Author.Tests.{le-leb, lt-ltb}
use Rattle.float_laws.specs.Fractions.{Q, Le, Eqv, add_q, pnum, nnum, val}
use Rattle.float_laws.specs.Bounds.{Between, whole_q, Within, InUnit}
use Rattle.timestamp.specs.Floats.{zero64, one64, tween_of}
use Rattle.float_laws.specs.Laws.{Step, last_stamp}
use Rattle.timestamp.specs.FloatTimestamps.{half64, from_unwrapped, from_seconds, float_of, ceil_stamp_of}
use Rattle.float_laws.proofs.Value.{q_le_trans, le_to_val, le_of_val, lt_to_val}
use Rattle.float_laws.proofs.Order.{between_finite, float_le_of_not_lt}
use Rattle.float_laws.proofs.Round.{has_value_finite, has_value_eqv}
use Rattle.float_laws.proofs.Bounds.{held_zero, held_one, in_order_lem, sub-between}
use Rattle.float_laws.proofs.Within.{tests_of_within, within_widen}
use Rattle.float_laws.proofs.Timestep.{div_step_within}
use Rattle.float_laws.proofs.Wrap.{wrap_within}
use Rattle.float_laws.proofs.Skip.{skip_in, skip_out}
use Rattle.timestamp.specs.Timestamps.{signed_of, bits_of}
use Rattle.timestamp.specs.Whole.{ceil_of}
use Rattle.timestamp.proofs.Basics.{holds_true}
use Rattle.timestamp.proofs.Saturate.{saturates}
use Rattle.timestamp.proofs.Signed.{signed_low, signed_high}
use Rattle.timestamp.proofs.Tests.{apart}
use Rattle.client_publish.specs.Ending.{weight_ok}
use Rattle.fixed_timestepper.specs.TimeKeeper.{corrected_of, corrected_overshoot}

-- ---- a whole number as a float

-- -k as an integer
abbrev minus_of : ℕ → ℤ
minus_of zero = pos 0
minus_of (suc j) = negsuc j

-- the float of a stamp that is -k has that value
below_value : (k : ℕ) → k ≤ 32768 → (T (finite (float_of (bits_of (minus_of k))))) × Eqv (val (float_of (bits_of (minus_of k)))) (whole_q true k)
unfolding of_int
below_value zero h =
    let v = round_whole binary64 false 0 (lit≤ tt) in
    subst (λ (z : ℤ). T (finite (of_int binary64 z)) × Eqv (val (of_int binary64 z)) (whole_q true 0)) (sym (signed_low 0 (lit< tt)))
    (has_value_finite (round binary64 false 0 1) false 0 1 v, has_value_eqv (round binary64 false 0 1) false 0 1 (pow_pos 0) v)
below_value (suc j) h =
    let v = round_whole binary64 true (suc j) (omega arith) in
    let e : signed_of (65535 - j) ≡ negsuc j = signed_high (65535 - j) (omega arith) ∙ ap negsuc (omega arith) in
    subst (λ (z : ℤ). T (finite (of_int binary64 z)) × Eqv (val (of_int binary64 z)) (whole_q true (suc j))) (sym e)
    (has_value_finite (round binary64 true (suc j) 1) true (suc j) 1 v, has_value_eqv (round binary64 true (suc j) 1) true (suc j) 1 (pow_pos 0) v)

above_value : (k : ℕ) → k < 32768 → (T (finite (float_of k))) × Eqv (val (float_of k)) (whole_q false k)
unfolding of_int
above_value k h =
    let v = round_whole binary64 false k (omega arith) in
    subst (λ (z : ℤ). T (finite (of_int binary64 z)) × Eqv (val (of_int binary64 z)) (whole_q false k)) (sym (signed_low k h))
    (has_value_finite (round binary64 false k 1) false k 1 v, has_value_eqv (round binary64 false k 1) false k 1 (pow_pos 0) v)

-- a whole number cut to a stamp is that number
above_cut : (k : ℕ) → k < 32768 → to_signed 15 (round binary64 false k 1) ≡ pos k
unfolding of_int in_float
above_cut k h = (positive_back binary64 15 k (holds_true (leb k (2 ^ 53)) (le-leb k (2 ^ 53) (omega arith))) (omega arith)).1

below_cut : (k : ℕ) → k ≤ 32768 → to_signed 15 (round binary64 true k 1) ≡ minus_of k
unfolding of_int in_float to_signed round
below_cut zero h = refl
below_cut (suc j) h = (negative_back binary64 15 j (holds_true (ltb j (2 ^ 53)) (lt-ltb j (2 ^ 53) (omega arith))) (omega arith)).1

-- ---- the target rounded up

-- y is from x to 1 above it
pub record Above (x y : Float) : Type 0 where
  pub number : T (finite y)
  pub low : Le (val x) (val y)
  pub high : Le (val y) (add_q (val x) (val one64))

above_of : (x y : Float) (q : Q) → T (finite y) → Eqv (val y) q → Le (val x) q → Le q (add_q (val x) (val one64)) → Above x y
above_of x y q p e h k = record { number = p; low = q_le_trans (val x) q (val y) h e.1; high = q_le_trans (val y) q (add_q (val x) (val one64)) e.0 k }

-- a quotient rounded up, and one rounded down
up_bounds : (a d : ℕ) → 0 < d → (a ≤ (a + (d - 1)) / d * d) × ((a + (d - 1)) / d * d ≤ a + d)
up_bounds a d D =
    let k = (a + (d - 1)) / d in
    let l : k * d ≤ a + (d - 1) = div-mul-le_self (a + (d - 1)) d in
    let u : a + (d - 1) < suc k * d = (div-lt_iff_lt-mul D).0 (le_refl (suc k)) in
    (omega arith, omega arith)

down_bounds : (a d : ℕ) → 0 < d → (a / d * d ≤ a) × (a ≤ a / d * d + d)
down_bounds a d D =
    let k = a / d in
    let l : k * d ≤ a = div-mul-le_self a d in
    let u : a < suc k * d = (div-lt_iff_lt-mul D).0 (le_refl (suc k)) in
    (omega arith, omega arith)

-- a frame count of no more than 32,767 and no less than -32,768, and the float of its stamp rounded up
pub ceil_above : (x : Float) → T (finite x) → Le (whole_q true (2 ^ 15)) (val x) → Le (val x) (val last_stamp) → Above x (float_of (bits_of (ceil_stamp_of x)))
unfolding ceil_stamp_of ceil_of
ceil_above nan p l h = absurd p
ceil_above (inf s) p l h = absurd p
ceil_above (fin false m e) p l h =
    let a = m * up e in
    let d = down e in
    let k = (a + (d - 1)) / d in
    let D = down_pos e in
    let b = up_bounds a d D in
    let i : k < 32768 = (div-lt_iff_lt-mul D).1 (small a d D (omega (arith, h))) in
    let v = above_value k i in
    subst (λ (z : ℤ). Above (fin false m e) (float_of (bits_of z))) (sym (above_cut k i))
    (above_of (fin false m e) (float_of k) (whole_q false k) v.0 v.1 (omega (arith, b.0)) (omega (arith, b.1)))
  where
    small : (a d : ℕ) → 0 < d → a ≤ 32767 * d → a + (d - 1) < 32768 * d
    small a d D h = omega arith
ceil_above (fin true m e) p l h =
    let a = m * up e in
    let d = down e in
    let k = a / d in
    let D = down_pos e in
    let b = down_bounds a d D in
    let i : k < 32769 = (div-lt_iff_lt-mul D).1 (small a d D (omega (arith, l))) in
    let v = below_value k (omega arith) in
    subst (λ (z : ℤ). Above (fin true m e) (float_of (bits_of z))) (sym (below_cut k (omega arith)))
    (above_of (fin true m e) (float_of (bits_of (minus_of k))) (whole_q true k) v.0 v.1 (omega (arith, b.0)) (omega (arith, b.1)))
  where
    small : (a d : ℕ) → 0 < d → a ≤ 32768 * d → a < 32769 * d
    small a d D h = omega arith

-- what is from x to 1 above it is a difference from 0 to 1
above_unit : (x y : Float) → T (finite x) → Above x y → InUnit (sub binary64 y x)
above_unit x y p u =
    sub-between binary64 (val zero64) (val one64) y x held_zero held_one u.number p
    (low_side (pnum y) (nnum y) (den y) (pnum x) (nnum x) (den x) u.low) (high_side (pnum y) (nnum y) (den y) (pnum x) (nnum x) (den x) u.high)
  where
    low_side : (p n d q m e : ℕ) → q * d + n * e ≤ p * e + m * d → 0 * 1 * (d * e) + (n * e + q * d) * 1 ≤ (p * e + m * d) * 1 + 0 * (d * e)
    low_side p n d q m e h = omega arith

    high_side : (p n d q m e : ℕ) → p * (e * 1) + (m * 1 + 0 * e) * d ≤ (q * 1 + 1 * 1 * e) * d + n * (e * 1)
        → (p * e + m * d) * 1 + 0 * (d * e) ≤ 1 * 1 * (d * e) + (n * e + q * d) * 1
    high_side p n d q m e h = omega arith

-- ---- a target above the last stamp

-- the largest whole number as a float
last_float : float_of 32767 ≡ last_stamp
unfolding signed_of of_int round
last_float = refl

-- a target above 32,767 saturates
ceil_last : (x : Float) → T (finite x) → T (lt last_stamp x) → Le (val x) (whole_q false (2 ^ 15)) → ceil_stamp_of x ≡ pos 32767
unfolding ceil_stamp_of ceil_of
ceil_last nan p h l = absurd p
ceil_last (inf s) p h l = absurd p
ceil_last (fin true m e) p h l = absurd (omega (arith, down_pos e, lt_to_val last_stamp (fin true m e) tt tt h))
ceil_last (fin false m e) p h l =
    let a = m * up e in
    let d = down e in
    let k = (a + (d - 1)) / d in
    let D = down_pos e in
    let b = up_bounds a d D in
    let i : k < 32769 = (div-lt_iff_lt-mul D).1 (small a d D (omega (arith, l))) in
    let j : 32767 < k = large a d k D (omega (arith, lt_to_val last_stamp (fin false m e) tt tt h)) b.0 in
    let v = round_whole binary64 false k (omega arith) in
    let f = has_value_finite (round binary64 false k 1) false k 1 v in
    let q = has_value_eqv (round binary64 false k 1) false k 1 (pow_pos 0) v in
    saturates (round binary64 false k 1) (is_true (le last_stamp (round binary64 false k 1))
    (le_of_val last_stamp (round binary64 false k 1) tt f (q_le_trans (val last_stamp) (whole_q false k) (val (round binary64 false k 1)) (omega arith)
    q.1)))
  where
    small : (a d : ℕ) → 0 < d → a ≤ 32768 * d → a + (d - 1) < 32769 * d
    small a d D h = omega arith

    large : (a d k : ℕ) → 0 < d → 32767 * d < a → a ≤ k * d → 32767 < k
    large a d k D h i = lt_of_mul-lt-mul_right d (lt_of_lt_of_le h i)

-- ---- the overshoot

-- a weight that passes is finite, and at most 1
weight_tests : (t : Float) → weight_ok t ≡ true → T (le zero64 t) × T (le t one64)
unfolding weight_ok
weight_tests t h = let a = apart (le zero64 t) (le t one64) h in (holds_true (le zero64 t) a.0, holds_true (le t one64) a.1)

over_one : (t : Float) → weight_ok t ≡ true → T (lt one64 t) → ⊥
over_one t h k =
    let a = weight_tests t h in
    let p = between_finite zero64 t one64 tt tt a.0 a.1 in
    omega (arith, le_to_val t one64 p tt a.1, lt_to_val one64 t tt p k)

-- the target of a skip, in frames
pub target_within : (server t : Float) → Within server (2 ^ 34) → Step t → Within (from_seconds server t) (2 ^ 15)
unfolding from_seconds from_unwrapped
target_within server t w s = wrap_within (div binary64 server t)
    (within_widen (div binary64 server t) (2 ^ 34 * 1024) (2 ^ 52) (lit≤ tt) (div_step_within server t (2 ^ 34) (lit< tt) w s))

target_fits : (server t : Float) → T (fits binary64 (from_seconds server t))
unfolding from_seconds from_unwrapped
target_fits server t = sub-fits binary64 _ _

-- the overshoot of a target x within half a cycle
module _ (x t : Float) (f : T (fits binary64 x)) (w : Within x (2 ^ 15)) (s : Step t) where
  over_in : weight_ok (tween_of (mul binary64 (from_unwrapped (sub binary64 (float_of (bits_of (ceil_stamp_of x))) x)) t) t) ≡ true
      → Between (val zero64) (mul binary64 (from_unwrapped (sub binary64 (float_of (bits_of (ceil_stamp_of x))) x)) t) (val t)
  over_in ok = go (lt last_stamp x) refl
    where
      go : (b : Bool) → lt last_stamp x ≡ b → Between (val zero64) (mul binary64 (from_unwrapped (sub binary64 (float_of (bits_of (ceil_stamp_of x))) x))
          t) (val t)
      go true e =
          let h = holds_true (lt last_stamp x) e in
          let c : float_of (bits_of (ceil_stamp_of x)) ≡ last_stamp = ap (λ (z : ℤ). float_of (bits_of z)) (ceil_last x w.0 h w.2) ∙ last_float in
          let o = subst (λ (y : Float). weight_ok (tween_of (mul binary64 (from_unwrapped (sub binary64 y x)) t) t) ≡ true) c ok in
          let l = tests_of_within x (fin true 1 (pos 15)) half64 (2 ^ 15) (refl, refl) (refl, refl) w in
          absurd (over_one (tween_of (mul binary64 (from_unwrapped (sub binary64 last_stamp x)) t) t) o (skip_out x t f w.0 h l.2 s))
      go false e =
          let h = float_le_of_not_lt last_stamp x tt w.0 (subst (λ (b : Bool). T (not b)) (sym e) tt) in
          skip_in (sub binary64 (float_of (bits_of (ceil_stamp_of x))) x) t s
          (above_unit x (float_of (bits_of (ceil_stamp_of x))) w.0 (ceil_above x w.0 w.1 (le_to_val x last_stamp w.0 tt h)))

-- with a weight that passes, the overshoot after a skip is from 0 to the timestep
pub corrected_in : (server t : Float) → Within server (2 ^ 34) → Step t → weight_ok (tween_of (corrected_overshoot server t) t) ≡ true
    → T (finite (corrected_overshoot server t)) × T (le zero64 (corrected_overshoot server t)) × T (le (corrected_overshoot server t) t)
unfolding corrected_overshoot corrected_of from_unwrapped
corrected_in server t w s ok =
    in_order_lem zero64 (corrected_overshoot server t) t tt s.finite_t (over_in (from_seconds server t) t (target_fits server t) (target_within server t w
    s) s ok)
