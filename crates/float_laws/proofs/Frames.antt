-- Sixty-five additions of a timestep suffice for an update, the rounding of each included.
-- An update starts from o - d with 0 ≤ o ≤ t and 0 ≤ d ≤ 64 t, and adds t while the value is below 0.
-- After k additions the value is at least (k u - 64 (u + 1)) / 2 ^ 17, where u is the units of t: the format holds that number, so no rounding goes below it.
-- It is above 0 at k = 65.
use mathlib.Core.Path.{◌≡◌, refl, ap}
use Prim.Native.Nat.{ℕ, zero, suc, ◌+◌, ◌*◌, ◌≤◌, ◌<◌, ◌^◌}
use native.Mathlib.Nat.{le_trans, mul-le-mul_right, lt_of_le_of_lt, lt_of_not-le, mul-le-mul}
use native.Mathlib.Omega.{arith}
use mathlib.Core.Bool.{Bool, true, false, not, cond}
use lib.Dec.{T, lit<, lit≤, not_T}
use lib.Ieee.{Float, lt, le, binary64, add, sub, mul}
use lib.Ieee.Positive.{den}
use lib.Ieee.Scale.{finite}
use Rattle.float_laws.specs.Fractions.{Q, Le, pnum, nnum, val}
use Rattle.float_laws.specs.Bounds.{Between}
use Rattle.timestamp.specs.Floats.{zero64, sixty_four64}
use Rattle.float_laws.specs.Laws.{Step, catch_up, enough, SixtyFiveSuffice}
use Rattle.float_laws.proofs.Value.{q_le_trans, le_to_val, le_of_val, lt_to_val}
use Rattle.float_laws.proofs.Order.{float_le_of_not_lt}
use Rattle.float_laws.proofs.Bounds.{Held, held_val, held_zero, diff_q, held_diff, add-between, sub-between, mul-between}
use Rattle.float_laws.proofs.Timestep.{least_unsigned, units_of, units_least, units_most, units_under, units_over}

-- The least that the value can be after k additions.
abbrev floor_q : Float → ℕ → Q
floor_q t k = diff_q (k * units_of t) (64 * suc (units_of t)) 17

-- The value x after k additions: finite, at least the floor and at most t.
pub record After (t : Float) (k : ℕ) (x : Float) : Type 0 where
  pub finite_x : T (finite x)
  pub floor : Le (floor_q t k) (val x)
  pub ceiling : Le (val x) (val t)

units_room : (w : ℕ) → w ≤ 2 ^ 17 → 64 * suc w < 2 ^ 53
units_room w h = omega arith

held_floor : (t : Float) → Step t → (k : ℕ) → k ≤ 65 → Held binary64 (floor_q t k)
held_floor t s k h = held_diff binary64 (k * units_of t) (64 * suc (units_of t)) 17 (lit≤ tt) (lt_of_le_of_lt (mul-le-mul h (units_most t s)) (lit< tt))
    (units_room (units_of t) (units_most t s))

-- 64 t, rounded, is at most 64 (u + 1) units.
most_delta : (t : Float) → Step t → Between (val zero64) (mul binary64 sixty_four64 t) (diff_q (64 * suc (units_of t)) 0 17)
most_delta t s =
    let z = least_unsigned t s.finite_t s.least in
    mul-between binary64 (val zero64) (diff_q (64 * suc (units_of t)) 0 17) sixty_four64 t held_zero
    (held_diff binary64 (64 * suc (units_of t)) 0 17 (lit≤ tt) (units_room (units_of t) (units_most t s)) (lit< tt)) tt s.finite_t
    (omega (arith, z)) (omega (arith, z, units_over t))

-- The value that an update starts from, after no addition.
pub frames_start : (o d t : Float) → Step t → T (finite o) → T (finite d) → T (le zero64 o) → T (le o t) → T (le zero64 d)
    → T (le d (mul binary64 sixty_four64 t)) → After t 0 (sub binary64 o d)
frames_start o d t s po pd h k i j =
    let m = most_delta t s in
    let D = q_le_trans (val d) (val (mul binary64 sixty_four64 t)) (diff_q (64 * suc (units_of t)) 0 17) (le_to_val d (mul binary64 sixty_four64 t) pd m.0 j)
    m.2 in
    let b = sub-between binary64 (floor_q t 0) (val t) o d (held_floor t s 0 (lit≤ tt)) (held_val binary64 t s.fits_t s.finite_t) po pd
    (low_side (pnum o) (nnum o) (den o) (pnum d) (nnum d) (den d) (units_of t) (le_to_val zero64 o tt po h) D)
    (high_side (pnum o) (nnum o) (den o) (pnum d) (nnum d) (den d) (pnum t) (nnum t) (den t) (le_to_val o t po s.finite_t k) (le_to_val zero64 d tt pd i)) in
    record { finite_x = b.0; floor = b.1; ceiling = b.2 }
  where
    low_side : (p n d q m e w : ℕ) → 0 * 1 * d + n * 1 ≤ p * 1 + 0 * d → q * 2 ^ 17 + 0 * e ≤ 64 * suc w * e + m * 2 ^ 17
        → 0 * w * (d * e) + (n * e + q * d) * 2 ^ 17 ≤ (p * e + m * d) * 2 ^ 17 + 64 * suc w * (d * e)
    low_side p n d q m e w h k = let u = mul-le-mul_right e h in let v = mul-le-mul_right d k in omega arith

    high_side : (p n d q m e a b c : ℕ) → p * c + b * d ≤ a * d + n * c → 0 * 1 * e + m * 1 ≤ q * 1 + 0 * e
        → (p * e + m * d) * c + b * (d * e) ≤ a * (d * e) + (n * e + q * d) * c
    high_side p n d q m e a b c h k = let u = mul-le-mul_right e h in let v = mul-le-mul_right (d * c) k in omega arith

-- A value that is still below 0 has had fewer than 65 additions.
pub frames_bound : (t : Float) (k : ℕ) (x : Float) → Step t → After t k x → T (lt x zero64) → k < 65
frames_bound t k x s g h = lt_of_not-le (λ j. go _ (pnum x) (nnum x) (den x) (units_of t) (omega arith) j (units_least t s) g.floor
    (lt_to_val x zero64 g.finite_x tt h))
  where
    go : (c p n d w : ℕ) → 64 < c → c ≤ k → 2 ^ 7 ≤ w → k * w * d + n * 2 ^ 17 ≤ p * 2 ^ 17 + 64 * suc w * d → p * 1 + 0 * d < 0 * 1 * d + n * 1 → ⊥
    go c p n d w i j a f l =
        let u : 65 * (w * d) ≤ k * (w * d) = mul-le-mul_right (w * d) (le_trans i j) in
        let v : 2 ^ 7 * d ≤ w * d = mul-le-mul_right d a in
        omega arith

-- One more addition to a value below 0.
pub frames_step : (t : Float) (k : ℕ) (x : Float) → Step t → After t k x → T (lt x zero64) → After t (suc k) (add binary64 x t)
frames_step t k x s g h =
    let j = frames_bound t k x s g h in
    let z = least_unsigned t s.finite_t s.least in
    let b = add-between binary64 (floor_q t (suc k)) (val t) x t (held_floor t s (suc k) j) (held_val binary64 t s.fits_t s.finite_t) g.finite_x
    s.finite_t
    (low_side (pnum x) (nnum x) (den x) (pnum t) (nnum t) (den t) (units_of t) z (units_under t) g.floor)
    (high_side (pnum x) (nnum x) (den x) (pnum t) (nnum t) (den t) (lt_to_val x zero64 g.finite_x tt h)) in
    record { finite_x = b.0; floor = b.1; ceiling = b.2 }
  where
    low_side : (p n d q m e w : ℕ) → m ≡ 0 → w * e ≤ q * 2 ^ 17 → k * w * d + n * 2 ^ 17 ≤ p * 2 ^ 17 + 64 * suc w * d
        → suc k * w * (d * e) + (n * e + m * d) * 2 ^ 17 ≤ (p * e + q * d) * 2 ^ 17 + 64 * suc w * (d * e)
    low_side p n d q m e w z h i =
        let u = mul-le-mul_right d h in
        let v = mul-le-mul_right e i in
        let c = ap (λ (y : ℕ). y * d) z in
        omega arith

    high_side : (p n d q m e : ℕ) → p * 1 + 0 * d < 0 * 1 * d + n * 1 → (p * e + q * d) * e + m * (d * e) ≤ q * (d * e) + (n * e + m * d) * e
    high_side p n d q m e h =
        let i : p ≤ n = omega arith in
        let u = mul-le-mul_right (e * e) i in
        omega arith

-- The run of additions, from the kth on.
frames_end : (n k : ℕ) (x t : Float) → n + k ≡ enough → Step t → After t k x → T (le zero64 (catch_up n x t)) × T (le (catch_up n x t) t)
frames_end zero k x t e s g = (
  float_le_of_not_lt x zero64 g.finite_x tt
      (not_T (lt x zero64) (λ (h : T (lt x zero64)). omega (arith, e, frames_bound t k x s g h))),
  le_of_val x t g.finite_x s.finite_t g.ceiling,
)
frames_end (suc n) k x t e s g = go (lt x zero64) (λ (h : T (lt x zero64)). frames_end n (suc k) (add binary64 x t) t (omega (arith, e)) s
    (frames_step t k x s g h)) (λ (h : T (not (lt x zero64))). h)
  where
    go : (b : Bool) → (T b → T (le zero64 (catch_up n (add binary64 x t) t)) × T (le (catch_up n (add binary64 x t) t) t))
        → (T (not b) → T (not (lt x zero64))) → T (le zero64 (cond b (catch_up n (add binary64 x t) t) x)) × T (le (cond b (catch_up n (add binary64 x t)
        t) x) t)
    go true u v = u tt
    go false u v = (float_le_of_not_lt x zero64 g.finite_x tt (v tt), le_of_val x t g.finite_x s.finite_t g.ceiling)

-- After at most 65 additions the value is from 0 to t. Nothing uses it yet: kept for request 13 of document 02.
pub sixty_five_suffice : SixtyFiveSuffice
unfolding SixtyFiveSuffice
sixty_five_suffice o d t s po pd h k i j = frames_end enough 0 (sub binary64 o d) t refl s (frames_start o d t s po pd h k i j)
