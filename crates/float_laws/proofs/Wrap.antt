-- A frame count wrapped to half a cycle either side of 0, a cycle being 65,536 frames.
use mathlib.Core.Path.{◌≡◌, refl, sym, subst}
use Prim.Native.Nat.{ℕ, ◌+◌, ◌-◌, ◌*◌, ◌≤◌, ◌<◌, ◌^◌}
use native.Mathlib.Nat.{mul-le-mul_right, mul-lt-mul_of_pos_right}
use native.Mathlib.Omega.{arith}
use mathlib.Core.Bool.{Bool, true, false, not, cond}
use lib.Dec.{T, lit<, lit≤}
use lib.Ieee.{Float, lt, le, binary64, fits, add, sub, rem}
use lib.Ieee.Fits.{add-fits}
use lib.Ieee.Positive.{den, den_pos}
use lib.Ieee.Scale.{finite}
use Rattle.float_laws.specs.Fractions.{pnum, nnum, val}
use Rattle.float_laws.specs.Bounds.{Between, whole_q, Within, InUnit}
use Rattle.timestamp.specs.Floats.{zero64, one64}
use Rattle.timestamp.specs.FloatTimestamps.{half64, cycle64, from_unwrapped, never_negative}
use Rattle.float_laws.proofs.Value.{le_to_val, le_of_val, lt_to_val, lt_of_val}
use Rattle.float_laws.proofs.Order.{float_le_of_lt, float_le_of_not_lt}
use Rattle.float_laws.proofs.Bounds.{Held, held_eqv, diff_q, held_diff, between_widen, add-between, sub-between}
use Rattle.float_laws.proofs.Within.{held_whole, add_within}
use Rattle.float_laws.proofs.Remainder.{rem_within, rem_keeps}

fits_cycle : T (fits binary64 cycle64)
unfolding fits
fits_cycle = tt

-- A remainder within a cycle is moved to 0 to a cycle.
upward_in : (r : Float) → Within r (2 ^ 16) → Between (whole_q false 0) (never_negative cycle64 r) (whole_q false (2 ^ 16))
upward_in r w = go (lt r zero64) (λ (t : T (lt r zero64)). float_le_of_lt r zero64 w.0 tt t)
    (λ (t : T (not (lt r zero64))). float_le_of_not_lt r zero64 w.0 tt t)
  where
    go : (b : Bool) → (T b → T (le r zero64)) → (T (not b) → T (le zero64 r))
        → Between (whole_q false 0) (cond b (add binary64 r cycle64) r) (whole_q false (2 ^ 16))
    go true h k =
        add-between binary64 (whole_q false 0) (whole_q false (2 ^ 16)) r cycle64 (held_whole false 0 (lit< tt)) (held_whole false (2 ^ 16) (lit< tt)) w.0 tt
        (omega (arith, w.1)) (omega (arith, le_to_val r zero64 w.0 tt (h tt)))
    go false h k = (w.0, omega (arith, le_to_val zero64 r tt w.0 (k tt)), w.2)

-- A frame count within 2 ^ 52 is wrapped to one within 32,768.
pub wrap_within : (x : Float) → Within x (2 ^ 52) → Within (from_unwrapped x) (2 ^ 15)
unfolding from_unwrapped
wrap_within x h =
    let g = add binary64 x half64 in
    let G = add_within x half64 (2 ^ 52) (2 ^ 15) (lit< tt) h (tt, lit≤ tt, lit≤ tt) in
    let r = rem binary64 g cycle64 in
    let R = rem_within g cycle64 fits_cycle G.0 tt in
    let U = upward_in r (R.0, R.1, R.2) in
    sub-between binary64 _ _ (never_negative cycle64 r) half64 (held_whole true _ (lit< tt)) (held_whole false _ (lit< tt)) U.0 tt
    (omega (arith, U.1)) (omega (arith, U.2))

-- ---- what is near 0 stays where it is

-- A remainder that is not below 0 stays as it is.
upward_is : (r : Float) → T (finite r) → T (le zero64 r) → never_negative cycle64 r ≡ r
upward_is r p h = go (lt r zero64) (λ (k : T (lt r zero64)). omega (arith, le_to_val zero64 r tt p h, lt_to_val r zero64 p tt k))
  where
    go : (b : Bool) → (T b → ⊥) → cond b (add binary64 r cycle64) r ≡ r
    go true k = absurd (k tt)
    go false k = refl

-- What lies between two numbers nearer to 0 than half a cycle stays between them, where the format holds them and what lies half a cycle above them.
-- The numbers are (pl - nl) / 2 ^ 38 and (ph - nh) / 2 ^ 38; half a cycle is 2 ^ 53 of these units.
pub wrap_near : (pl nl ph nh : ℕ) (z : Float) → Held binary64 (diff_q pl nl 38) → Held binary64 (diff_q ph nh 38)
    → Held binary64 (diff_q (pl + 2 ^ 53) nl 38) → Held binary64 (diff_q (ph + 2 ^ 53) nh 38)
    → nl ≤ pl + 2 ^ 53 → ph < 2 ^ 53 + nh → Between (diff_q pl nl 38) z (diff_q ph nh 38) → Between (diff_q pl nl 38) (from_unwrapped z) (diff_q ph nh 38)
unfolding from_unwrapped
wrap_near pl nl ph nh z L H L' H' a b w =
    let g = add binary64 z half64 in
    let G = add-between binary64 (diff_q (pl + 2 ^ 53) nl 38) (diff_q (ph + 2 ^ 53) nh 38) z half64 L' H' w.0 tt
    (omega (arith, w.1)) (omega (arith, w.2)) in
    let r = rem binary64 g cycle64 in
    let R = rem_keeps (diff_q (pl + 2 ^ 53) nl 38) (diff_q (ph + 2 ^ 53) nh 38) g cycle64 (add-fits binary64 z half64) tt
    (g_above (pnum g) (nnum g) (den g) (den_pos g) G.1) (g_cycle (pnum g) (nnum g) (den g) (den_pos g) G.2) G in
    subst (λ (y : Float). Between (diff_q pl nl 38) (sub binary64 y half64) (diff_q ph nh 38))
    (sym (upward_is r R.0 (le_of_val zero64 r tt R.0 (r_pos (pnum r) (nnum r) (den r) R.1))))
    (sub-between binary64 (diff_q pl nl 38) (diff_q ph nh 38) r half64 L H R.0 tt (omega (arith, R.1)) (omega (arith, R.2)))
  where
    r_pos : (p n d : ℕ) → (pl + 2 ^ 53) * d + n * 2 ^ 38 ≤ p * 2 ^ 38 + nl * d → 0 * 1 * d + n * 1 ≤ p * 1 + 0 * d
    r_pos p n d h = let u = mul-le-mul_right d a in omega arith

    g_above : (p n d : ℕ) → 0 < d → (pl + 2 ^ 53) * d + n * 2 ^ 38 ≤ p * 2 ^ 38 + nl * d → 0 * d + n * 1 < p * 1 + 1 * 2 ^ 16 * d
    g_above p n d D h = let u = mul-le-mul_right d a in omega arith

    g_cycle : (p n d : ℕ) → 0 < d → p * 2 ^ 38 + nh * d ≤ (ph + 2 ^ 53) * d + n * 2 ^ 38 → p * 1 + 0 * d < 1 * 2 ^ 16 * d + n * 1
    g_cycle p n d D h = let u = mul-lt-mul_of_pos_right b D in omega arith

-- What is from 0 to 1 stays there.
pub wrap_unit : (z : Float) → InUnit z → InUnit (from_unwrapped z)
wrap_unit z w =
    between_widen (diff_q 0 0 38) (diff_q (2 ^ 38) 0 38) (val zero64) (val one64) (from_unwrapped z) (lit≤ tt) (lit≤ tt)
    (wrap_near 0 0 (2 ^ 38) 0 z (held_diff binary64 0 0 38 (lit≤ tt) (lit< tt) (lit< tt)) (held_diff binary64 (2 ^ 38) 0 38 (lit≤ tt) (lit< tt) (lit< tt))
    (held_eqv binary64 (whole_q false (2 ^ 15)) (diff_q (0 + 2 ^ 53) 0 38) (held_whole false (2 ^ 15) (lit< tt)) (lit≤ tt, lit≤ tt))
    (held_eqv binary64 (whole_q false (2 ^ 15 + 1)) (diff_q (2 ^ 38 + 2 ^ 53) 0 38) (held_whole false (2 ^ 15 + 1) (lit< tt)) (lit≤ tt, lit≤ tt))
    (lit≤ tt) (lit< tt)
    (between_widen (val zero64) (val one64) (diff_q 0 0 38) (diff_q (2 ^ 38) 0 38) z (lit≤ tt) (lit≤ tt) w))

-- ---- what is a cycle below 0 to 1

-- A remainder below 0 has a cycle added.
upward-neg : (r : Float) → T (lt r zero64) → never_negative cycle64 r ≡ add binary64 r cycle64
upward-neg r h = go (lt r zero64) h
  where
    go : (b : Bool) → T b → cond b (add binary64 r cycle64) r ≡ add binary64 r cycle64
    go true k = refl
    go false k = absurd k

-- What is from -65,536 to -65,535 is wrapped to 0 to 1.
pub wrap_cycle : (z : Float) → Between (whole_q true (2 ^ 16)) z (whole_q true (2 ^ 16 - 1)) → InUnit (from_unwrapped z)
unfolding from_unwrapped
wrap_cycle z w =
    let g = add binary64 z half64 in
    let G = add-between binary64 (whole_q true (2 ^ 15)) (whole_q true (2 ^ 15 - 1)) z half64 (held_whole true (2 ^ 15) (lit< tt))
    (held_whole true (2 ^ 15 - 1) (lit< tt)) w.0 tt
    (omega (arith, w.1)) (omega (arith, w.2)) in
    let r = rem binary64 g cycle64 in
    let R = rem_keeps (whole_q true (2 ^ 15)) (whole_q true (2 ^ 15 - 1)) g cycle64 (add-fits binary64 z half64) tt
    (omega (arith, den_pos g, G.1)) (omega (arith, den_pos g, G.2)) G in
    let r0 = lt_of_val r zero64 R.0 tt (omega (arith, den_pos r, R.2)) in
    let u = add binary64 r cycle64 in
    let U = add-between binary64 (whole_q false (2 ^ 15)) (whole_q false (2 ^ 15 + 1)) r cycle64 (held_whole false (2 ^ 15) (lit< tt))
    (held_whole false (2 ^ 15 + 1) (lit< tt)) R.0 tt
    (omega (arith, R.1)) (omega (arith, R.2)) in
    subst (λ (y : Float). Between (whole_q false 0) (sub binary64 y half64) (whole_q false 1)) (sym (upward-neg r r0))
    (sub-between binary64 (whole_q false 0) (whole_q false 1) u half64 (held_whole false 0 (lit< tt)) (held_whole false 1 (lit< tt)) U.0 tt
    (omega (arith, U.1)) (omega (arith, U.2)))
