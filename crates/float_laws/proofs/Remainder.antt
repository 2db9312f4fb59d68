-- The remainder by a positive float: no larger than the divisor, and no change to what is smaller than it.
use mathlib.Core.Path.{◌≡◌, ap}
use mathlib.Core.Logic.{◌⊎◌, inl, inr}
use Prim.Native.Nat.{ℕ, ◌+◌, ◌*◌, ◌≤◌, ◌<◌, ◌%◌}
use native.Mathlib.Nat.{le_of_lt, mul-le-mul_right, mul-pos, mod-lt, mod-eq_of_lt}
use native.Mathlib.Omega.{arith}
use lib.Dec.{T}
use lib.Ieee.{Float, binary64, fits, rem}
use lib.Ieee.Positive.{den, den_pos, positive, positive-finite}
use lib.Ieee.Scale.{finite}
use Rattle.float_laws.specs.Fractions.{Q, Lt, neg_q, pnum, nnum, val, Same, rnd}
use Rattle.float_laws.specs.Bounds.{Between}
use Rattle.float_laws.proofs.Value.{one_sided, le_to_val}
use Rattle.float_laws.proofs.Order.{same_trans, between_finite, positive_pnum, positive_nnum}
use Rattle.float_laws.proofs.Round.{rnd_same, rnd_held}
use Rattle.float_laws.proofs.Operations.{rem_q, rem_is_rounded}
use Rattle.float_laws.proofs.Bounds.{held_val, held-neg-val, between_widen, rem-between}

-- x % y is from -y to y.
pub rem_within : (x y : Float) → T (fits binary64 y) → T (finite x) → T (positive y) → Between (neg_q (val y)) (rem binary64 x y) (val y)
rem_within x y t p q =
    let py = positive-finite y q in
    rem-between binary64 (neg_q (val y)) (val y) x y (held-neg-val binary64 y t py) (held_val binary64 y t py) p q
    (low_side (pnum y) (nnum y) (den y) (den x) ((pnum x * den y) % (pnum y * den x)) ((nnum x * den y) % (pnum y * den x)) (positive_nnum y q)
    (mod-lt (nnum x * den y) (mul-pos (positive_pnum y q) (den_pos x))))
    (high_side (pnum y) (nnum y) (den y) (den x) ((pnum x * den y) % (pnum y * den x)) ((nnum x * den y) % (pnum y * den x)) (positive_nnum y q)
    (mod-lt (pnum x * den y) (mul-pos (positive_pnum y q) (den_pos x))))
  where
    low_side : (b m e d u v : ℕ) → m ≡ 0 → v < b * d → m * (d * e) + v * e ≤ u * e + b * (d * e)
    low_side b m e d u v z h = let k = mul-le-mul_right e (le_of_lt h) in let i = ap (λ (w : ℕ). w * (d * e)) z in omega arith

    high_side : (b m e d u v : ℕ) → m ≡ 0 → u < b * d → u * e + m * (d * e) ≤ b * (d * e) + v * e
    high_side b m e d u v z h = let k = mul-le-mul_right e (le_of_lt h) in let i = ap (λ (w : ℕ). w * (d * e)) z in omega arith

-- Where -y < x < y, x % y is x, up to the sign of a zero.
rem_small : (x y : Float) → T (fits binary64 x) → T (finite x) → T (positive y) → Lt (neg_q (val y)) (val x) → Lt (val x) (val y) → Same (rem binary64 x y) x
rem_small x y t p q h k =
    let m = pnum y * den x in
    let r = rem_q (val x) y in
    let held = rnd_held binary64 x t p in
    let M : 0 < m = mul-pos (positive_pnum y q) (den_pos x) in
    let a : (pnum x * den y) % m ≡ pnum x * den y = mod-eq_of_lt (p_below (pnum x) (nnum x) (den x) (pnum y) (nnum y) (den y) (one_sided x) M k) in
    let b : (nnum x * den y) % m ≡ nnum x * den y = mod-eq_of_lt (n_below (pnum x) (nnum x) (den x) (pnum y) (nnum y) (den y) (one_sided x) M h) in
    same_trans (rem binary64 x y) (rnd binary64 r) x (rem_is_rounded binary64 x y p q)
    (same_trans (rnd binary64 r) (rnd binary64 (val x)) x (rnd_same binary64 r (val x)
    (one_value (pnum x) (nnum x) (den x) (den y) ((pnum x * den y) % m) ((nnum x * den y) % m) a b)) (held.1, held.0))
  where
    p_below : (p n d q m e : ℕ) → (p ≡ 0) ⊎ (n ≡ 0) → 0 < q * d → p * e + m * d < q * d + n * e → p * e < q * d
    p_below p n d q m e (inl z) D h = let i = ap (λ (y : ℕ). y * e) z in omega arith
    p_below p n d q m e (inr z) D h = let i = ap (λ (y : ℕ). y * e) z in omega arith

    n_below : (p n d q m e : ℕ) → (p ≡ 0) ⊎ (n ≡ 0) → 0 < q * d → m * d + n * e < p * e + q * d → n * e < q * d
    n_below p n d q m e (inl z) D h = let i = ap (λ (y : ℕ). y * e) z in omega arith
    n_below p n d q m e (inr z) D h = let i = ap (λ (y : ℕ). y * e) z in omega arith

    one_value : (p n d e u v : ℕ) → u ≡ p * e → v ≡ n * e → (u * d + n * (d * e) ≤ p * (d * e) + v * d) × (p * (d * e) + v * d ≤ u * d + n * (d * e))
    one_value p n d e u v i j =
        let a = ap (λ (y : ℕ). y * d) i in
        let b = ap (λ (y : ℕ). y * d) j in
        (omega arith, omega arith)

-- Where -y < x < y, x % y has the bounds of x.
pub rem_keeps : (lo hi : Q) (x y : Float) → T (fits binary64 x) → T (positive y) → Lt (neg_q (val y)) (val x) → Lt (val x) (val y) → Between lo x hi
    → Between lo (rem binary64 x y) hi
rem_keeps lo hi x y t q h k b =
    let r = rem binary64 x y in
    let s = rem_small x y t b.0 q h k in
    let p = between_finite x r x b.0 b.0 s.1 s.0 in
    between_widen (val x) (val x) lo hi r b.1 b.2 (p, le_to_val x r b.0 p s.1, le_to_val r x p b.0 s.0)
