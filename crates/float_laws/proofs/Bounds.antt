-- An exact result between two numbers that the format holds is rounded to a float between them.
use mathlib.Core.Path.{◌≡◌, sym, ap, ◌∙◌}
use Prim.Native.Nat.{ℕ, suc, ◌+◌, ◌-◌, ◌*◌, ◌≤◌, ◌<◌, ◌^◌}
use native.Mathlib.Nat.{le_trans, le_of_eq, le_of_lt, mul-lt-mul_of_pos_right, lt_of_lt_of_le, mul_assoc, mul_comm, mul-le-mul_left}
use native.Mathlib.Omega.{arith}
use mathlib.Core.Bool.{Bool, true, false, not}
use lib.Dec.{T, ltb, ltb→lt, nltb→le}
use lib.Pow.{pow-add, pow_pos, pow_mono}
use lib.Ieee.{Float, le, neg, Format, binary64, prec, emax, low, round, fits, add, sub, mul, div, rem}
use lib.Ieee.Digits.{back}
use lib.Ieee.Exact.{HasValue, round_exact}
use lib.Ieee.Fits.{round-fits, neg-fits, reach}
use lib.Ieee.Positive.{positive}
use lib.Ieee.Scale.{finite}
use Rattle.float_laws.specs.Fractions.{Q, Le, Eqv, add_q, neg_q, sub_q, mul_q, val, Same, sgn, rnd}
use Rattle.float_laws.specs.Bounds.{Between}
use Rattle.timestamp.specs.Floats.{zero64, one64}
use Rattle.float_laws.proofs.Value.{q_le_refl, q_le_trans, le_to_val, le_of_val}
use Rattle.float_laws.proofs.Order.{float_le_trans, between_finite}
use Rattle.float_laws.proofs.Round.{has_value_finite, has_value_eqv, rnd_at_least, rnd_at_most}
use Rattle.float_laws.proofs.Operations.{difference_times, add_is_rounded, neg_finite, neg-val, sub_is_rounded, mul_is_rounded, div_q, div_is_rounded}
use Rattle.float_laws.proofs.Operations.{rem_q, rem_is_rounded}

-- The format holds the number: some finite value of the format is that number.
pub Held : Format → Q → Type 0
Held f q = (x : Float) × T (fits f x) × T (finite x) × Eqv (val x) q

-- The number of a finite value of the format is held.
pub held_val : (f : Format) (x : Float) → T (fits f x) → T (finite x) → Held f (val x)
unfolding Held
held_val f x t p = (x, t, p, (q_le_refl (val x), q_le_refl (val x)))

-- The negative of the number of a finite value of the format is held.
pub held-neg-val : (f : Format) (x : Float) → T (fits f x) → T (finite x) → Held f (neg_q (val x))
unfolding Held
held-neg-val f x t p = (neg x, neg-fits f x t, neg_finite x p, neg-val x p)

-- Whether a number is held does not depend on the fraction that it is written as.
pub held_eqv : (f : Format) (a b : Q) → Held f a → Eqv a b → Held f b
unfolding Held
held_eqv f a b h e = (h.0, h.1, h.2, (q_le_trans (val h.0) a b h.3.0 e.0, q_le_trans b a (val h.0) e.1 h.3.1))

-- 0 is held.
pub held_zero : Held binary64 (val zero64)
unfolding fits
held_zero = held_val binary64 zero64 tt tt

-- 1 is held.
pub held_one : Held binary64 (val one64)
unfolding fits
held_one = held_val binary64 one64 tt tt

dyadic_small : (f : Format) (n k : ℕ) → k ≤ low f → n < 2 ^ prec f → n * 2 ^ (low f - k) < 2 ^ (low f + suc (emax f))
dyadic_small f n k h s =
    let l = low f in
    let j = l - k in
    let P : 2 ^ j ≤ 2 ^ l = pow_mono (omega arith) in
    let R : 2 ^ prec f ≤ 2 ^ suc (emax f) = pow_mono (reach f) in
    let A : n * 2 ^ j < 2 ^ suc (emax f) * 2 ^ j = mul-lt-mul_of_pos_right (lt_of_lt_of_le s R) (pow_pos j) in
    lt_of_lt_of_le A (le_trans (mul-le-mul_left (2 ^ suc (emax f)) P) (le_of_eq (mul_comm (2 ^ suc (emax f)) (2 ^ l) ∙ sym (pow-add 2 l (suc (emax f))))))

dyadic_has : (f : Format) (s : Bool) (n k : ℕ) → k ≤ low f → n < 2 ^ prec f → HasValue (round f s n (2 ^ k)) s n (2 ^ k)
dyadic_has f s n k h small =
    let l = low f in
    let j = l - k in
    let P : 2 ^ j * 2 ^ k ≡ 2 ^ l = sym (pow-add 2 j k) ∙ ap (λ (x : ℕ). 2 ^ x) (back l k h) in
    round_exact f s n (2 ^ k) n j (pow_pos k) small (dyadic_small f n k h small) (ap (λ (x : ℕ). n * x) (sym P) ∙ sym (mul_assoc n (2 ^ j) (2 ^ k)))

-- n / 2 ^ k and its negative are held, for n of no more digits than the significand has and k no greater than the smallest exponent allows.
pub held_dyadic : (f : Format) (s : Bool) (n k : ℕ) → k ≤ low f → n < 2 ^ prec f → Held f (sgn s n (2 ^ k) (pow_pos k))
unfolding Held
held_dyadic f s n k h small =
    let x = round f s n (2 ^ k) in
    let v = dyadic_has f s n k h small in
    (x, round-fits f s n (2 ^ k), has_value_finite x s n (2 ^ k) v, has_value_eqv x s n (2 ^ k) (pow_pos k) v)

-- The number (p - n) / 2 ^ k.
abbrev pub diff_q : ℕ → ℕ → ℕ → Q
diff_q p n k = record { p = p; n = n; d = 2 ^ k; pos = pow_pos k }

-- (p - n) / 2 ^ k is held, for p and n of no more digits than the significand has.
pub held_diff : (f : Format) (p n k : ℕ) → k ≤ low f → p < 2 ^ prec f → n < 2 ^ prec f → Held f (diff_q p n k)
held_diff f p n k h a b = go (ltb p n) (ltb→lt p n) (nltb→le p n)
  where
    go : (t : Bool) → (T t → p < n) → (T (not t) → n ≤ p) → Held f (diff_q p n k)
    go true u v = held_eqv f (sgn true (n - p) (2 ^ k) (pow_pos k)) (diff_q p n k) (held_dyadic f true (n - p) k h (omega (arith, b)))
        (let e = difference_times n p (2 ^ k) (le_of_lt (u tt)) in (omega arith, omega arith))
    go false u v = held_eqv f (sgn false (p - n) (2 ^ k) (pow_pos k)) (diff_q p n k) (held_dyadic f false (p - n) k h (omega (arith, a)))
        (let e = difference_times p n (2 ^ k) (v tt) in (omega arith, omega arith))

-- ---- between two numbers

-- What lies between two numbers lies between any two outside them.
pub between_widen : (lo hi lo' hi' : Q) (z : Float) → Le lo' lo → Le hi hi' → Between lo z hi → Between lo' z hi'
between_widen lo hi lo' hi' z h k b = (b.0, q_le_trans lo' lo (val z) h b.1, q_le_trans (val z) hi hi' b.2 k)

-- What lies between the numbers of two finite floats passes the tests `lo <= z` and `z <= hi`.
pub in_order_lem : (lo z hi : Float) → T (finite lo) → T (finite hi) → Between (val lo) z (val hi) → T (finite z) × T (le lo z) × T (le z hi)
in_order_lem lo z hi p q b = (b.0, le_of_val lo z p b.0 b.1, le_of_val z hi b.0 q b.2)

-- What any result between two held numbers is rounded to lies between them.
round_between : (f : Format) (lo hi a : Q) (z : Float) → Held f lo → Held f hi → Same z (rnd f a) → Le lo a → Le a hi → Between lo z hi
unfolding Held
round_between f lo hi a z L H s h k =
    let x = L.0 in
    let y = H.0 in
    let u = float_le_trans x (rnd f a) z (rnd_at_least f x a L.1 L.2 (q_le_trans (val x) lo a L.3.0 h)) s.1 in
    let v = float_le_trans z (rnd f a) y s.0 (rnd_at_most f y a H.1 H.2 (q_le_trans a hi (val y) k H.3.1)) in
    let p = between_finite x z y L.2 H.2 u v in
    (p, q_le_trans lo (val x) (val z) L.3.1 (le_to_val x z L.2 p u), q_le_trans (val z) (val y) hi (le_to_val z y p H.2 v) H.3.0)

-- If the exact sum lies between two held numbers, so does x + y, which is then finite.
pub add-between : (f : Format) (lo hi : Q) (x y : Float) → Held f lo → Held f hi → T (finite x) → T (finite y) → Le lo (add_q (val x) (val y))
    → Le (add_q (val x) (val y)) hi → Between lo (add f x y) hi
add-between f lo hi x y L H p q h k = round_between f lo hi (add_q (val x) (val y)) (add f x y) L H (add_is_rounded f x y p q) h k

-- If the exact difference lies between two held numbers, so does x - y.
pub sub-between : (f : Format) (lo hi : Q) (x y : Float) → Held f lo → Held f hi → T (finite x) → T (finite y) → Le lo (sub_q (val x) (val y))
    → Le (sub_q (val x) (val y)) hi → Between lo (sub f x y) hi
sub-between f lo hi x y L H p q h k = round_between f lo hi (sub_q (val x) (val y)) (sub f x y) L H (sub_is_rounded f x y p q) h k

-- If the exact product lies between two held numbers, so does x y.
pub mul-between : (f : Format) (lo hi : Q) (x y : Float) → Held f lo → Held f hi → T (finite x) → T (finite y) → Le lo (mul_q (val x) (val y))
    → Le (mul_q (val x) (val y)) hi → Between lo (mul f x y) hi
mul-between f lo hi x y L H p q h k = round_between f lo hi (mul_q (val x) (val y)) (mul f x y) L H (mul_is_rounded f x y p q) h k

-- If the exact quotient by a positive float lies between two held numbers, so does x / y.
pub div-between : (f : Format) (lo hi : Q) (x y : Float) → Held f lo → Held f hi → T (finite x) → (q : T (positive y)) → Le lo (div_q (val x) y q)
    → Le (div_q (val x) y q) hi → Between lo (div f x y) hi
div-between f lo hi x y L H p q h k = round_between f lo hi (div_q (val x) y q) (div f x y) L H (div_is_rounded f x y p q) h k

-- If the exact remainder by a positive float lies between two held numbers, so does x % y.
pub rem-between : (f : Format) (lo hi : Q) (x y : Float) → Held f lo → Held f hi → T (finite x) → T (positive y) → Le lo (rem_q (val x) y)
    → Le (rem_q (val x) y) hi → Between lo (rem f x y) hi
rem-between f lo hi x y L H p q h k = round_between f lo hi (rem_q (val x) y) (rem f x y) L H (rem_is_rounded f x y p q) h k
