-- Each operation on finite floats is the rounding of the exact result, up to the sign of a zero.
use mathlib.Core.Path.{◌≡◌, ap, ◌∙◌}
use Prim.Native.Nat.{ℕ, ◌+◌, ◌-◌, ◌*◌, ◌≤◌, ◌<◌, ◌%◌}
use native.Mathlib.Nat.{le_of_lt, mul-le-mul_right, mul-pos, zero-mul, zero-mod}
use native.Mathlib.Omega.{arith}
use mathlib.Core.Bool.{Bool, true, false, not, cond}
use lib.IntN.{ℤ}
use lib.Dec.{T, ltb, eqb, eqb→eq, ltb→lt, nltb→le}
use lib.Ieee.{Float, nan, inf, fin, up, down, neg, Format, round, sum, add, sub, mul, div, rem}
use lib.Ieee.Fits.{down_pos}
use lib.Ieee.Positive.{den, den_pos, positive}
use lib.Ieee.Scale.{finite}
use Rattle.float_laws.specs.Fractions.{Q, Le, Eqv, add_q, neg_q, sub_q, mul_q, pnum, val, Same, rnd}
use Rattle.float_laws.proofs.Value.{q_le_refl, q_le_trans}
use Rattle.float_laws.proofs.Order.{same_trans, positive_pnum}
use Rattle.float_laws.proofs.Round.{rnd_same, round_is_rnd}

-- ---- the sum

abbrev pp : Bool → ℕ → ℕ
pp false a = a
pp true a = 0

abbrev nn : Bool → ℕ → ℕ
nn false a = 0
nn true a = a

-- The exact sum of two sizes with their signs, over one denominator.
abbrev sum_q : Bool → ℕ → Bool → ℕ → (c : ℕ) → 0 < c → Q
sum_q s a t b c C = record { p = pp s a + pp t b; n = nn s a + nn t b; d = c; pos = C }

-- (a - b) c + b c is a c, where b is at most a.
pub difference_times : (a b c : ℕ) → b ≤ a → (a - b) * c + b * c ≡ a * c
difference_times a b c h =
    let u = a - b in
    let e : u + b ≡ a = omega arith in
    omega (arith, ap (λ (x : ℕ). x * c) e)

sum_is : (f : Format) (s : Bool) (a : ℕ) (t : Bool) (b c : ℕ) (C : 0 < c) → Same (sum f s a t b c) (rnd f (sum_q s a t b c C))
unfolding sum
sum_is f false a false b c C = round_is_rnd f false (a + b) c C (sum_q false a false b c C) (omega arith, omega arith)
sum_is f true a true b c C = round_is_rnd f true (a + b) c C (sum_q true a true b c C) (omega arith, omega arith)
sum_is f false a true b c C = go (ltb a b) (ltb→lt a b) (nltb→le a b)
  where
    go : (x : Bool) → (T x → a < b) → (T (not x) → b ≤ a) → Same (cond x (round f true (b - a) c) (round f false (a - b) c)) (rnd f (sum_q false a true b c C))
    go true h k = let e = difference_times b a c (le_of_lt (h tt)) in round_is_rnd f true (b - a) c C (sum_q false a true b c C) (omega arith, omega arith)
    go false h k = let e = difference_times a b c (k tt) in round_is_rnd f false (a - b) c C (sum_q false a true b c C) (omega arith, omega arith)
sum_is f true a false b c C = go (ltb a b) (ltb→lt a b) (nltb→le a b)
  where
    go' : (x : Bool) → (T (not x) → a ≤ b) → b ≤ a → Same (round f x (a - b) c) (rnd f (sum_q true a false b c C))
    go' true h k = let e = difference_times a b c k in round_is_rnd f true (a - b) c C (sum_q true a false b c C) (omega arith, omega arith)
    go' false h k =
        let e = difference_times a b c k in
        let g = mul-le-mul_right c (h tt) in
        round_is_rnd f false (a - b) c C (sum_q true a false b c C) (omega arith, omega arith)

    go : (x : Bool) → (T x → a < b) → (T (not x) → b ≤ a) → Same (cond x (round f false (b - a) c) (round f (ltb b a) (a - b) c))
        (rnd f (sum_q true a false b c C))
    go true h k = let e = difference_times b a c (le_of_lt (h tt)) in round_is_rnd f false (b - a) c C (sum_q true a false b c C) (omega arith, omega arith)
    go false h k = go' (ltb b a) (nltb→le b a) (k tt)

sum-at : (f : Format) (s : Bool) (a : ℕ) (t : Bool) (b c : ℕ) (C : 0 < c) (q : Q) → Eqv (sum_q s a t b c C) q → Same (sum f s a t b c) (rnd f q)
sum-at f s a t b c C q h = same_trans (sum f s a t b c) (rnd f (sum_q s a t b c C)) (rnd f q) (sum_is f s a t b c C) (rnd_same f (sum_q s a t b c C) q h)

both_pos : (e d : ℤ) → 0 < down e * down d
both_pos e d = mul-pos (down_pos e) (down_pos d)

-- x + y is the exact sum, rounded.
pub add_is_rounded : (f : Format) (x y : Float) → T (finite x) → T (finite y) → Same (add f x y) (rnd f (add_q (val x) (val y)))
unfolding add
add_is_rounded f nan y p q = absurd p
add_is_rounded f (inf s) y p q = absurd p
add_is_rounded f (fin s m e) nan p q = absurd q
add_is_rounded f (fin s m e) (inf t) p q = absurd q
add_is_rounded f (fin false m e) (fin false n d) p q = sum-at f false (m * up e * down d) false (n * up d * down e) (down e * down d) (both_pos e d)
    (add_q (val (fin false m e)) (val (fin false n d))) (omega arith, omega arith)
add_is_rounded f (fin false m e) (fin true n d) p q = sum-at f false (m * up e * down d) true (n * up d * down e) (down e * down d) (both_pos e d)
    (add_q (val (fin false m e)) (val (fin true n d))) (omega arith, omega arith)
add_is_rounded f (fin true m e) (fin false n d) p q = sum-at f true (m * up e * down d) false (n * up d * down e) (down e * down d) (both_pos e d)
    (add_q (val (fin true m e)) (val (fin false n d))) (omega arith, omega arith)
add_is_rounded f (fin true m e) (fin true n d) p q = sum-at f true (m * up e * down d) true (n * up d * down e) (down e * down d) (both_pos e d)
    (add_q (val (fin true m e)) (val (fin true n d))) (omega arith, omega arith)

-- ---- the difference

-- The negative of a finite float is finite.
pub neg_finite : (x : Float) → T (finite x) → T (finite (neg x))
unfolding neg
neg_finite nan p = p
neg_finite (inf s) p = p
neg_finite (fin s m e) p = tt

-- Negation is exact.
pub neg-val : (x : Float) → T (finite x) → Eqv (val (neg x)) (neg_q (val x))
unfolding neg
neg-val nan p = absurd p
neg-val (inf s) p = absurd p
neg-val (fin false m e) p = (q_le_refl (val (fin true m e)), q_le_refl (val (fin true m e)))
neg-val (fin true m e) p = (q_le_refl (val (fin false m e)), q_le_refl (val (fin false m e)))

-- One step at a time: `omega` does not take the twelve products of both sides at once.
add_left : (a n d b m e c k g : ℕ) → a * g + k * d ≤ c * d + n * g
    → (a * e + b * d) * (g * e) + (k * e + m * g) * (d * e) ≤ (c * e + b * g) * (d * e) + (n * e + m * d) * (g * e)
add_left a n d b m e c k g h = go (mul-le-mul_right (e * e) h)
  where
    go : (a * g + k * d) * (e * e) ≤ (c * d + n * g) * (e * e)
        → (a * e + b * d) * (g * e) + (k * e + m * g) * (d * e) ≤ (c * e + b * g) * (d * e) + (n * e + m * d) * (g * e)
    go x = omega arith

add_q_left : (a a' b : Q) → Le a a' → Le (add_q a b) (add_q a' b)
add_q_left a a' b h = add_left a.p a.n a.d b.p b.n b.d a'.p a'.n a'.d h

add_q_comm : (a b : Q) → Le (add_q a b) (add_q b a)
add_q_comm a b = omega arith

add_q_mono : (a b a' b' : Q) → Le a a' → Le b b' → Le (add_q a b) (add_q a' b')
add_q_mono a b a' b' h k =
    q_le_trans (add_q a b) (add_q a' b) (add_q a' b') (add_q_left a a' b h)
    (q_le_trans (add_q a' b) (add_q b a') (add_q a' b') (add_q_comm a' b)
    (q_le_trans (add_q b a') (add_q b' a') (add_q a' b') (add_q_left b b' a' k) (add_q_comm b' a')))

-- x - y is the exact difference, rounded.
pub sub_is_rounded : (f : Format) (x y : Float) → T (finite x) → T (finite y) → Same (sub f x y) (rnd f (sub_q (val x) (val y)))
unfolding sub
sub_is_rounded f x y p q =
    let v = neg-val y q in
    same_trans (add f x (neg y)) (rnd f (add_q (val x) (val (neg y)))) (rnd f (sub_q (val x) (val y))) (add_is_rounded f x (neg y) p (neg_finite y q))
    (rnd_same f (add_q (val x) (val (neg y))) (sub_q (val x) (val y)) (
      add_q_mono (val x) (val (neg y)) (val x) (neg_q (val y)) (q_le_refl (val x)) v.0,
      add_q_mono (val x) (neg_q (val y)) (val x) (val (neg y))
          (q_le_refl (val x)) v.1,
    ))

-- ---- the product

-- x y is the exact product, rounded.
pub mul_is_rounded : (f : Format) (x y : Float) → T (finite x) → T (finite y) → Same (mul f x y) (rnd f (mul_q (val x) (val y)))
unfolding mul
mul_is_rounded f nan y p q = absurd p
mul_is_rounded f (inf s) y p q = absurd p
mul_is_rounded f (fin s m e) nan p q = absurd q
mul_is_rounded f (fin s m e) (inf t) p q = absurd q
mul_is_rounded f (fin false m e) (fin false n d) p q = round_is_rnd f false (m * up e * (n * up d)) (down e * down d) (both_pos e d)
    (mul_q (val (fin false m e)) (val (fin false n d))) (omega arith, omega arith)
mul_is_rounded f (fin false m e) (fin true n d) p q = round_is_rnd f true (m * up e * (n * up d)) (down e * down d) (both_pos e d)
    (mul_q (val (fin false m e)) (val (fin true n d))) (omega arith, omega arith)
mul_is_rounded f (fin true m e) (fin false n d) p q = round_is_rnd f true (m * up e * (n * up d)) (down e * down d) (both_pos e d)
    (mul_q (val (fin true m e)) (val (fin false n d))) (omega arith, omega arith)
mul_is_rounded f (fin true m e) (fin true n d) p q = round_is_rnd f false (m * up e * (n * up d)) (down e * down d) (both_pos e d)
    (mul_q (val (fin true m e)) (val (fin true n d))) (omega arith, omega arith)

-- ---- the quotient and the remainder by a positive float

-- The exact quotient by a positive float.
abbrev pub div_q : Q → (y : Float) → T (positive y) → Q
div_q a y h = record { p = a.p * den y; n = a.n * den y; d = pnum y * a.d; pos = mul-pos (positive_pnum y h) a.pos }

not_taken : (b : Bool) (z y : Float) (q : Float) → (T b → ⊥) → Same y q → Same (cond b z y) q
not_taken true z y q h s = absurd (h tt)
not_taken false z y q h s = s

-- x / y is the exact quotient, rounded, where y is positive.
pub div_is_rounded : (f : Format) (x y : Float) → T (finite x) → (h : T (positive y)) → Same (div f x y) (rnd f (div_q (val x) y h))
unfolding div
div_is_rounded f nan y p h = absurd p
div_is_rounded f (inf s) y p h = absurd p
div_is_rounded f (fin s m e) nan p h = absurd h
div_is_rounded f (fin s m e) (inf t) p h = absurd h
div_is_rounded f (fin s m e) (fin true n d) p h = absurd h
div_is_rounded f (fin false m e) (fin false n d) p h =
    let C = mul-pos (positive_pnum (fin false n d) h) (down_pos e) in
    let q = div_q (val (fin false m e)) (fin false n d) h in
    not_taken (eqb n 0) (cond (eqb m 0) nan (inf false)) (round f false (m * up e * down d) (n * up d * down e)) (rnd f q)
    (λ (t : T (eqb n 0)). omega (arith, ltb→lt 0 n h, eqb→eq n 0 t))
    (round_is_rnd f false (m * up e * down d) (n * up d * down e) C q (omega arith, omega arith))
div_is_rounded f (fin true m e) (fin false n d) p h =
    let C = mul-pos (positive_pnum (fin false n d) h) (down_pos e) in
    let q = div_q (val (fin true m e)) (fin false n d) h in
    not_taken (eqb n 0) (cond (eqb m 0) nan (inf true)) (round f true (m * up e * down d) (n * up d * down e)) (rnd f q)
    (λ (t : T (eqb n 0)). omega (arith, ltb→lt 0 n h, eqb→eq n 0 t))
    (round_is_rnd f true (m * up e * down d) (n * up d * down e) C q (omega arith, omega arith))

-- The exact remainder by a positive float, of the sign of the dividend.
abbrev pub rem_q : Q → (y : Float) → Q
rem_q a y = record { p = (a.p * den y) % (pnum y * a.d); n = (a.n * den y) % (pnum y * a.d); d = a.d * den y; pos = mul-pos a.pos (den_pos y) }

-- x % y is the exact remainder, rounded, where y is positive.
pub rem_is_rounded : (f : Format) (x y : Float) → T (finite x) → T (positive y) → Same (rem f x y) (rnd f (rem_q (val x) y))
unfolding rem
rem_is_rounded f nan y p h = absurd p
rem_is_rounded f (inf s) y p h = absurd p
rem_is_rounded f (fin s m e) nan p h = absurd h
rem_is_rounded f (fin s m e) (inf t) p h = absurd h
rem_is_rounded f (fin s m e) (fin true n d) p h = absurd h
rem_is_rounded f (fin false m e) (fin false n d) p h =
    let q = rem_q (val (fin false m e)) (fin false n d) in
    let z : 0 * down d % (n * up d * down e) ≡ 0 = ap (λ (u : ℕ). u % (n * up d * down e)) (zero-mul (down d)) ∙ zero-mod (n * up d * down e) in
    not_taken (eqb n 0) nan (round f false (m * up e * down d % (n * up d * down e)) (down e * down d)) (rnd f q)
    (λ (t : T (eqb n 0)). omega (arith, ltb→lt 0 n h, eqb→eq n 0 t))
    (round_is_rnd f false (m * up e * down d % (n * up d * down e)) (down e * down d) (both_pos e d) q
    (rest (m * up e * down d % (n * up d * down e)) (0 * down d % (n * up d * down e)) (down e * down d) z))
  where
    rest : (r z c : ℕ) → z ≡ 0 → (r * c + z * c ≤ r * c + 0 * c) × (r * c + 0 * c ≤ r * c + z * c)
    rest r z c e = let k : z * c ≡ 0 * c = ap (λ (u : ℕ). u * c) e in (omega arith, omega arith)
rem_is_rounded f (fin true m e) (fin false n d) p h =
    let q = rem_q (val (fin true m e)) (fin false n d) in
    let z : 0 * down d % (n * up d * down e) ≡ 0 = ap (λ (u : ℕ). u % (n * up d * down e)) (zero-mul (down d)) ∙ zero-mod (n * up d * down e) in
    not_taken (eqb n 0) nan (round f true (m * up e * down d % (n * up d * down e)) (down e * down d)) (rnd f q)
    (λ (t : T (eqb n 0)). omega (arith, ltb→lt 0 n h, eqb→eq n 0 t))
    (round_is_rnd f true (m * up e * down d % (n * up d * down e)) (down e * down d) (both_pos e d) q
    (rest (m * up e * down d % (n * up d * down e)) (0 * down d % (n * up d * down e)) (down e * down d) z))
  where
    rest : (r z c : ℕ) → z ≡ 0 → (0 * c + r * c ≤ z * c + r * c) × (z * c + r * c ≤ 0 * c + r * c)
    rest r z c e = let k : z * c ≡ 0 * c = ap (λ (u : ℕ). u * c) e in (omega arith, omega arith)
