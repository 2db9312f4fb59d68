-- A finite float as a signed fraction, and the order of finite floats as the order of those fractions.
use mathlib.Core.Path.{◌≡◌, refl, sym}
use mathlib.Core.Logic.{◌⊎◌, inl, inr}
use Prim.Native.Nat.{ℕ, zero, suc, ◌+◌, ◌*◌, ◌≤◌, ◌<◌}
use native.Mathlib.Nat.{le_refl, le_of_eq, le_of_lt, mul-le-mul_right, le_of_mul-le-mul_right, eq-or-lt_of_le}
use native.Mathlib.Omega.{arith}
use mathlib.Core.Bool.{Bool, true, false, ◌&&◌, ◌||◌}
use lib.Dec.{T, ltb, eqb, eqb→eq, ltb→lt, lt→ltb}
use lib.Ieee.{Float, nan, inf, fin, up, down, lt, le}
use lib.Ieee.Fits.{and_l, and_r, and_i, eq→eqb}
use lib.Ieee.Scale.{finite}
use Rattle.float_laws.specs.Fractions.{Q, Le, Lt, pnum, nnum, val}
use Rattle.timestamp.specs.Floats.{zero64}

-- Each fraction is at most itself.
pub q_le_refl : (a : Q) → Le a a
q_le_refl a = le_refl (a.p * a.d + a.n * a.d)

-- Transitivity on the numerators: both sides are brought to one denominator.
through : (p n d p' n' d' p'' n'' d'' : ℕ) → 0 < d' → p * d' + n' * d ≤ p' * d + n * d' → p' * d'' + n'' * d' ≤ p'' * d' + n' * d''
    → p * d'' + n'' * d ≤ p'' * d + n * d''
through p n d p' n' d' p'' n'' d'' D h k =
    let x : (p * d' + n' * d) * d'' ≤ (p' * d + n * d') * d'' = mul-le-mul_right d'' h in
    let y : (p' * d'' + n'' * d') * d ≤ (p'' * d' + n' * d'') * d = mul-le-mul_right d k in
    let z : (p * d'' + n'' * d) * d' ≤ (p'' * d + n * d'') * d' = omega arith in
    le_of_mul-le-mul_right z D

-- The order of fractions is transitive.
pub q_le_trans : (a b c : Q) → Le a b → Le b c → Le a c
q_le_trans a b c h k = through a.p a.n a.d b.p b.n b.d c.p c.n c.d b.pos h k

-- ---- the number of a float

-- A float has a positive or a negative numerator, never both.
pub one_sided : (x : Float) → (pnum x ≡ 0) ⊎ (nnum x ≡ 0)
one_sided nan = inl refl
one_sided (inf s) = inl refl
one_sided (fin true m e) = inl refl
one_sided (fin false m e) = inr refl

-- A fraction that is at least 0 has no more below than above.
pub q_nonneg : (a : Q) → Le (val zero64) a → a.n ≤ a.p
q_nonneg a h = omega (arith, h)

-- ---- the tests `le` and `lt` against the order of numbers

or_l : (a b : Bool) → T a → T (a || b)
or_l true b t = tt
or_l false b t = absurd t

or_r : (a b : Bool) → T b → T (a || b)
or_r true b t = tt
or_r false b t = t

or_split : (a b : Bool) → T (a || b) → T a ⊎ T b
or_split true b t = inl tt
or_split false b t = inr t

-- The form in which `le` compares two sizes of one sign.
of_le : (a b : ℕ) (z : Bool) → a ≤ b → T (ltb a b || (eqb a b && (true || z)))
of_le a b z h = elim (eq-or-lt_of_le h) [
  | inl p ↦ or_r (ltb a b) (eqb a b && true) (and_i (eqb a b) true (eq→eqb p) tt)
  | inr q ↦ or_l (ltb a b)
      (eqb a b && true) (lt→ltb a b q)
]

to_le : (a b : ℕ) (z : Bool) → T (ltb a b || (eqb a b && (true || z))) → a ≤ b
to_le a b z t = elim (or_split (ltb a b) (eqb a b && true) t) [ inl u ↦ le_of_lt (ltb→lt a b u) | inr u ↦ le_of_eq (eqb→eq a b (and_l (eqb a b) true u)) ]

of_ge : (a b : ℕ) (z : Bool) → b ≤ a → T (ltb b a || (eqb a b && (true || z)))
of_ge a b z h = elim (eq-or-lt_of_le h) [
  | inl p ↦ or_r (ltb b a) (eqb a b && true) (and_i (eqb a b) true (eq→eqb (sym p)) tt)
  | inr q ↦ or_l (ltb b a)
      (eqb a b && true) (lt→ltb b a q)
]

to_ge : (a b : ℕ) (z : Bool) → T (ltb b a || (eqb a b && (true || z))) → b ≤ a
to_ge a b z t = elim (or_split (ltb b a) (eqb a b && true) t) [ inl u ↦ le_of_lt (ltb→lt b a u) | inr u ↦ le_of_eq (sym (eqb→eq a b (and_l (eqb a b) true u))) ]

-- -a is at most b, as `le` tests it.
of_mixed : (a b : ℕ) → T (ltb 0 (a + b) || (eqb a b && (false || eqb a 0)))
of_mixed zero zero = tt
of_mixed zero (suc b) = or_l (ltb 0 (0 + suc b)) (eqb 0 (suc b) && true) (lt→ltb 0 (0 + suc b) (omega arith))
of_mixed (suc a) b = or_l (ltb 0 (suc a + b)) (eqb (suc a) b && eqb (suc a) 0) (lt→ltb 0 (suc a + b) (omega arith))

-- a is at most -b only where both are 0.
to_mixed : (a b : ℕ) → T (eqb a b && (false || eqb a 0)) → a + b ≤ 0
to_mixed a b t =
    let h = eqb→eq a b (and_l (eqb a b) (eqb a 0) t) in
    let k = eqb→eq a 0 (and_r (eqb a b) (eqb a 0) t) in
    omega arith

of_zeros : (a b : ℕ) → a + b ≤ 0 → T (eqb a b && (false || eqb a 0))
of_zeros a b h =
    let k : a ≡ b = omega arith in
    let z : a ≡ 0 = omega arith in
    and_i (eqb a b) (eqb a 0) (eq→eqb k) (eq→eqb z)

-- If the test `x <= y` of finite floats holds, then their numbers are so ordered.
pub le_to_val : (x y : Float) → T (finite x) → T (finite y) → T (le x y) → Le (val x) (val y)
unfolding le
le_to_val nan y p q h = absurd p
le_to_val (inf s) y p q h = absurd p
le_to_val (fin s m e) nan p q h = absurd q
le_to_val (fin s m e) (inf t) p q h = absurd q
le_to_val (fin false m e) (fin false n d) p q h = let k = to_le (m * up e * down d) (n * up d * down e) (eqb (m * up e * down d) 0) h in omega arith
le_to_val (fin false m e) (fin true n d) p q h = let k = to_mixed (m * up e * down d) (n * up d * down e) h in omega arith
le_to_val (fin true m e) (fin false n d) p q h = omega arith
le_to_val (fin true m e) (fin true n d) p q h = let k = to_ge (m * up e * down d) (n * up d * down e) (eqb (m * up e * down d) 0) h in omega arith

-- If the number of x is at most that of y, then the test `x <= y` holds.
pub le_of_val : (x y : Float) → T (finite x) → T (finite y) → Le (val x) (val y) → T (le x y)
unfolding le
le_of_val nan y p q h = absurd p
le_of_val (inf s) y p q h = absurd p
le_of_val (fin s m e) nan p q h = absurd q
le_of_val (fin s m e) (inf t) p q h = absurd q
le_of_val (fin false m e) (fin false n d) p q h = of_le (m * up e * down d) (n * up d * down e) (eqb (m * up e * down d) 0) (omega arith)
le_of_val (fin false m e) (fin true n d) p q h = of_zeros (m * up e * down d) (n * up d * down e) (omega arith)
le_of_val (fin true m e) (fin false n d) p q h = of_mixed (m * up e * down d) (n * up d * down e)
le_of_val (fin true m e) (fin true n d) p q h = of_ge (m * up e * down d) (n * up d * down e) (eqb (m * up e * down d) 0) (omega arith)

-- If the test `x < y` of finite floats holds, then their numbers are so ordered.
pub lt_to_val : (x y : Float) → T (finite x) → T (finite y) → T (lt x y) → Lt (val x) (val y)
unfolding lt
lt_to_val nan y p q h = absurd p
lt_to_val (inf s) y p q h = absurd p
lt_to_val (fin s m e) nan p q h = absurd q
lt_to_val (fin s m e) (inf t) p q h = absurd q
lt_to_val (fin false m e) (fin false n d) p q h = let k = ltb→lt (m * up e * down d) (n * up d * down e) h in omega arith
lt_to_val (fin false m e) (fin true n d) p q h = absurd h
lt_to_val (fin true m e) (fin false n d) p q h = let k = ltb→lt 0 (m * up e * down d + n * up d * down e) h in omega arith
lt_to_val (fin true m e) (fin true n d) p q h = let k = ltb→lt (n * up d * down e) (m * up e * down d) h in omega arith

-- If the number of x is less than that of y, then the test `x < y` holds.
pub lt_of_val : (x y : Float) → T (finite x) → T (finite y) → Lt (val x) (val y) → T (lt x y)
unfolding lt
lt_of_val nan y p q h = absurd p
lt_of_val (inf s) y p q h = absurd p
lt_of_val (fin s m e) nan p q h = absurd q
lt_of_val (fin s m e) (inf t) p q h = absurd q
lt_of_val (fin false m e) (fin false n d) p q h = lt→ltb (m * up e * down d) (n * up d * down e) (omega arith)
lt_of_val (fin false m e) (fin true n d) p q h = absurd (omega (arith, h))
lt_of_val (fin true m e) (fin false n d) p q h = lt→ltb 0 (m * up e * down d + n * up d * down e) (omega arith)
lt_of_val (fin true m e) (fin true n d) p q h = lt→ltb (n * up d * down e) (m * up e * down d) (omega arith)
