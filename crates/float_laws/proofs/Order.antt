-- The order of all floats, infinities and NaN included: it is transitive, negation reverses it, and where `<` fails for finite floats `<=` holds the other way
-- round.
use mathlib.Core.Path.{◌≡◌, refl}
use Prim.Native.Nat.{ℕ, zero, suc, ◌+◌, ◌*◌, ◌≤◌, ◌<◌}
use native.Mathlib.Nat.{le_of_lt, mul-pos, lt_of_not-le, le_of_suc-le-suc}
use native.Mathlib.Omega.{arith}
use mathlib.Core.Bool.{true, false, not}
use lib.Dec.{T, ltb→lt, lt→ltb, T_not}
use lib.Ieee.{Float, nan, inf, fin, up, down, lt, le, neg}
use lib.Ieee.Fits.{up_pos}
use lib.Ieee.Positive.{den, positive}
use lib.Ieee.Scale.{finite}
use Rattle.float_laws.specs.Fractions.{Q, Lt, Eqv, pnum, nnum, val, Same}
use Rattle.timestamp.specs.Floats.{zero64}
use Rattle.float_laws.proofs.Value.{q_le_trans, le_to_val, le_of_val, lt_to_val, lt_of_val}

-- The test `<=` is transitive on all floats.
pub float_le_trans : (x y z : Float) → T (le x y) → T (le y z) → T (le x z)
unfolding le
float_le_trans nan y z h k = absurd h
float_le_trans (inf s) nan z h k = absurd h
float_le_trans (fin s m e) nan z h k = absurd h
float_le_trans (inf s) (inf t) nan h k = absurd k
float_le_trans (inf s) (fin t n d) nan h k = absurd k
float_le_trans (fin s m e) (inf t) nan h k = absurd k
float_le_trans (fin s m e) (fin t n d) nan h k = absurd k
float_le_trans (inf true) (inf t) (inf true) h k = tt
float_le_trans (inf true) (inf t) (inf false) h k = tt
float_le_trans (inf false) (inf true) (inf u) h k = absurd h
float_le_trans (inf false) (inf false) (inf true) h k = absurd k
float_le_trans (inf false) (inf false) (inf false) h k = tt
float_le_trans (inf true) (inf t) (fin u l c) h k = tt
float_le_trans (inf false) (inf true) (fin u l c) h k = absurd h
float_le_trans (inf false) (inf false) (fin u l c) h k = absurd k
float_le_trans (inf true) (fin t n d) (inf true) h k = tt
float_le_trans (inf true) (fin t n d) (inf false) h k = tt
float_le_trans (inf false) (fin t n d) (inf u) h k = absurd h
float_le_trans (inf true) (fin t n d) (fin u l c) h k = tt
float_le_trans (inf false) (fin t n d) (fin u l c) h k = absurd h
float_le_trans (fin s m e) (inf t) (inf false) h k = tt
float_le_trans (fin s m e) (inf true) (inf true) h k = absurd h
float_le_trans (fin s m e) (inf false) (inf true) h k = absurd k
float_le_trans (fin s m e) (inf true) (fin u l c) h k = absurd h
float_le_trans (fin s m e) (inf false) (fin u l c) h k = absurd k
float_le_trans (fin s m e) (fin t n d) (inf true) h k = absurd k
float_le_trans (fin s m e) (fin t n d) (inf false) h k = tt
float_le_trans (fin s m e) (fin t n d) (fin u l c) h k = le_of_val (fin s m e) (fin u l c) tt tt
    (q_le_trans (val (fin s m e)) (val (fin t n d)) (val (fin u l c)) (le_to_val (fin s m e) (fin t n d) tt tt h) (le_to_val (fin t n d) (fin u l c) tt tt k))

-- Floats that compare equal to a third compare equal.
pub same_trans : (x y z : Float) → Same x y → Same y z → Same x z
same_trans x y z h k = (float_le_trans x y z h.0 k.0, float_le_trans z y x k.1 h.1)

-- Two finite floats of one number compare equal.
pub same_of : (x y : Float) (a : Q) → T (finite x) → T (finite y) → Eqv (val x) a → Eqv (val y) a → Same x y
same_of x y a p q h k = (le_of_val x y p q (q_le_trans (val x) a (val y) h.0 k.1), le_of_val y x q p (q_le_trans (val y) a (val x) k.0 h.1))

-- Negation reverses `<=`, on all floats.
pub le_neg : (x y : Float) → T (le x y) → T (le (neg y) (neg x))
unfolding le neg
le_neg nan y h = absurd h
le_neg (inf s) nan h = absurd h
le_neg (fin s m e) nan h = absurd h
le_neg (inf true) (inf true) h = tt
le_neg (inf true) (inf false) h = tt
le_neg (inf false) (inf true) h = absurd h
le_neg (inf false) (inf false) h = tt
le_neg (inf true) (fin t n d) h = tt
le_neg (inf false) (fin t n d) h = absurd h
le_neg (fin s m e) (inf true) h = absurd h
le_neg (fin s m e) (inf false) h = tt
le_neg (fin false m e) (fin false n d) h = le_of_val (fin true n d) (fin true m e) tt tt (omega (arith, le_to_val (fin false m e) (fin false n d) tt tt h))
le_neg (fin true m e) (fin true n d) h = le_of_val (fin false n d) (fin false m e) tt tt (omega (arith, le_to_val (fin true m e) (fin true n d) tt tt h))
le_neg (fin true m e) (fin false n d) h = le_of_val (fin true n d) (fin false m e) tt tt (omega (arith, le_to_val (fin true m e) (fin false n d) tt tt h))
le_neg (fin false m e) (fin true n d) h = le_of_val (fin false n d) (fin true m e) tt tt (omega (arith, le_to_val (fin false m e) (fin true n d) tt tt h))

-- What lies between two finite floats is finite: neither an infinity nor a NaN.
pub between_finite : (x z y : Float) → T (finite x) → T (finite y) → T (le x z) → T (le z y) → T (finite z)
unfolding le
between_finite nan z y p q h k = absurd p
between_finite (inf s) z y p q h k = absurd p
between_finite (fin s m e) nan y p q h k = absurd h
between_finite (fin s m e) (fin t n d) y p q h k = tt
between_finite (fin s m e) (inf true) y p q h k = absurd h
between_finite (fin s m e) (inf false) nan p q h k = absurd q
between_finite (fin s m e) (inf false) (inf t) p q h k = absurd q
between_finite (fin s m e) (inf false) (fin t n d) p q h k = absurd k

-- `x < y` implies `x <= y`.
pub float_le_of_lt : (x y : Float) → T (finite x) → T (finite y) → T (lt x y) → T (le x y)
float_le_of_lt x y p q h = le_of_val x y p q (le_of_lt (lt_to_val x y p q h))

-- Where `x < y` fails for finite floats, `y <= x` holds.
pub float_le_of_not_lt : (x y : Float) → T (finite x) → T (finite y) → T (not (lt x y)) → T (le y x)
float_le_of_not_lt x y p q h = le_of_val y x q p (go (pnum x) (nnum x) (den x) (pnum y) (nnum y) (den y)
    (λ (k : Lt (val x) (val y)). T_not (lt x y) h (lt_of_val x y p q k)))
  where
    go : (p n d p' n' d' : ℕ) → (p * d' + n' * d < p' * d + n * d' → ⊥) → p' * d + n * d' ≤ p * d' + n' * d
    go p n d p' n' d' h = le_of_suc-le-suc (lt_of_not-le h)

-- ---- floats above zero

-- A finite float that is greater than 0 is `positive`.
pub positive_of_lt : (t : Float) → T (finite t) → T (lt zero64 t) → T (positive t)
unfolding lt
positive_of_lt nan p h = absurd p
positive_of_lt (inf s) p h = absurd p
positive_of_lt (fin true m e) p h = absurd h
positive_of_lt (fin false zero e) p h = absurd (omega (arith, ltb→lt (0 * 1 * down e) (0 * up e * 1) h))
positive_of_lt (fin false (suc m) e) p h = lt→ltb 0 (suc m) (omega arith)

-- A positive float has a positive numerator above 0.
pub positive_pnum : (y : Float) → T (positive y) → 0 < pnum y
positive_pnum nan p = absurd p
positive_pnum (inf s) p = absurd p
positive_pnum (fin true m e) p = absurd p
positive_pnum (fin false m e) p = mul-pos (ltb→lt 0 m p) (up_pos e)

-- A positive float has no numerator below 0.
pub positive_nnum : (y : Float) → T (positive y) → nnum y ≡ 0
positive_nnum nan q = absurd q
positive_nnum (inf s) q = absurd q
positive_nnum (fin true m e) q = absurd q
positive_nnum (fin false m e) q = refl
