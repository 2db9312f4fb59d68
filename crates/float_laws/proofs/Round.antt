-- Rounding to nearest keeps the order of fractions and leaves each value that the format holds as it is.
use mathlib.Core.Path.{◌≡◌, refl, sym, ap, ◌∙◌, subst}
use Prim.Native.Nat.{ℕ, zero, suc, ◌+◌, ◌-◌, ◌*◌, ◌≤◌, ◌<◌, ◌%◌, ◌^◌}
use native.Mathlib.Nat.{le_refl, le_of_lt, mul-le-mul_right, mul-lt-mul_of_pos_right, not-le_of_lt, mul_assoc, mul-one, zero-mul, mul_comm, sub-zero}
use native.Mathlib.Nat.{zero-lt-suc}
use native.Mathlib.Omega.{arith}
use mathlib.Core.Bool.{Bool, true, false, not, ◌&&◌, cond, true≢false, false≢true}
use lib.IntN.{ℤ, pos, negsuc}
use lib.Dec.{T, ltb, leb, eqb, ltb→lt, nltb→le, leb→le, nleb→lt}
use lib.Pow.{pow-add, pow_pos, pow-lt}
use lib.Ieee.{Float, nan, inf, fin, up, down, le, neg, Format, binary32, binary64, prec, emax, low, odd, units, round, fits}
use lib.Ieee.Digits.{back}
use lib.Ieee.Exact.{HasValue, round_exact}
use lib.Ieee.Fits.{and_l, and_r, down_pos}
use lib.Ieee.Order.{round_mono}
use lib.Ieee.Scale.{finite}
use Rattle.float_laws.specs.Fractions.{Q, Le, Eqv, val, Same, sgn, rnd}
use Rattle.float_laws.proofs.Value.{q_le_refl}
use Rattle.float_laws.proofs.Order.{float_le_trans, same_trans, same_of, le_neg}

-- ---- a negative fraction is rounded as its size is

odd_neg : (d q k l : ℕ) → odd d true q k l ≡ neg (odd d false q k l)
unfolding odd neg
odd_neg d zero k l = refl
odd_neg d (suc q) k l = refl

units_neg : (f : Format) (q k : ℕ) → units f true q k ≡ neg (units f false q k)
unfolding units neg
units_neg f q k = go (ltb (q * 2 ^ k) (2 ^ (low f + suc (emax f))))
  where
    go : (b : Bool) → cond b (odd (suc (prec f)) true q k (low f)) (inf true) ≡ neg (cond b (odd (suc (prec f)) false q k (low f)) (inf false))
    go true = odd_neg (suc (prec f)) q k (low f)
    go false = refl

-- The two signs of one size are rounded to two signs of one value.
round_neg : (f : Format) (a c : ℕ) → round f true a c ≡ neg (round f false a c)
unfolding round
round_neg f a c = units_neg f _ _

round_mono_neg : (f : Format) (a b c d : ℕ) → 0 < b → 0 < d → a * d ≤ c * b → T (le (round f true c d) (round f true a b))
round_mono_neg f a b c d B D h =
    subst (λ (z : Float). T (le z (round f true a b))) (sym (round_neg f c d))
    (subst (λ (z : Float). T (le (neg (round f false c d)) z)) (sym (round_neg f a b))
    (le_neg (round f false a b) (round f false c d) (round_mono f a b c d B D h)))

zeros : (f : Format) → T (le (round f true 0 1) (round f false 0 1))
unfolding round le
zeros binary32 = tt
zeros binary64 = tt

-- No negative fraction is rounded to more than a positive one is.
round_signs : (f : Format) (a b c d : ℕ) → 0 < b → 0 < d → T (le (round f true a b) (round f false c d))
round_signs f a b c d B D =
    float_le_trans (round f true a b) (round f true 0 1) (round f false c d) (round_mono_neg f 0 1 a b (zero-lt-suc 0) B (omega arith))
    (float_le_trans (round f true 0 1) (round f false 0 1) (round f false c d) (zeros f) (round_mono f 0 1 c d (zero-lt-suc 0) D (omega arith)))

-- ---- rounding keeps the order

-- The order of two fractions that are not negative, on their sizes.
take : (p n d p' n' d' : ℕ) → n ≤ p → n' ≤ p' → p * d' + n' * d ≤ p' * d + n * d' → (p - n) * d' ≤ (p' - n') * d
take p n d p' n' d' a b h =
    let u = p - n in
    let v = p' - n' in
    let e : n + u ≡ p = omega arith in
    let g : n' + v ≡ p' = omega arith in
    omega (arith, ap (λ (x : ℕ). x * d') e, ap (λ (x : ℕ). x * d) g)

-- A fraction that is not negative is not at most a negative one.
clash : (p n d p' n' d' : ℕ) → 0 < d → n ≤ p → p' < n' → p * d' + n' * d ≤ p' * d + n * d' → ⊥
clash p n d p' n' d' D a b h =
    let x : n * d' ≤ p * d' = mul-le-mul_right d' a in
    let y : p' * d < n' * d = mul-lt-mul_of_pos_right b D in
    omega arith

-- A fraction that is at most another is rounded to a float that is at most the other's.
pub rnd_mono : (f : Format) (a b : Q) → Le a b → T (le (rnd f a) (rnd f b))
unfolding rnd
rnd_mono f a b h = go (ltb a.p a.n) (ltb b.p b.n) (ltb→lt a.p a.n) (nltb→le a.p a.n) (ltb→lt b.p b.n) (nltb→le b.p b.n)
  where
    go : (x y : Bool) → (T x → a.p < a.n) → (T (not x) → a.n ≤ a.p) → (T y → b.p < b.n) → (T (not y) → b.n ≤ b.p)
        → T (le (cond x (round f true (a.n - a.p) a.d) (round f false (a.p - a.n) a.d))
        (cond y (round f true (b.n - b.p) b.d) (round f false (b.p - b.n) b.d)))
    go true true s t u v = round_mono_neg f (b.n - b.p) b.d (a.n - a.p) a.d b.pos a.pos
        (take b.n b.p b.d a.n a.p a.d (le_of_lt (u tt)) (le_of_lt (s tt)) (omega (arith, h)))
    go true false s t u v = round_signs f (a.n - a.p) a.d (b.p - b.n) b.d a.pos b.pos
    go false true s t u v = absurd (clash a.p a.n a.d b.p b.n b.d a.pos (t tt) (u tt) h)
    go false false s t u v = round_mono f (a.p - a.n) a.d (b.p - b.n) b.d a.pos b.pos
        (take a.p a.n a.d b.p b.n b.d (t tt) (v tt) h)

-- Fractions of one number are rounded to floats that compare equal.
pub rnd_same : (f : Format) (a b : Q) → Eqv a b → Same (rnd f a) (rnd f b)
rnd_same f a b h = (rnd_mono f a b h.0, rnd_mono f b a h.1)

-- ---- a value that the format holds is rounded to itself

-- What `fits` says of a value other than zero: the bounds of its significand and of its exponent at either end.
pub fits_bounds : (f : Format) (s : Bool) (m : ℕ) (e : ℤ) → T (fits f (fin s (suc m) e))
    → (suc m < 2 ^ prec f) × (down e ≤ 2 ^ low f) × (suc m * up e < 2 ^ suc (emax f) * down e)
unfolding fits
fits_bounds f s m e t =
    let a = eqb (suc m % 2) 1 in
    let b = ltb (suc m) (2 ^ prec f) in
    let c = leb (down e) (2 ^ low f) in
    let d = ltb (suc m * up e) (2 ^ suc (emax f) * down e) in (
      ltb→lt (suc m) (2 ^ prec f) (and_r a b (and_l (a && b) c (and_l (a && b && c) d t))),
      leb→le (down e) (2 ^ low f)
          (and_r (a && b) c (and_l (a && b && c) d t)),
      ltb→lt (suc m * up e) (2 ^ suc (emax f) * down e) (and_r (a && b && c) d t),
    )

pow_le_inv : (a b : ℕ) → 2 ^ a ≤ 2 ^ b → a ≤ b
pow_le_inv a b h = go (leb a b) (leb→le a b) (nleb→lt a b)
  where
    go : (t : Bool) → (T t → a ≤ b) → (T (not t) → b < a) → a ≤ b
    go true x y = x tt
    go false x y = absurd (not-le_of_lt (pow-lt (y tt)) h)

exact_pos : (f : Format) (s : Bool) (m : ℕ) (e : ℤ) → m < 2 ^ prec f → down e ≤ 2 ^ low f → m * up e < 2 ^ suc (emax f) * down e
    → HasValue (round f s (m * up e) (down e)) s (m * up e) (down e)
exact_pos f s m (pos k) a b c =
    let l = low f in
    let E : m * 2 ^ k * 2 ^ l ≡ m * 2 ^ (k + l) * 1 = mul_assoc m (2 ^ k) (2 ^ l) ∙ ap (λ (x : ℕ). m * x) (sym (pow-add 2 k l))
    ∙ sym (mul-one (m * 2 ^ (k + l))) in
    let F : m * 2 ^ (k + l) < 2 ^ (l + suc (emax f)) =
    subst (λ (x : ℕ). m * 2 ^ (k + l) < x) (mul_comm (2 ^ suc (emax f)) (2 ^ l) ∙ sym (pow-add 2 l (suc (emax f))))
    (subst (λ (x : ℕ). x < 2 ^ suc (emax f) * 2 ^ l) (E ∙ mul-one (m * 2 ^ (k + l)))
    (mul-lt-mul_of_pos_right (subst (λ (x : ℕ). m * 2 ^ k < x) (mul-one (2 ^ suc (emax f))) c) (pow_pos l))) in
    round_exact f s (m * 2 ^ k) 1 m (k + l) (zero-lt-suc 0) a F E
exact_pos f s m (negsuc k) a b c =
    let l = low f in
    let j = l - suc k in
    let J : j + suc k ≡ l = back l (suc k) (pow_le_inv (suc k) l b) in
    let P : 2 ^ j * 2 ^ suc k ≡ 2 ^ l = sym (pow-add 2 j (suc k)) ∙ ap (λ (x : ℕ). 2 ^ x) J in
    let E : m * 1 * 2 ^ l ≡ m * 2 ^ j * 2 ^ suc k = ap (λ (x : ℕ). x * 2 ^ l) (mul-one m) ∙ ap (λ (x : ℕ). m * x) (sym P)
    ∙ sym (mul_assoc m (2 ^ j) (2 ^ suc k)) in
    let F : m * 2 ^ j < 2 ^ (l + suc (emax f)) =
    subst (λ (x : ℕ). m * 2 ^ j < x) (mul_assoc (2 ^ suc (emax f)) (2 ^ suc k) (2 ^ j)
    ∙ ap (λ (x : ℕ). 2 ^ suc (emax f) * x) (mul_comm (2 ^ suc k) (2 ^ j) ∙ P) ∙ mul_comm (2 ^ suc (emax f)) (2 ^ l) ∙ sym (pow-add 2 l (suc (emax f))))
    (mul-lt-mul_of_pos_right (subst (λ (x : ℕ). x < 2 ^ suc (emax f) * 2 ^ suc k) (mul-one m) c) (pow_pos j)) in
    round_exact f s (m * 1) (2 ^ suc k) m j (pow_pos (suc k)) a F E

-- A zero, whatever its denominator.
exact_zero : (f : Format) (s : Bool) (c : ℕ) → 0 < c → HasValue (round f s 0 c) s 0 c
exact_zero f s c C = round_exact f s 0 c 0 0 C (pow_pos (prec f)) (pow_pos (low f + suc (emax f))) (zero-mul (2 ^ low f) ∙ sym (zero-mul c))

-- A value of the format is rounded exactly.
exact : (f : Format) (s : Bool) (m : ℕ) (e : ℤ) → T (fits f (fin s m e)) → HasValue (round f s (m * up e) (down e)) s (m * up e) (down e)
exact f s zero e t = subst (λ (x : ℕ). HasValue (round f s x (down e)) s x (down e)) (sym (zero-mul (up e))) (exact_zero f s (down e) (down_pos e))
exact f s (suc m) e t = let h = fits_bounds f s m e t in exact_pos f s (suc m) e h.0 h.1 h.2

-- A float that has the value of a fraction is finite.
pub has_value_finite : (x : Float) (s : Bool) (a c : ℕ) → HasValue x s a c → T (finite x)
has_value_finite nan s a c h = h
has_value_finite (inf t) s a c h = h
has_value_finite (fin t m e) s a c h = tt

-- A float that has the value of a fraction is that number.
pub has_value_eqv : (x : Float) (s : Bool) (a c : ℕ) (C : 0 < c) → HasValue x s a c → Eqv (val x) (sgn s a c C)
has_value_eqv nan s a c C h = absurd h
has_value_eqv (inf t) s a c C h = absurd h
has_value_eqv (fin true m e) false a c C h = absurd (true≢false h.0)
has_value_eqv (fin false m e) true a c C h = absurd (false≢true h.0)
has_value_eqv (fin false m e) false a c C h = let k = h.1 in (omega arith, omega arith)
has_value_eqv (fin true m e) true a c C h = let k = h.1 in (omega arith, omega arith)

round_refl : (f : Format) (s : Bool) (a c : ℕ) → 0 < c → Same (round f s a c) (round f s a c)
round_refl f false a c C = let h = round_mono f a c a c C C (le_refl (a * c)) in (h, h)
round_refl f true a c C = let h = round_mono_neg f a c a c C C (le_refl (a * c)) in (h, h)

-- The library's `round` and `rnd` differ at most in the sign of a zero.
round_rnd : (f : Format) (s : Bool) (a c : ℕ) (C : 0 < c) → Same (round f s a c) (rnd f (sgn s a c C))
unfolding rnd
round_rnd f false a c C = go (ltb a 0) (ltb→lt a 0)
  where
    go : (b : Bool) → (T b → a < 0) → Same (round f false a c) (cond b (round f true (0 - a) c) (round f false (a - 0) c))
    go true h = absurd (omega (arith, h tt))
    go false h = subst (λ (x : ℕ). Same (round f false a c) (round f false x c)) (sym (sub-zero a)) (round_refl f false a c C)
round_rnd f true a c C = go (ltb 0 a) (nltb→le 0 a)
  where
    go : (b : Bool) → (T (not b) → a ≤ 0) → Same (round f true a c) (cond b (round f true (a - 0) c) (round f false (0 - a) c))
    go true h = subst (λ (x : ℕ). Same (round f true a c) (round f true x c)) (sym (sub-zero a)) (round_refl f true a c C)
    go false h = subst (λ (x : ℕ). Same (round f true x c) (round f false (0 - x) c)) (sym (omega (arith, h tt)))
        (same_of (round f true 0 c) (round f false 0 c) (sgn true 0 c C)
        (has_value_finite (round f true 0 c) true 0 c (exact_zero f true c C)) (has_value_finite (round f false 0 c) false 0 c (exact_zero f false c C))
        (has_value_eqv (round f true 0 c) true 0 c C (exact_zero f true c C)) (has_value_eqv (round f false 0 c) false 0 c C (exact_zero f false c C)))

-- Rounding a sign, a numerator and a denominator is rounding the fraction that they are, up to the sign of a zero.
pub round_is_rnd : (f : Format) (s : Bool) (a c : ℕ) (C : 0 < c) (q : Q) → Eqv (sgn s a c C) q → Same (round f s a c) (rnd f q)
round_is_rnd f s a c C q h = same_trans (round f s a c) (rnd f (sgn s a c C)) (rnd f q) (round_rnd f s a c C) (rnd_same f (sgn s a c C) q h)

val_sgn : (s : Bool) (m : ℕ) (e : ℤ) → Eqv (val (fin s m e)) (sgn s (m * up e) (down e) (down_pos e))
val_sgn false m e = (q_le_refl (val (fin false m e)), q_le_refl (val (fin false m e)))
val_sgn true m e = (q_le_refl (val (fin true m e)), q_le_refl (val (fin true m e)))

-- A finite value that the format holds is what its number is rounded to.
pub rnd_held : (f : Format) (x : Float) → T (fits f x) → T (finite x) → Same x (rnd f (val x))
rnd_held f nan t p = absurd p
rnd_held f (inf s) t p = absurd p
rnd_held f (fin s m e) t p =
    let x = fin s m e in
    let r = round f s (m * up e) (down e) in
    let h = exact f s m e t in
    let v = val_sgn s m e in
    same_trans x r (rnd f (val x)) (same_of x r (sgn s (m * up e) (down e) (down_pos e)) tt (has_value_finite r s (m * up e) (down e) h) v
    (has_value_eqv r s (m * up e) (down e) (down_pos e) h))
    (round_is_rnd f s (m * up e) (down e) (down_pos e) (val x) (v.1, v.0))

-- A fraction that is at least a held value is rounded to a float that is at least that value.
pub rnd_at_least : (f : Format) (x : Float) (a : Q) → T (fits f x) → T (finite x) → Le (val x) a → T (le x (rnd f a))
rnd_at_least f x a t p h = float_le_trans x (rnd f (val x)) (rnd f a) (rnd_held f x t p).0 (rnd_mono f (val x) a h)

-- A fraction that is at most a held value is rounded to a float that is at most that value.
pub rnd_at_most : (f : Format) (x : Float) (a : Q) → T (fits f x) → T (finite x) → Le a (val x) → T (le (rnd f a) x)
rnd_at_most f x a t p h = float_le_trans (rnd f a) (rnd f (val x)) x (rnd_mono f a (val x) h) (rnd_held f x t p).1
