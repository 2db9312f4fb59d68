-- Signed zeros in the mean: the sum starts at +0.0 and never becomes -0.0, so it does not turn on the signs of the zeros that it adds, nor on their order.
-- Assumes nothing.
use Rattle.std.proofs.Common.{◌≡◌, ℕ, zero, suc, ◌+◌, ◌-◌, ◌*◌, ◌%◌, ◌^◌, ◌<◌, ◌≤◌, Bool, true, false, cond, not, ◌&&◌, ◌||◌, T, eqb, ltb, leb, ◌⊎◌, List}
use Rattle.std.proofs.Common.{[], ◌∷◌, length, take, drop, ℤ, pos, negsuc, sym, refl, ap, ◌∙◌, subst, inl, inr, le_of_lt, mul-le-mul_right, zero-lt-suc}
use Rattle.std.proofs.Common.{mul_assoc, mul_comm, lt_of_mul-lt-mul_right, mul-lt-mul_of_pos_right, mul-pos, one-mul, pow-suc, mul-one, not-le_of_lt}
use Rattle.std.proofs.Common.{mul_left_comm, arith, eqb→eq, ltb→lt, pow_pos, pow-add, le-ltb, lt-ltb, eq-eqb, ne_eqb, eqb-true}
use mathlib.Core.Bool.{false≢true}
use native.Mathlib.Nat.{eq_of_mul-eq-mul_right, pow-succ'}
use lib.Pow.{pow-lt}
use lib.Ieee.{Float, nan, inf, fin, binary64, fits, up, down, round, sum, add, div, of_int, lt, le, eq}
use lib.Ieee.Fits.{and_l, down_pos, up_pos, add-fits}
use lib.Ieee.Scale.{finite, round_same}
use Rattle.timestamp.proofs.Basics.{split}
use Rattle.timestamp.proofs.Whole.{holds}
use Rattle.float_laws.specs.Fractions.{Same, sgn, rnd}
use Rattle.float_laws.proofs.Value.{le_to_val}
use Rattle.float_laws.proofs.Round.{rnd_at_most}
use Rattle.settings.proofs.Discard.{plus, round_plus}
use Rattle.mean.specs.Mean.{sorted_of, inner_of, sum_from, average_of, mean_of}
use Rattle.timestamp.specs.Floats.{zero64}
use Rattle.mean.specs.Order.{All, AllFinite, AllFit, Ordered, Permutes}
use Rattle.mean.proofs.Sort.{AllSame, sorted_permutes, permuted_all, any_order}

-- any value but -0.0
abbrev pub proper : Float → Bool
proper nan = true
proper (inf s) = true
proper (fin s m e) = not (s && eqb m 0)

-- ---- adding a zero

-- a sum of ±A / C and ±0, which is no sum of two zeros with the sign minus
sum_zero : (a s : Bool) (A C : ℕ) → (a ≡ true → 0 < A) → sum binary64 a A s 0 C ≡ round binary64 a A C
unfolding sum
sum_zero true true A C h = ap (λ (n : ℕ). round binary64 true n C) (omega arith)
sum_zero false false A C h = ap (λ (n : ℕ). round binary64 false n C) (omega arith)
sum_zero true false A C h =
    ap (λ (b : Bool). cond b (round binary64 false (0 - A) C) (round binary64 (true && ltb 0 A) (A - 0) C)) (le-ltb A 0 (omega arith))
    ∙ ap (λ (b : Bool). round binary64 (true && b) (A - 0) C) (lt-ltb 0 A (h refl))
    ∙ ap (λ (n : ℕ). round binary64 true n C) (omega arith)
sum_zero false true A C h =
    ap (λ (b : Bool). cond b (round binary64 true (0 - A) C) (round binary64 false (A - 0) C)) (le-ltb A 0 (omega arith))
    ∙ ap (λ (n : ℕ). round binary64 false n C) (omega arith)

proper_some : (m : ℕ) (e : ℤ) → T (proper (fin true m e)) → 0 < m
proper_some zero e p = absurd p
proper_some (suc m) e p = zero-lt-suc m

-- a value that is not -0.0, plus a zero of either sign, is that value rounded
zero_added : (a : Bool) (m : ℕ) (k : ℤ) (s : Bool) (e : ℤ) → T (proper (fin a m k))
    → add binary64 (fin a m k) (fin s 0 e) ≡ round binary64 a (m * up k) (down k)
unfolding add
zero_added a m k s e p =
    ap (λ (n : ℕ). sum binary64 a (m * up k * down e) s n (down k * down e)) (none (up e) (down k))
    ∙ sum_zero a s (m * up k * down e) (down k * down e) (λ h. mul-pos
    (mul-pos (proper_some m k (subst (λ (b : Bool). T (proper (fin b m k))) h p)) (up_pos k)) (down_pos e))
    ∙ round_same binary64 a (m * up k * down e) (down k * down e) (m * up k) (down k) (mul-pos (down_pos k) (down_pos e)) (down_pos k)
    (turn (m * up k) (down e) (down k))
  where
    none : (u d : ℕ) → 0 * u * d ≡ 0
    none u d = omega arith

    turn : (a e k : ℕ) → a * e * k ≡ a * (k * e)
    turn a e k = omega arith

-- so a zero's sign does not matter to it
pub zero_alike : (x : Float) (s t : Bool) (e d : ℤ) → T (proper x) → add binary64 x (fin s 0 e) ≡ add binary64 x (fin t 0 d)
unfolding add
zero_alike nan s t e d p = refl
zero_alike (inf a) s t e d p = refl
zero_alike (fin a m k) s t e d p = zero_added a m k s e p ∙ sym (zero_added a m k t d p)

-- ---- a value has one form

even_odd : (m t : ℕ) → m % 2 ≡ 1 → m ≡ 2 * t → ⊥
even_odd m t o h = omega arith

odd_pow : (m n a b : ℕ) → m % 2 ≡ 1 → n % 2 ≡ 1 → m * 2 ^ a ≡ n * 2 ^ b → (m ≡ n) × (a ≡ b)
odd_pow m n zero zero o p h = (sym (mul-one m) ∙ h ∙ mul-one n, refl)
odd_pow m n zero (suc b) o p h = absurd (even_odd m (n * 2 ^ b) o (sym (mul-one m) ∙ h ∙ ap (λ (x : ℕ). n * x) (pow-succ' 2 b) ∙ mul_left_comm n 2 (2 ^ b)))
odd_pow m n (suc a) zero o p h = absurd (even_odd n (m * 2 ^ a) p (sym (mul-one n) ∙ sym h ∙ ap (λ (x : ℕ). m * x) (pow-succ' 2 a) ∙ mul_left_comm m 2 (2 ^ a)))
odd_pow m n (suc a) (suc b) o p h =
    let r = odd_pow m n a b o p (eq_of_mul-eq-mul_right 2 (zero-lt-suc 1) (m * 2 ^ a) (n * 2 ^ b)
    (mul_assoc m (2 ^ a) 2 ∙ ap (λ (x : ℕ). m * x) (sym (pow-suc 2 a)) ∙ h ∙ ap (λ (x : ℕ). n * x) (pow-suc 2 b) ∙ sym (mul_assoc n (2 ^ b) 2))) in
    (r.0, ap suc r.1)

is_odd : (s : Bool) (m : ℕ) (e : ℤ) → T (fits binary64 (fin s (suc m) e)) → suc m % 2 ≡ 1
unfolding fits
is_odd s m e t =
    eqb→eq (suc m % 2) 1 (and_l (eqb (suc m % 2) 1) (ltb (suc m) (2 ^ 53)) (and_l (eqb (suc m % 2) 1 && ltb (suc m) (2 ^ 53)) (leb (down e) (2 ^ 1074))
    (and_l (eqb (suc m % 2) 1 && ltb (suc m) (2 ^ 53) && leb (down e) (2 ^ 1074)) (ltb (suc m * up e) (2 ^ 1024 * down e)) t)))

-- odd significands of one value are equal, and so are the exponents
odd_form : (m n : ℕ) (e d : ℤ) → m % 2 ≡ 1 → n % 2 ≡ 1 → m * up e * down d ≡ n * up d * down e → (m ≡ n) × (e ≡ d)
odd_form m n (pos k) (pos j) o p h =
    let r = odd_pow m n k j o p (sym (mul-one (m * 2 ^ k)) ∙ h ∙ mul-one (n * 2 ^ j)) in (r.0, ap pos r.1)
odd_form m n (negsuc k) (negsuc j) o p h =
    let r = odd_pow m n (suc j) (suc k) o p (ap (λ (z : ℕ). z * 2 ^ suc j) (sym (mul-one m)) ∙ h ∙ ap (λ (z : ℕ). z * 2 ^ suc k) (mul-one n)) in
    (r.0, ap negsuc (omega (arith, r.1)))
odd_form m n (pos k) (negsuc j) o p h =
    let r = odd_pow m n (k + suc j) 0 o p (ap (λ (z : ℕ). m * z) (pow-add 2 k (suc j)) ∙ sym (mul_assoc m (2 ^ k) (2 ^ suc j)) ∙ h ∙ mul-one (n * 1)) in
    absurd (omega (arith, r.1))
odd_form m n (negsuc k) (pos j) o p h =
    let r = odd_pow m n 0 (j + suc k) o p (sym (mul-one (m * 1)) ∙ h ∙ mul_assoc n (2 ^ j) (2 ^ suc k)
    ∙ ap (λ (z : ℕ). n * z) (sym (pow-add 2 j (suc k)))) in absurd (omega (arith, r.1))

two_up : (p : ℕ) → 0 < p → 2 * p ≡ 1 → ⊥
two_up p h e = omega arith

flat : (e : ℤ) → up e * down e ≡ 1 → e ≡ pos 0
flat (pos zero) h = refl
flat (pos (suc k)) h = absurd (two_up (2 ^ k) (pow_pos k) (sym (pow-succ' 2 k) ∙ sym (mul-one (2 ^ suc k)) ∙ h))
flat (negsuc k) h = absurd (two_up (2 ^ k) (pow_pos k) (sym (pow-succ' 2 k) ∙ sym (one-mul (2 ^ suc k)) ∙ h))

zero_exp : (s : Bool) (e : ℤ) → T (fits binary64 (fin s zero e)) → e ≡ pos 0
unfolding fits
zero_exp s e t = flat e (eqb→eq (up e * down e) 1 t)

one_form : (s : Bool) (m n : ℕ) (e d : ℤ) → T (fits binary64 (fin s m e)) → T (fits binary64 (fin s n d)) → m * up e * down d ≡ n * up d * down e
    → fin s m e ≡ fin s n d
one_form s zero zero e d f g h = ap (λ (z : ℤ). fin s zero z) (zero_exp s e f ∙ sym (zero_exp s d g))
one_form s zero (suc n) e d f g h = absurd (none (zero * up e * down d) (suc n * up d * down e) (zeros (up e) (down d)) h
    (mul-pos (mul-pos (zero-lt-suc n) (up_pos d)) (down_pos e)))
  where
    zeros : (u d : ℕ) → 0 * u * d ≡ 0
    zeros u d = omega arith

    none : (a b : ℕ) → a ≡ 0 → a ≡ b → 0 < b → ⊥
    none a b z e p = omega arith
one_form s (suc m) zero e d f g h = absurd (none (suc m * up e * down d) (zero * up d * down e) (zeros (up d) (down e)) h
    (mul-pos (mul-pos (zero-lt-suc m) (up_pos e)) (down_pos d)))
  where
    zeros : (u d : ℕ) → 0 * u * d ≡ 0
    zeros u d = omega arith

    none : (a b : ℕ) → b ≡ 0 → a ≡ b → 0 < a → ⊥
    none a b z e p = omega arith
one_form s (suc m) (suc n) e d f g h =
    let r = odd_form (suc m) (suc n) e d (is_odd s m e f) (is_odd s n d g) h in
    λ i. fin s (r.0 i) (r.1 i)

-- ---- equal values: one value, or two zeros

is_zero : Float → Bool
is_zero nan = false
is_zero (inf s) = false
is_zero (fin s m e) = eqb m 0

no_size : (m u d : ℕ) → 0 < u → 0 < d → m * u * d ≡ 0 → m ≡ 0
no_size zero u d U D h = refl
no_size (suc m) u d U D h = absurd (some (suc m * u * d) h (mul-pos (mul-pos (zero-lt-suc m) U) D))
  where
    some : (a : ℕ) → a ≡ 0 → 0 < a → ⊥
    some a e p = omega arith

equal_cases : (x y : Float) → T (fits binary64 x) → T (fits binary64 y) → T (finite x) → T (finite y) → Same x y
    → (x ≡ y) ⊎ ((is_zero x ≡ true) × (is_zero y ≡ true))
unfolding is_zero
equal_cases nan y f g p q s = absurd p
equal_cases (inf t) y f g p q s = absurd p
equal_cases (fin a m e) nan f g p q s = absurd q
equal_cases (fin a m e) (inf t) f g p q s = absurd q
equal_cases (fin false m e) (fin false n d) f g p q s = inl (one_form false m n e d f g
    (cross (m * up e) (n * up d) (down e) (down d) (le_to_val (fin false m e) (fin false n d) tt tt s.0)
    (le_to_val (fin false n d) (fin false m e) tt tt s.1)))
  where
    cross : (a b e d : ℕ) → a * d + 0 * e ≤ b * e + 0 * d → b * e + 0 * d ≤ a * d + 0 * e → a * d ≡ b * e
    cross a b e d h k = omega arith
equal_cases (fin true m e) (fin true n d) f g p q s = inl (one_form true m n e d f g
    (cross (m * up e) (n * up d) (down e) (down d) (le_to_val (fin true m e) (fin true n d) tt tt s.0)
    (le_to_val (fin true n d) (fin true m e) tt tt s.1)))
  where
    cross : (a b e d : ℕ) → 0 * d + b * e ≤ 0 * e + a * d → 0 * e + a * d ≤ 0 * d + b * e → a * d ≡ b * e
    cross a b e d h k = omega arith
equal_cases (fin false m e) (fin true n d) f g p q s =
    let h = le_to_val (fin false m e) (fin true n d) tt tt s.0 in
    inr (
      eq-eqb m 0 (no_size m (up e) (down d) (up_pos e) (down_pos d) (first (m * up e) (n * up d) (down e) (down d) h)),
      eq-eqb n 0
          (no_size n (up d) (down e) (up_pos d) (down_pos e) (second (m * up e) (n * up d) (down e) (down d) h)),
    )
  where
    first : (a b e d : ℕ) → a * d + b * e ≤ 0 * e + 0 * d → a * d ≡ 0
    first a b e d h = omega arith

    second : (a b e d : ℕ) → a * d + b * e ≤ 0 * e + 0 * d → b * e ≡ 0
    second a b e d h = omega arith
equal_cases (fin true m e) (fin false n d) f g p q s =
    let h = le_to_val (fin false n d) (fin true m e) tt tt s.1 in
    inr (
      eq-eqb m 0 (no_size m (up e) (down d) (up_pos e) (down_pos d) (second (n * up d) (m * up e) (down d) (down e) h)),
      eq-eqb n 0
          (no_size n (up d) (down e) (up_pos d) (down_pos e) (first (n * up d) (m * up e) (down d) (down e) h)),
    )
  where
    first : (a b e d : ℕ) → a * d + b * e ≤ 0 * e + 0 * d → a * d ≡ 0
    first a b e d h = omega arith

    second : (a b e d : ℕ) → a * d + b * e ≤ 0 * e + 0 * d → b * e ≡ 0
    second a b e d h = omega arith

-- adding either of two equal values to what is not -0.0 gives one sum
add_alike : (t x y : Float) → T (proper t) → T (fits binary64 x) → T (fits binary64 y) → T (finite x) → T (finite y) → Same x y
    → add binary64 t x ≡ add binary64 t y
unfolding is_zero
add_alike t x y p f g h k s = elim (equal_cases x y f g h k s) [
  | inl e ↦ ap (add binary64 t) e
  | inr z ↦ zeros x y z.0 z.1
]
  where
    at : (a b : Bool) (m n : ℕ) (e d : ℤ) → m ≡ 0 → n ≡ 0 → add binary64 t (fin a m e) ≡ add binary64 t (fin b n d)
    at a b m n e d v w = ap (λ (k : ℕ). add binary64 t (fin a k e)) v ∙ zero_alike t a b e d p ∙ ap (λ (k : ℕ). add binary64 t (fin b k d)) (sym w)

    zeros : (x y : Float) → is_zero x ≡ true → is_zero y ≡ true → add binary64 t x ≡ add binary64 t y
    zeros nan y v w = absurd (false≢true v)
    zeros (inf a) y v w = absurd (false≢true v)
    zeros (fin a m e) nan v w = absurd (false≢true w)
    zeros (fin a m e) (inf b) v w = absurd (false≢true w)
    zeros (fin a m e) (fin b n d) v w = at a b m n e d (eqb-true m 0 v) (eqb-true n 0 w)

-- ---- no sum becomes -0.0

plus_proper : (x : Float) → T (plus x) → T (proper x)
plus_proper nan p = tt
plus_proper (inf s) p = tt
plus_proper (fin true m e) p = absurd p
plus_proper (fin false m e) p = tt

-- the least value above 0, with the sign minus
abbrev tiny : Float
tiny = fin true 1 (negsuc 1073)

below_tiny : (x : Float) → T (le x tiny) → T (proper x)
unfolding le lt eq
below_tiny nan h = tt
below_tiny (inf s) h = tt
below_tiny (fin false m e) h = tt
below_tiny (fin true zero e) h = absurd (none (0 * up e * 2 ^ 1074) (1 * 1 * down e) (zeros (up e) (2 ^ 1074)) (omega (arith, down_pos e)) h)
  where
    zeros : (u d : ℕ) → 0 * u * d ≡ 0
    zeros u d = omega arith

    none : (a b : ℕ) → a ≡ 0 → 0 < b → T (ltb b a || (eqb a b && (true || eqb a 0))) → ⊥
    none a b z p t = go (ltb b a) (eqb a b) (ltb→lt b a) (eqb→eq a b) t
      where
        go : (x y : Bool) → (T x → b < a) → (T y → a ≡ b) → T (x || (y && true)) → ⊥
        go true y f g t = omega (arith, f tt)
        go false true f g t = omega (arith, g tt)
        go false false f g t = t
below_tiny (fin true (suc m) e) h = subst (λ (b : Bool). T (not b)) (sym (ne_eqb (suc m) 0 (omega arith))) tt

-- a negative fraction of at least one unit of 2^-1074 is not rounded to -0.0
round_proper : (N C : ℕ) → 0 < C → C ≤ N * 2 ^ 1074 → T (proper (round binary64 true N C))
unfolding rnd fits
round_proper N C P h =
    let l = rnd_at_most binary64 tiny (sgn true N C P) tt tt (crossed N C (2 ^ 1074) h) in
    below_tiny (round binary64 true N C) (subst (λ (x : Float). T (le x tiny)) (is N C (some N C (2 ^ 1074) P h)) l)
  where
    crossed : (N C U : ℕ) → C ≤ N * U → 0 * U + 1 * 1 * C ≤ 0 * C + N * U
    crossed N C U h = omega arith

    some : (N C U : ℕ) → 0 < C → C ≤ N * U → 0 < N
    some zero C U P h = absurd (omega arith)
    some (suc N) C U P h = zero-lt-suc N

    is : (N C : ℕ) → 0 < N → cond (ltb 0 N) (round binary64 true (N - 0) C) (round binary64 false (0 - N) C) ≡ round binary64 true N C
    is N C h = ap (λ (b : Bool). cond b (round binary64 true (N - 0) C) (round binary64 false (0 - N) C)) (lt-ltb 0 N h)
        ∙ ap (λ (n : ℕ). round binary64 true n C) (omega arith)

-- a value in units of 2^-1074
units_of_lem : (s : Bool) (m : ℕ) (e : ℤ) → T (fits binary64 (fin s m e)) → (M : ℕ) × (m * up e * 2 ^ 1074 ≡ M * down e)
units_of_lem s m (pos k) f = (m * 2 ^ k * 2 ^ 1074, sym (mul-one (m * 2 ^ k * 2 ^ 1074)))
units_of_lem s m (negsuc k) f =
    let K : suc k ≤ 1074 = small (suc k) 1074 (holds s m (negsuc k) f).1 in
    let j = 1074 - suc k in
    let J : j + suc k ≡ 1074 = omega arith in (
      m * 2 ^ j,
      ap (λ (z : ℕ). z * 2 ^ 1074) (mul-one m) ∙ ap (λ (z : ℕ). m * 2 ^ z) (sym J) ∙ ap (λ (z : ℕ). m * z) (pow-add 2 j (suc k))
          ∙ sym (mul_assoc m (2 ^ j) (2 ^ suc k)),
    )
  where
    small : (a b : ℕ) → 2 ^ a ≤ 2 ^ b → a ≤ b
    small a b h = elim (split b a) [ inl l ↦ absurd (not-le_of_lt (pow-lt {i = b} {j = a} l) h) | inr l ↦ l ]

-- a difference of two values that is not 0 is at least one unit
apart_by_unit : (a b c d M N : ℕ) → 0 < c → 0 < d → a * 2 ^ 1074 ≡ M * c → b * 2 ^ 1074 ≡ N * d → a * d < b * c → c * d ≤ (b * c - a * d) * 2 ^ 1074
apart_by_unit a b c d M N C D p q h = go (2 ^ 1074) (pow_pos 1074) p q
  where
    difference : (b a u : ℕ) → a ≤ b → (b - a) * u + a * u ≡ b * u
    difference b a u h =
        let v = b - a in
        let e : v + a ≡ b = omega arith in
        omega (arith, ap (λ (z : ℕ). z * u) e)

    go : (U : ℕ) → 0 < U → a * U ≡ M * c → b * U ≡ N * d → c * d ≤ (b * c - a * d) * U
    go U P p q =
        let x : a * d * U ≡ M * (c * d) = omega (arith, ap (λ (z : ℕ). z * d) p) in
        let y : b * c * U ≡ N * (c * d) = omega (arith, ap (λ (z : ℕ). z * c) q) in
        let l : M * (c * d) < N * (c * d) = subst (λ (z : ℕ). z < N * (c * d)) x (subst (λ (z : ℕ). a * d * U < z) y (mul-lt-mul_of_pos_right h P)) in
        let k : M < N = lt_of_mul-lt-mul_right (c * d) l in
        let w : (M + 1) * (c * d) ≤ N * (c * d) = mul-le-mul_right (c * d) (omega arith) in
        let t : (b * c - a * d) * U + a * d * U ≡ b * c * U = difference (b * c) (a * d) U (le_of_lt h) in
        omega (arith, x, y, w, t)

one_unit : (m u c d n : ℕ) → 0 < m → 0 < u → c ≤ 2 ^ 1074 → c * d ≤ (m * u * d + n) * 2 ^ 1074
one_unit m u c d n M U h = go (2 ^ 1074) h
  where
    go : (P : ℕ) → c ≤ P → c * d ≤ (m * u * d + n) * P
    go P h =
        let a = mul-le-mul_right d h in
        let b : 1 ≤ m * u = mul-pos M U in
        let e = mul-le-mul_right (d * P) b in
        omega (arith, a, e)

proper_sum : (a : Bool) (m : ℕ) (k : ℤ) (s : Bool) (n : ℕ) (d : ℤ) → T (fits binary64 (fin a m k)) → T (fits binary64 (fin s n d))
    → T (proper (fin a m k)) → T (proper (sum binary64 a (m * up k * down d) s (n * up d * down k) (down k * down d)))
unfolding sum
proper_sum false m k false n d f g p = plus_proper (round binary64 false (m * up k * down d + n * up d * down k) (down k * down d))
    (round_plus binary64 (m * up k * down d + n * up d * down k) (down k * down d))
proper_sum true m k true n d f g p = round_proper (m * up k * down d + n * up d * down k) (down k * down d) (mul-pos (down_pos k) (down_pos d))
    (one_unit m (up k) (down k) (down d) (n * up d * down k) (proper_some m k p) (up_pos k) (holds true m k f).1)
proper_sum false m k true n d f g p = go (ltb (m * up k * down d) (n * up d * down k)) (ltb→lt (m * up k * down d) (n * up d * down k))
  where
    go : (b : Bool) → (T b → m * up k * down d < n * up d * down k)
        → T (proper (cond b (round binary64 true (n * up d * down k - m * up k * down d) (down k * down d))
        (round binary64 false (m * up k * down d - n * up d * down k) (down k * down d))))
    go true h =
        let M = units_of_lem false m k f in
        let N = units_of_lem true n d g in
        round_proper (n * up d * down k - m * up k * down d) (down k * down d) (mul-pos (down_pos k) (down_pos d))
        (apart_by_unit (m * up k) (n * up d) (down k) (down d) M.0 N.0 (down_pos k) (down_pos d) M.1 N.1 (h tt))
    go false h = plus_proper (round binary64 false (m * up k * down d - n * up d * down k) (down k * down d))
        (round_plus binary64 (m * up k * down d - n * up d * down k) (down k * down d))
proper_sum true m k false n d f g p = go (ltb (m * up k * down d) (n * up d * down k)) (ltb (n * up d * down k) (m * up k * down d))
    (ltb→lt (n * up d * down k) (m * up k * down d))
  where
    go : (b c : Bool) → (T c → n * up d * down k < m * up k * down d)
        → T (proper (cond b (round binary64 false (n * up d * down k - m * up k * down d) (down k * down d))
        (round binary64 (true && c) (m * up k * down d - n * up d * down k) (down k * down d))))
    go true c h = plus_proper (round binary64 false (n * up d * down k - m * up k * down d) (down k * down d))
        (round_plus binary64 (n * up d * down k - m * up k * down d) (down k * down d))
    go false false h = plus_proper (round binary64 false (m * up k * down d - n * up d * down k) (down k * down d))
        (round_plus binary64 (m * up k * down d - n * up d * down k) (down k * down d))
    go false true h =
        let M = units_of_lem true m k f in
        let N = units_of_lem false n d g in
        round_proper (m * up k * down d - n * up d * down k) (down k * down d) (mul-pos (down_pos k) (down_pos d))
        (subst (λ (c : ℕ). c ≤ (m * up k * down d - n * up d * down k) * 2 ^ 1074) (mul_comm (down d) (down k))
        (apart_by_unit (n * up d) (m * up k) (down d) (down k) N.0 M.0 (down_pos d) (down_pos k) N.1 M.1 (h tt)))

-- what is not -0.0 does not become -0.0 by adding a finite value
pub never_minus_zero : (t x : Float) → T (proper t) → T (fits binary64 t) → T (fits binary64 x) → T (finite x) → T (proper (add binary64 t x))
unfolding add
never_minus_zero nan x p f g q = tt
never_minus_zero (inf s) nan p f g q = tt
never_minus_zero (inf s) (inf t) p f g q = absurd q
never_minus_zero (inf s) (fin t n d) p f g q = tt
never_minus_zero (fin a m k) nan p f g q = tt
never_minus_zero (fin a m k) (inf t) p f g q = tt
never_minus_zero (fin a m k) (fin s n d) p f g q = proper_sum a m k s n d f g p

-- ---- the mean

-- lists of equal samples have one sum, from what is not -0.0
sum_alike : (t : Float) (xs ys : List Float) → T (proper t) → T (fits binary64 t) → AllFit xs → AllFit ys → AllFinite xs → AllFinite ys → AllSame xs ys
    → sum_from t xs ≡ sum_from t ys
unfolding sum_from
sum_alike t [] [] p f a b c d s = refl
sum_alike t [] (y ∷ ys) p f a b c d s = absurd s
sum_alike t (x ∷ xs) [] p f a b c d s = absurd s
sum_alike t (x ∷ xs) (y ∷ ys) p f a b c d s =
    ap (λ (z : Float). sum_from z xs) (add_alike t x y p a.0 b.0 c.0 d.0 s.0)
    ∙ sum_alike (add binary64 t y) xs ys (never_minus_zero t y p f b.0 d.0) (add-fits binary64 t y) a.1 b.1 c.1 d.1 s.1

same-take : (n : ℕ) (xs ys : List Float) → AllSame xs ys → AllSame (take n xs) (take n ys)
same-take zero xs ys s = tt
same-take (suc n) [] [] s = tt
same-take (suc n) [] (y ∷ ys) s = absurd s
same-take (suc n) (x ∷ xs) [] s = absurd s
same-take (suc n) (x ∷ xs) (y ∷ ys) s = (s.0, same-take n xs ys s.1)

same_drop : (n : ℕ) (xs ys : List Float) → AllSame xs ys → AllSame (drop n xs) (drop n ys)
same_drop zero xs ys s = s
same_drop (suc n) [] [] s = tt
same_drop (suc n) [] (y ∷ ys) s = absurd s
same_drop (suc n) (x ∷ xs) [] s = absurd s
same_drop (suc n) (x ∷ xs) (y ∷ ys) s = same_drop n xs ys s.1

same_length : (xs ys : List Float) → AllSame xs ys → length xs ≡ length ys
same_length [] [] s = refl
same_length [] (y ∷ ys) s = absurd s
same_length (x ∷ xs) [] s = absurd s
same_length (x ∷ xs) (y ∷ ys) s = ap suc (same_length xs ys s.1)

all_take : (p : Float → Type 0) (n : ℕ) (xs : List Float) → All p xs → All p (take n xs)
all_take p zero xs a = tt
all_take p (suc n) [] a = tt
all_take p (suc n) (x ∷ xs) a = (a.0, all_take p n xs a.1)

all_drop : (p : Float → Type 0) (n : ℕ) (xs : List Float) → All p xs → All p (drop n xs)
all_drop p zero xs a = a
all_drop p (suc n) [] a = tt
all_drop p (suc n) (x ∷ xs) a = all_drop p n xs a.1

all_inner : (p : Float → Type 0) (d : ℕ) (xs : List Float) → All p xs → All p (inner_of d xs)
all_inner p d xs a = all_drop p d (take (length xs - d) xs) (all_take p (length xs - d) xs a)

inner_same : (d : ℕ) (xs ys : List Float) → AllSame xs ys → AllSame (inner_of d xs) (inner_of d ys)
inner_same d xs ys s =
    let e = same_length xs ys s in
    same_drop d (take (length xs - d) xs) (take (length ys - d) ys)
    (subst (λ (n : ℕ). AllSame (take (length xs - d) xs) (take (n - d) ys)) e (same-take (length xs - d) xs ys s))

-- lists of equal samples have one mean, the zeros' signs left aside
average_alike : (xs ys : List Float) → AllFit xs → AllFit ys → AllFinite xs → AllFinite ys → AllSame xs ys → average_of xs ≡ average_of ys
unfolding average_of fits
average_alike xs ys a b c d s =
    ap (λ (t : Float). div binary64 t (of_int binary64 (pos (length xs)))) (sum_alike zero64 xs ys tt tt a b c d s)
    ∙ ap (λ (n : ℕ). div binary64 (sum_from zero64 ys) (of_int binary64 (pos n))) (same_length xs ys s)

-- the mean does not turn on how a sort leaves equal samples, -0.0 and +0.0 among them: any ordered permutation of the samples has it
pub mean_of_any_order : (d : ℕ) (xs ys : List Float) → AllFit xs → AllFinite xs → Permutes xs ys → Ordered ys → average_of (inner_of d ys) ≡ mean_of d xs
unfolding mean_of
mean_of_any_order d xs ys a c p o =
    let fit : Float → Type 0 = λ x. T (fits binary64 x) in
    let number : Float → Type 0 = λ x. T (finite x) in
    let q = sorted_permutes xs in
    average_alike (inner_of d ys) (inner_of d (sorted_of xs))
    (all_inner fit d ys (permuted_all fit p a)) (all_inner fit d (sorted_of xs) (permuted_all fit q a))
    (all_inner number d ys (permuted_all number p c)) (all_inner number d (sorted_of xs) (permuted_all number q c))
    (inner_same d ys (sorted_of xs) (any_order xs ys c p o))
