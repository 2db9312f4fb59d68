-- From the whole part of a value to the whole number above, below or nearest: what the code's comparisons and additions of 1 give. Assumes nothing.
use Rattle.std.proofs.Common.{◌≡◌, ℕ, zero, suc, ◌+◌, ◌-◌, ◌*◌, ◌/◌, ◌%◌, ◌^◌, ◌<◌, ◌≤◌, min, Bool, true, false, cond, ◌&&◌, T, eqb, ltb, leb, ℤ, pos}
use Rattle.std.proofs.Common.{negsuc, neg_ℤ, sym, refl, ap, ◌∙◌, subst, inl, inr, true≢false, le_trans, le_of_eq, lt_of_lt_of_le, le_of_lt}
use Rattle.std.proofs.Common.{mul-le-mul_right, mul_assoc, mul_comm, mul-lt-mul_of_pos_right, mul-pos, one-mul, zero-mul, mul-one, div-le_self}
use Rattle.std.proofs.Common.{mul_right_comm, div-mul-le_self, mul-div_cancel, arith, lit<, eqb→eq, ltb→lt, leb→le, pow_pos, pow-add, ltb-false, ltb-true}
use Rattle.std.proofs.Common.{le-ltb, lt-ltb}
use mathlib.Core.Bool.{false≢true}
use native.Mathlib.Nat.{lt-div-mul-add, div-eq_of_lt-le}
use lib.Ieee.{Float, nan, inf, fin, binary64, up, down, round, sum, add, sub, neg, lt, below, fits, to_signed}
use lib.Ieee.Fits.{down_pos, up_pos, and_l, and_r}
use lib.Ieee.Exact.{HasValue, round_exact}
use lib.Ieee.Back.{round_whole}
use lib.Ieee.Scale.{round_same}
use Rattle.timestamp.specs.Whole.{trunc_of, ceil_of, floor_of}
use Rattle.timestamp.proofs.Basics.{split, not_true}

-- 1.0
abbrev pub one64 : Float
one64 = fin false 1 (pos 0)

unit_le : (u d : ℕ) → 0 < u → u * d ≡ 1 → d ≤ 1
unit_le u d h e = le_trans (le_trans (le_of_eq (sym (one-mul d))) (mul-le-mul_right d h)) (le_of_eq e)

-- a value that binary64 holds has a significand below 2 ^ 53, no digit below 2 ^ -1074, and a magnitude below 2 ^ 1024
pub holds : (s : Bool) (m : ℕ) (e : ℤ) → T (fits binary64 (fin s m e)) → (m < 2 ^ 53) × (down e ≤ 2 ^ 1074) × (m * up e < 2 ^ 1024 * down e)
unfolding fits
holds s zero e h = (
  pow_pos 53,
  le_trans (unit_le (up e) (down e) (up_pos e) (eqb→eq (up e * down e) 1 h)) (pow_pos 1074),
  subst (λ (z : ℕ). z < 2 ^ 1024 * down e) (sym (zero-mul (up e))) (mul-pos (pow_pos 1024) (down_pos e)),
)
holds s (suc m) e h =
    let A = eqb (suc m % 2) 1 in
    let B = ltb (suc m) (2 ^ 53) in
    let C = leb (down e) (2 ^ 1074) in
    let D = ltb (suc m * up e) (2 ^ 1024 * down e) in (
      ltb→lt (suc m) (2 ^ 53) (and_r A B (and_l (A && B) C (and_l (A && B && C) D h))),
      leb→le (down e) (2 ^ 1074) (and_r (A && B) C (and_l (A && B && C) D h)),
      ltb→lt (suc m * up e) (2 ^ 1024 * down e) (and_r (A && B && C) D h),
    )

-- the whole part of a value is rounded to itself
pub whole_val : (s : Bool) (m : ℕ) (e : ℤ) → T (fits binary64 (fin s m e)) → HasValue (round binary64 s (m * up e / down e) 1) s (m * up e / down e) 1
whole_val s m (negsuc k) h =
    let l : m * 1 / 2 ^ suc k ≤ 2 ^ 53 = le_trans (div-le_self (m * 1) (2 ^ suc k)) (le_trans (le_of_eq (mul-one m)) (le_of_lt (holds s m (negsuc k) h).0)) in
    round_whole binary64 s (m * 1 / 2 ^ suc k) l
whole_val s m (pos k) h =
    let w : m * 2 ^ k / 1 ≡ m * 2 ^ k = omega arith in
    let g = holds s m (pos k) h in
    let p : m * 2 ^ (k + 1074) ≡ m * 2 ^ k * 2 ^ 1074 = ap (λ (z : ℕ). m * z) (pow-add 2 k 1074) ∙ sym (mul_assoc m (2 ^ k) (2 ^ 1074)) in
    let r : m * 2 ^ (k + 1074) < 2 ^ (1074 + 1024) =
    subst (λ (z : ℕ). z < 2 ^ (1074 + 1024)) (sym p)
    (lt_of_lt_of_le (mul-lt-mul_of_pos_right (lt_of_lt_of_le g.2 (le_of_eq (mul-one (2 ^ 1024)))) (pow_pos 1074))
    (le_of_eq (mul_comm (2 ^ 1024) (2 ^ 1074)))) in
    subst (λ (z : ℕ). HasValue (round binary64 s z 1) s z 1) (sym w)
    (round_exact binary64 s (m * 2 ^ k) 1 m (k + 1074) (lit< tt) g.0 r (sym p ∙ sym (mul-one (m * 2 ^ (k + 1074)))))

-- a common factor of two numbers does not change their order
pub cancel : (x y d : ℕ) → 0 < d → ltb (x * d) (y * d) ≡ ltb x y
cancel x y d D = elim (split x y) [
  | inl l ↦ lt-ltb (x * d) (y * d) (mul-lt-mul_of_pos_right l D) ∙ sym (lt-ltb x y l)
  | inr l ↦ le-ltb (x * d) (y * d) (mul-le-mul_right d l) ∙ sym (le-ltb x y l)
]

-- n / d is the whole number q, so n c is q c d
pub times : (n q d c : ℕ) → n * 1 ≡ q * d → n * c ≡ q * c * d
times n q d c h = ap (λ (z : ℕ). z * c) (sym (mul-one n) ∙ h) ∙ mul_right_comm q d c

-- a whole number q compared with a value of its sign
lt_left : (t : Float) (s : Bool) (q m : ℕ) (e : ℤ) → HasValue t s q 1 → lt t (fin s m e) ≡ below s (q * down e) s (m * up e)
unfolding lt
lt_left nan s q m e v = absurd v
lt_left (inf t) s q m e v = absurd v
lt_left (fin true n d) true q m e v = ap (λ (z : ℕ). ltb (m * up e * down d) z) (times (n * up d) q (down d) (down e) v.1)
    ∙ cancel (m * up e) (q * down e) (down d) (down_pos d)
lt_left (fin false n d) false q m e v = ap (λ (z : ℕ). ltb z (m * up e * down d)) (times (n * up d) q (down d) (down e) v.1)
    ∙ cancel (q * down e) (m * up e) (down d) (down_pos d)
lt_left (fin true n d) false q m e v = absurd (true≢false v.0)
lt_left (fin false n d) true q m e v = absurd (false≢true v.0)

-- and a value with a whole number
lt_right : (t : Float) (s : Bool) (q m : ℕ) (e : ℤ) → HasValue t s q 1 → lt (fin s m e) t ≡ below s (m * up e) s (q * down e)
unfolding lt
lt_right nan s q m e v = absurd v
lt_right (inf t) s q m e v = absurd v
lt_right (fin true n d) true q m e v = ap (λ (z : ℕ). ltb z (m * up e * down d)) (times (n * up d) q (down d) (down e) v.1)
    ∙ cancel (q * down e) (m * up e) (down d) (down_pos d)
lt_right (fin false n d) false q m e v = ap (λ (z : ℕ). ltb (m * up e * down d) z) (times (n * up d) q (down d) (down e) v.1)
    ∙ cancel (m * up e) (q * down e) (down d) (down_pos d)
lt_right (fin true n d) false q m e v = absurd (true≢false v.0)
lt_right (fin false n d) true q m e v = absurd (false≢true v.0)

more : (n d q : ℕ) → n * 1 ≡ q * d → (n * 1 + 1 * d) * 1 ≡ (q + 1) * (d * 1)
more n d q h = omega arith

-- 1 more in size than the whole number q is q + 1, rounded
pub further : (t : Float) (s : Bool) (q : ℕ) → HasValue t s q 1 → add binary64 t (fin s 1 (pos 0)) ≡ round binary64 s (q + 1) 1
unfolding add sum
further nan s q v = absurd v
further (inf t) s q v = absurd v
further (fin true n d) true q v = round_same binary64 true (n * up d * 1 + 1 * down d) (down d * 1) (q + 1) 1 (mul-pos (down_pos d) (lit< tt)) (lit< tt)
    (more (n * up d) (down d) q v.1)
further (fin false n d) false q v = round_same binary64 false (n * up d * 1 + 1 * down d) (down d * 1) (q + 1) 1 (mul-pos (down_pos d) (lit< tt))
    (lit< tt) (more (n * up d) (down d) q v.1)
further (fin true n d) false q v = absurd (true≢false v.0)
further (fin false n d) true q v = absurd (false≢true v.0)

-- ---- a fraction rounded up: its whole part where nothing is left, and one more where something is
up_none : (a c : ℕ) → 0 < c → a ≤ a / c * c → (a + (c - 1)) / c ≡ a / c
up_none a c C h = div-eq_of_lt-le c (omega (arith, div-mul-le_self a c)) (omega (arith, div-mul-le_self a c))

up_some : (a c : ℕ) → 0 < c → a / c * c < a → (a + (c - 1)) / c ≡ a / c + 1
up_some a c C h = div-eq_of_lt-le c (omega (arith, lt-div-mul-add {a = a} {b = c} C)) (omega (arith, lt-div-mul-add {a = a} {b = c} C))

-- a value above its whole part: its ceiling is one more
pub ceil_more : (x : Float) → T (fits binary64 x) → lt (trunc_of x) x ≡ true → add binary64 (trunc_of x) one64 ≡ ceil_of x
unfolding trunc_of ceil_of lt
ceil_more nan f h = not_true h
ceil_more (inf true) f h = not_true h
ceil_more (inf false) f h = not_true h
ceil_more (fin true m e) f h =
    not_true (sym (le-ltb (m * up e) (m * up e / down e * down e) (div-mul-le_self (m * up e) (down e)))
    ∙ sym (lt_left (round binary64 true (m * up e / down e) 1) true (m * up e / down e) m e (whole_val true m e f)) ∙ h)
ceil_more (fin false m e) f h =
    let v = whole_val false m e f in
    let l = ltb-true (m * up e / down e * down e) (m * up e) (sym (lt_left (round binary64 false (m * up e / down e) 1) false (m * up e / down e) m e v) ∙ h) in
    further (round binary64 false (m * up e / down e) 1) false (m * up e / down e) v
    ∙ ap (λ (z : ℕ). round binary64 false z 1) (sym (up_some (m * up e) (down e) (down_pos e) l))

-- else its ceiling is the whole part
pub ceil_same : (x : Float) → T (fits binary64 x) → lt (trunc_of x) x ≡ false → trunc_of x ≡ ceil_of x
unfolding trunc_of ceil_of lt
ceil_same nan f h = refl
ceil_same (inf s) f h = refl
ceil_same (fin true m e) f h = refl
ceil_same (fin false m e) f h =
    let l = ltb-false (m * up e / down e * down e) (m * up e)
    (sym (lt_left (round binary64 false (m * up e / down e) 1) false (m * up e / down e) m e (whole_val false m e f)) ∙ h) in
    ap (λ (z : ℕ). round binary64 false z 1) (sym (up_none (m * up e) (down e) (down_pos e) l))

-- a value below its whole part: its floor is one less
pub floor_more : (x : Float) → T (fits binary64 x) → lt x (trunc_of x) ≡ true → sub binary64 (trunc_of x) one64 ≡ floor_of x
unfolding trunc_of floor_of lt sub neg
floor_more nan f h = not_true h
floor_more (inf true) f h = not_true h
floor_more (inf false) f h = not_true h
floor_more (fin false m e) f h =
    not_true (sym (le-ltb (m * up e) (m * up e / down e * down e) (div-mul-le_self (m * up e) (down e)))
    ∙ sym (lt_right (round binary64 false (m * up e / down e) 1) false (m * up e / down e) m e (whole_val false m e f)) ∙ h)
floor_more (fin true m e) f h =
    let v = whole_val true m e f in
    let l = ltb-true (m * up e / down e * down e) (m * up e) (sym (lt_right (round binary64 true (m * up e / down e) 1) true (m * up e / down e) m e v) ∙ h) in
    further (round binary64 true (m * up e / down e) 1) true (m * up e / down e) v
    ∙ ap (λ (z : ℕ). round binary64 true z 1) (sym (up_some (m * up e) (down e) (down_pos e) l))

-- else its floor is the whole part
pub floor_same : (x : Float) → T (fits binary64 x) → lt x (trunc_of x) ≡ false → trunc_of x ≡ floor_of x
unfolding trunc_of floor_of lt
floor_same nan f h = refl
floor_same (inf s) f h = refl
floor_same (fin false m e) f h = refl
floor_same (fin true m e) f h =
    let l = ltb-false (m * up e / down e * down e) (m * up e)
    (sym (lt_right (round binary64 true (m * up e / down e) 1) true (m * up e / down e) m e (whole_val true m e f)) ∙ h) in
    ap (λ (z : ℕ). round binary64 true z 1) (sym (up_none (m * up e) (down e) (down_pos e) l))

-- ---- to an integer: the whole part goes where the value goes
signed_at : (h : ℕ) (t : Float) (s : Bool) (q : ℕ) → HasValue t s q 1 → to_signed h t ≡ cond s (neg_ℤ (pos (min q (2 ^ h)))) (pos (min q (2 ^ h - 1)))
unfolding to_signed
signed_at h nan s q v = absurd v
signed_at h (inf t) s q v = absurd v
signed_at h (fin t n d) s q v =
    let e : n * up d / down d ≡ q = ap (λ (z : ℕ). z / down d) (sym (mul-one (n * up d)) ∙ v.1) ∙ mul-div_cancel q (down_pos d) in
    λ i. cond (v.0 i) (neg_ℤ (pos (min (e i) (2 ^ h)))) (pos (min (e i) (2 ^ h - 1)))

-- cutting the whole part to an integer gives what cutting the value gives
pub cut_again : (h : ℕ) (x : Float) → T (fits binary64 x) → to_signed h (trunc_of x) ≡ to_signed h x
unfolding trunc_of to_signed
cut_again h nan f = refl
cut_again h (inf s) f = refl
cut_again h (fin s m e) f = signed_at h (round binary64 s (m * up e / down e) 1) s (m * up e / down e) (whole_val s m e f)
