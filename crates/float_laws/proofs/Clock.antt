-- The clock: the mean of samples, the offset of a clock message, and the request timer.
use mathlib.Core.Path.{◌≡◌, refl, sym, ap, ◌∙◌, subst}
use mathlib.Core.List.{List, [], ◌∷◌}
use Prim.Native.Nat.{ℕ, zero, suc, ◌+◌, ◌-◌, ◌*◌, ◌≤◌, ◌<◌, ◌^◌, zero-le}
use native.Mathlib.Nat.{le_trans, le_of_eq, le_of_lt, mul-le-mul_right, lt_of_mul-lt-mul_right, mul_assoc, mul-one, zero-mul, mul-le-mul_left, lt_of_le_of_lt}
use native.Mathlib.Nat.{mul-le-mul}
use native.Mathlib.Omega.{arith}
use mathlib.Core.Bool.{Bool, true, false, not}
use lib.IntN.{ℤ, pos, negsuc}
use lib.ListN.{length}
use lib.Dec.{T, leb, leb→le, nleb→lt, lit<}
use lib.Pow.{le_ones, pow-add, pow_pos, pow_mono}
use lib.Ieee.{Float, nan, inf, fin, up, down, binary64, round, fits, add, sub, div, of_int}
use lib.Ieee.Back.{round_whole}
use lib.Ieee.Digits.{back}
use lib.Ieee.Exact.{HasValue}
use lib.Ieee.Positive.{den}
use lib.Ieee.Scale.{finite}
use Rattle.float_laws.specs.Fractions.{Q, add_q, pnum, nnum, val, sgn, rnd}
use Rattle.float_laws.specs.Bounds.{Within}
use Rattle.timestamp.specs.Floats.{zero64, two64}
use Rattle.float_laws.proofs.Order.{float_le_trans, between_finite}
use Rattle.float_laws.proofs.Round.{rnd_mono, fits_bounds}
use Rattle.float_laws.proofs.Operations.{add_is_rounded}
use Rattle.float_laws.proofs.Within.{within_widen, within_low, within_high, zero_within, add_within, sub_within, div_within}

-- ---- the mean of samples

-- The sum of a list of floats, from the left, each addition rounded.
abbrev pub sum_up : Float → List Float → Float
sum_up acc [] = acc
sum_up acc (x ∷ xs) = sum_up (add binary64 acc x) xs

-- Each float of the list is within n.
abbrev pub AllWithin : ℕ → List Float → Type 0
AllWithin n [] = Unit {0}
AllWithin n (x ∷ xs) = Within x n × AllWithin n xs

-- k samples are in the sum already.
sum_within : (B : ℕ) (xs : List Float) (sum : Float) (k : ℕ) → (k + length xs) * B < 2 ^ 53 → Within sum (k * B) → AllWithin B xs
    → Within (sum_up sum xs) ((k + length xs) * B)
sum_within B [] sum k s a h = within_widen sum (k * B) ((k + 0) * B) (omega arith) a
sum_within B (x ∷ xs) sum k s a h =
    let next = add binary64 sum x in
    let b = within_widen next (k * B + B) (suc k * B) (omega arith) (add_within sum x (k * B) B (lt_of_le_of_lt (omega arith) s) a h.0) in
    within_widen (sum_up next xs) ((suc k + length xs) * B) ((k + suc (length xs)) * B) (omega arith) (sum_within B xs next (suc k) (omega (arith, s)) b h.1)

-- A whole number up to 2 ^ 53 is converted exactly.
of_int_val : (n : ℕ) → n ≤ 2 ^ 53 → HasValue (of_int binary64 (pos n)) false n 1
unfolding of_int
of_int_val n h = round_whole binary64 false n h

-- The mean of 1 to 64 samples that are each within 2 ^ 33 is within 2 ^ 33, each rounding included.
pub mean_within : (xs : List Float) → 0 < length xs → length xs ≤ 64 → AllWithin (2 ^ 33) xs
    → Within (div binary64 (sum_up zero64 xs) (of_int binary64 (pos (length xs)))) (2 ^ 33)
mean_within xs h k a =
    let n = length xs in
    div_within (sum_up zero64 xs) (of_int binary64 (pos n)) n _ (lit< tt) h (of_int_val n (omega arith))
    (within_widen (sum_up zero64 xs) ((0 + n) * 2 ^ 33) _ (omega arith) (sum_within (2 ^ 33) xs zero64 0 (omega arith) (zero_within (0 * 2 ^ 33)) a))

-- ---- the offset of a clock message

-- Of times within 2 ^ 32, the offset s - (a + b) / 2 is within 2 ^ 33, each rounding included.
pub offset_within : (a b s : Float) → Within a (2 ^ 32) → Within b (2 ^ 32) → Within s (2 ^ 32)
    → Within (sub binary64 s (div binary64 (add binary64 a b) two64)) (2 ^ 33)
offset_within a b s h k l =
    sub_within s (div binary64 (add binary64 a b) two64) (2 ^ 32) (2 ^ 32) (lit< tt) l
    (div_within (add binary64 a b) two64 2 (2 ^ 32) (lit< tt) (lit< tt) (refl, refl) (add_within a b (2 ^ 32) (2 ^ 32) (lit< tt) h k))

-- ---- the request timer

-- The largest binary64 value.
largest : ℕ
largest = (2 ^ 53 - 1) * 2 ^ 971

one_le : (a b : ℕ) → 0 < b → a ≤ a * b
one_le a b h = le_trans (le_of_eq (sym (mul-one a))) (mul-le-mul_left a h)

-- A value of the format is at most the largest.
max-at : (m : ℕ) (e : ℤ) → m < 2 ^ 53 → m * up e < 2 ^ 1024 * down e → m * up e ≤ largest * down e
unfolding largest
max-at m (pos k) a c = le_trans (go (leb k 971) (leb→le k 971) (nleb→lt k 971)) (le_of_eq (sym (mul-one ((2 ^ 53 - 1) * 2 ^ 971))))
  where
    go : (b : Bool) → (T b → k ≤ 971) → (T (not b) → 971 < k) → m * 2 ^ k ≤ (2 ^ 53 - 1) * 2 ^ 971
    go true h i = mul-le-mul (le_ones 53 a) (pow_mono (h tt))
    go false h i =
        let j = k - 971 in
        let J : j + 971 ≡ k = back k 971 (le_of_lt (i tt)) in
        let P : 2 ^ j * 2 ^ 971 ≡ 2 ^ k = sym (pow-add 2 j 971) ∙ ap (λ (x : ℕ). 2 ^ x) J in
        let E : m * 2 ^ k ≡ m * 2 ^ j * 2 ^ 971 = ap (λ (x : ℕ). m * x) (sym P) ∙ sym (mul_assoc m (2 ^ j) (2 ^ 971)) in
        let B : 2 ^ 1024 * 1 ≡ 2 ^ 53 * 2 ^ 971 = refl in
        let L : m * 2 ^ j * 2 ^ 971 < 2 ^ 53 * 2 ^ 971 = subst (λ (x : ℕ). x < 2 ^ 53 * 2 ^ 971) E (subst (λ (x : ℕ). m * 2 ^ k < x) B c) in
        subst (λ (x : ℕ). x ≤ (2 ^ 53 - 1) * 2 ^ 971) (sym E) (mul-le-mul_right (2 ^ 971) (le_ones 53 (lt_of_mul-lt-mul_right (2 ^ 971) L)))
max-at m (negsuc k) a c =
    le_trans (le_of_eq (mul-one m)) (le_trans (le_ones 53 a) (le_trans (one_le (2 ^ 53 - 1) (2 ^ 971) (lit< tt))
    (one_le ((2 ^ 53 - 1) * 2 ^ 971) (2 ^ suc k) (pow_pos (suc k)))))

max_says : (s : Bool) (m : ℕ) (e : ℤ) → T (fits binary64 (fin s m e)) → m * up e ≤ largest * down e
max_says s zero e t = le_trans (le_of_eq (zero-mul (up e))) zero-le
max_says s (suc m) e t = let h = fits_bounds binary64 s m e t in max-at (suc m) e h.0 h.2

pnum_largest : (x : Float) → T (fits binary64 x) → T (finite x) → pnum x ≤ largest * den x
pnum_largest nan t p = absurd p
pnum_largest (inf s) t p = absurd p
pnum_largest (fin false m e) t p = max_says false m e t
pnum_largest (fin true m e) t p = zero-le

nnum_largest : (x : Float) → T (fits binary64 x) → T (finite x) → nnum x ≤ largest * den x
nnum_largest nan t p = absurd p
nnum_largest (inf s) t p = absurd p
nnum_largest (fin true m e) t p = max_says true m e t
nnum_largest (fin false m e) t p = zero-le

-- The largest value plus 2 ^ 53, or its negative: still rounded to a finite value.
abbrev edge : Bool → Q
edge s = sgn s (largest + 2 ^ 53) 1 (pow_pos 0)

edge_finite : (s : Bool) → T (finite (rnd binary64 (edge s)))
unfolding rnd round largest
edge_finite true = tt
edge_finite false = tt

-- A finite binary64 value plus a number within 2 ^ 53 does not overflow.
pub add_finite : (x y : Float) → T (fits binary64 x) → T (finite x) → Within y (2 ^ 53) → T (finite (add binary64 x y))
add_finite x y t p w =
    let q = add_q (val x) (val y) in
    let s = add_is_rounded binary64 x y p w.0 in
    between_finite (rnd binary64 (edge true)) (add binary64 x y) (rnd binary64 (edge false)) (edge_finite true) (edge_finite false)
    (float_le_trans (rnd binary64 (edge true)) (rnd binary64 q) (add binary64 x y)
    (rnd_mono binary64 (edge true) q (low_side largest (2 ^ 53) (pnum x) (nnum x) (den x) (pnum y) (nnum y) (den y) (nnum_largest x t p)
    (within_low y (2 ^ 53) w))) s.1)
    (float_le_trans (add binary64 x y) (rnd binary64 q) (rnd binary64 (edge false)) s.0
    (rnd_mono binary64 q (edge false) (high_side largest (2 ^ 53) (pnum x) (nnum x) (den x) (pnum y) (nnum y) (den y) (pnum_largest x t p)
    (within_high y (2 ^ 53) w))))
  where
    low_side : (M k p n d q m e : ℕ) → n ≤ M * d → m ≤ q + k * e → 0 * (d * e) + (n * e + m * d) * 1 ≤ (p * e + q * d) * 1 + (M + k) * (d * e)
    low_side M k p n d q m e h i = let u = mul-le-mul_right e h in let v = mul-le-mul_right d i in omega arith

    high_side : (M k p n d q m e : ℕ) → p ≤ M * d → q ≤ k * e + m → (p * e + q * d) * 1 + 0 * (d * e) ≤ (M + k) * (d * e) + (n * e + m * d) * 1
    high_side M k p n d q m e h i = let u = mul-le-mul_right e h in let v = mul-le-mul_right d i in omega arith
