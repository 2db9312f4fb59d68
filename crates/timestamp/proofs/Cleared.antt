-- The bits of a binary64 value with those below the point cleared are the bits of its whole part. Assumes nothing.
use Rattle.std.proofs.Common.{◌≡◌, ℕ, zero, suc, ◌+◌, ◌-◌, ◌*◌, ◌/◌, ◌%◌, ◌^◌, ◌<◌, ◌≤◌, Bool, true, false, cond, not, T, eqb, leb, ◌⊎◌, pos, sym, refl, ap}
use Rattle.std.proofs.Common.{◌∙◌, subst, inl, inr, lt_of_lt_of_le, lt_of_le_of_lt, mod-lt, mod-eq_of_lt, mul_assoc, mul_comm, add-mul, add_comm}
use Rattle.std.proofs.Common.{div-add-mod', mul-one, div-le_self, mul_right_comm, div-mul-le_self, mul-div_cancel, arith, lit<, lit≤, pow_pos, pow_mono}
use Rattle.std.proofs.Common.{pow-add, shl_lt, ne_eqb, le-leb}
use native.Mathlib.Nat.{add-mul-div_right, div-eq_of_lt}
use native.Mathlib.Nat.{eq_of_mul-eq-mul_right}
use lib.Pow.{field}
use lib.Bits.{and_mask, bit_and}
use lib.Arith.{digits_div, digits_mod}
use lib.Ieee.{Float, nan, inf, fin, binary64, up, down, round, odd, is_nan, of_fields, of_bits, nan_bits}
use lib.Ieee.Fits.{round-fits, down_pos}
use lib.Ieee.Bits.{of_bits-fits}
use lib.Ieee.Exact.{HasValue, odd_sign, round_exact}
use lib.Ieee.Back.{round_whole, whole_unique}
use lib.Ieee.Nearest.{div_same}
use borrow.Author.Tests.{lt-leb}
use Rattle.timestamp.specs.Whole.{trunc_of}
use Rattle.timestamp.proofs.Basics.{split}
use Rattle.timestamp.proofs.Patterns.{no_nan}

-- a value given by one fraction is given by any other that is equal to it
rescale : (x : Float) (s : Bool) (w l num den : ℕ) → 0 < l → num * l ≡ w * den → HasValue x s w l → HasValue x s num den
rescale nan s w l num den p h v = v
rescale (inf t) s w l num den p h v = v
rescale (fin t m e) s w l num den p h v = (
  v.0,
  eq_of_mul-eq-mul_right l p (m * up e * den) (num * down e)
      (mul_right_comm (m * up e) den l
      ∙ ap (λ (x : ℕ). x * den) v.1
      ∙ mul_right_comm w (down e) den
      ∙ ap (λ (x : ℕ). x * down e) (sym h)
      ∙ mul_right_comm num l (down e)),
)

-- the whole part goes by the value alone
trunc_at : (x : Float) (s : Bool) (a c : ℕ) → 0 < c → HasValue x s a c → trunc_of x ≡ round binary64 s (a / c) 1
unfolding trunc_of
trunc_at nan s a c C v = absurd v
trunc_at (inf t) s a c C v = absurd v
trunc_at (fin t m e) s a c C v = λ i. round binary64 (v.0 i) (div_same (m * up e) (down e) a c (down_pos e) C v.1 i) 1

-- the sign's bit of a pattern
abbrev pub sign : ℕ → Bool
sign b = leb (2 ^ 63) b

-- the exponent's field of a pattern
abbrev pub expo : ℕ → ℕ
expo b = b / 2 ^ 52 % 2 ^ 11

-- the field as the code reads it
pub expo_is : (b : ℕ) → bit_and (b / 2 ^ 52) 2047 ≡ expo b
expo_is b = and_mask (b / 2 ^ 52) 11

-- there is one NaN
pub nan_of : (x : Float) → is_nan x ≡ true → x ≡ nan
unfolding is_nan
nan_of nan h = refl
nan_of (inf s) h = absurd (subst T (sym h) tt)
nan_of (fin s m e) h = absurd (subst T (sym h) tt)

pub of_bits_is : (b : ℕ) → of_bits binary64 b ≡ of_fields binary64 (sign b) (expo b) (b % 2 ^ 52)
unfolding of_bits
of_bits_is b = ap (λ (x : ℕ). of_fields binary64 (sign b) x (b % 2 ^ 52)) (field b 11 52)

under_ones : (s : Bool) (t x : ℕ) → suc x < 2047 → of_fields binary64 s (suc x) t ≡ odd 53 s (2 ^ 52 + t) x 1074
unfolding of_fields
under_ones s t x h = ap (λ (b : Bool). cond b (cond (eqb t 0) (inf s) nan) (odd 53 s (2 ^ 52 + t) x 1074)) (ne_eqb (suc x) 2047 (omega arith))

pub at_ones : (s : Bool) (t : ℕ) → of_fields binary64 s 2047 t ≡ cond (eqb t 0) (inf s) nan
unfolding of_fields
at_ones s t = refl

at_none : (s : Bool) (t : ℕ) → of_fields binary64 s 0 t ≡ odd 53 s t 0 1074
unfolding of_fields
at_none s t = refl

-- the value of a pattern whose exponent's field is neither 0 nor all ones
pub normal_value : (b x : ℕ) → expo b ≡ suc x → suc x < 2047 → HasValue (of_bits binary64 b) (sign b) ((2 ^ 52 + b % 2 ^ 52) * 2 ^ x) (2 ^ 1074)
normal_value b x e h =
    subst (λ (v : Float). HasValue v (sign b) ((2 ^ 52 + b % 2 ^ 52) * 2 ^ x) (2 ^ 1074))
    (sym (of_bits_is b ∙ ap (λ (n : ℕ). of_fields binary64 (sign b) n (b % 2 ^ 52)) e ∙ under_ones (sign b) (b % 2 ^ 52) x h))
    (odd_sign 53 (sign b) (2 ^ 52 + b % 2 ^ 52) x 1074)

-- and of one whose field is 0
pub low_value : (b : ℕ) → expo b ≡ 0 → HasValue (of_bits binary64 b) (sign b) (b % 2 ^ 52 * 2 ^ 0) (2 ^ 1074)
low_value b e =
    subst (λ (v : Float). HasValue v (sign b) (b % 2 ^ 52 * 2 ^ 0) (2 ^ 1074))
    (sym (of_bits_is b ∙ ap (λ (n : ℕ). of_fields binary64 (sign b) n (b % 2 ^ 52)) e ∙ at_none (sign b) (b % 2 ^ 52)))
    (odd_sign 53 (sign b) (b % 2 ^ 52) 0 1074)

-- a value of a / 2 ^ 1074 that is the whole number n
whole_value : (x : Float) (s : Bool) (a n : ℕ) → a ≡ n * 2 ^ 1074 → HasValue x s a (2 ^ 1074) → HasValue x s n 1
whole_value x s a n w v = rescale x s a (2 ^ 1074) n 1 (pow_pos 1074) (sym w ∙ sym (mul-one a)) v

-- a pattern c with the whole number that a / 2 ^ 1074, the value of b, is cut to is the whole part of b
is_whole : (b c a n : ℕ) → HasValue (of_bits binary64 b) (sign b) a (2 ^ 1074) → a / 2 ^ 1074 ≡ n → HasValue (of_bits binary64 c) (sign b) n 1 →
    HasValue (round binary64 (sign b) n 1) (sign b) n 1 → of_bits binary64 c ≡ trunc_of (of_bits binary64 b)
is_whole b c a n v q w r =
    whole_unique binary64 (of_bits binary64 c) (round binary64 (sign b) n 1) (sign b) n (of_bits-fits binary64 c) (round-fits binary64 (sign b) n 1) w r
    ∙ sym (trunc_at (of_bits binary64 b) (sign b) a (2 ^ 1074) (pow_pos 1074) v ∙ ap (λ (z : ℕ). round binary64 (sign b) z 1) q)

-- ---- the bits below g = 2 ^ k cleared, k at most 52: the sign and the exponent stay

module _ (b g h : ℕ) (G : 0 < g) (hg : h * g ≡ 2 ^ 52) where
  low_lt : b % 2 ^ 52 / g * g < 2 ^ 52
  low_lt = lt_of_le_of_lt (div-mul-le_self (b % 2 ^ 52) g) (mod-lt b (lit< tt))

  pub cleared : b / g * g ≡ b / 2 ^ 52 * 2 ^ 52 + b % 2 ^ 52 / g * g
  cleared =
      let e : b ≡ b % 2 ^ 52 + b / 2 ^ 52 * h * g = sym (div-add-mod' b (2 ^ 52)) ∙ add_comm (b / 2 ^ 52 * 2 ^ 52) (b % 2 ^ 52)
      ∙ ap (λ (z : ℕ). b % 2 ^ 52 + z) (ap (λ (z : ℕ). b / 2 ^ 52 * z) (sym hg) ∙ sym (mul_assoc (b / 2 ^ 52) h g)) in
      ap (λ (z : ℕ). z / g * g) e
      ∙ ap (λ (z : ℕ). z * g) (add-mul-div_right (b % 2 ^ 52) (b / 2 ^ 52 * h) G)
      ∙ add-mul (b % 2 ^ 52 / g) (b / 2 ^ 52 * h) g
      ∙ add_comm (b % 2 ^ 52 / g * g) (b / 2 ^ 52 * h * g)
      ∙ ap (λ (z : ℕ). z + b % 2 ^ 52 / g * g) (mul_assoc (b / 2 ^ 52) h g ∙ ap (λ (z : ℕ). b / 2 ^ 52 * z) hg)

  -- clearing low bits leaves those from bit 52 up
  pub cleared_high : b / g * g / 2 ^ 52 ≡ b / 2 ^ 52
  cleared_high = ap (λ (z : ℕ). z / 2 ^ 52) cleared ∙ digits_div (b / 2 ^ 52) low_lt

  -- and clears them in the digits
  pub cleared_low : b / g * g % 2 ^ 52 ≡ b % 2 ^ 52 / g * g
  cleared_low = ap (λ (z : ℕ). z % 2 ^ 52) cleared ∙ digits_mod (b / 2 ^ 52) low_lt

pub by_high : (b c : ℕ) → b / 2 ^ 52 ≡ c / 2 ^ 52 → sign b ≡ sign c
by_high b c e = elim (split b (2 ^ 63)) [
  | inl l ↦ lt-leb (2 ^ 63) b l ∙ sym (lt-leb (2 ^ 63) c (omega arith))
  | inr l ↦ le-leb (2 ^ 63) b l ∙ sym (le-leb (2 ^ 63) c (omega arith))
]

-- ---- from 1 up to 2 ^ 53: with a field of 1023 .. 1075 the lowest 1075 - expo b bits lie below the point
module _ (b k : ℕ) (below : k + expo b ≡ 1075) (K : k ≤ 52) where
  -- the field less one, by which the digits are scaled
  scale : ℕ
  scale = expo b - 1

  scale_is : expo b ≡ suc scale
  unfolding scale
  scale_is = omega arith

  N : ℕ
  N = 2 ^ (52 - k) + b % 2 ^ 52 / 2 ^ k

  parts : 2 ^ (52 - k) * 2 ^ k ≡ 2 ^ 52
  parts =
      let e' : 52 - k + k ≡ 52 = omega arith in
      sym (pow-add 2 (52 - k) k) ∙ ap (λ (z : ℕ). 2 ^ z) e'

  top : 2 ^ k * 2 ^ scale ≡ 2 ^ 1074
  top =
      let e' : k + scale ≡ 1074 = omega (arith, below, scale_is) in
      sym (pow-add 2 k scale) ∙ ap (λ (z : ℕ). 2 ^ z) e'

  X : suc scale < 2047
  X = omega (arith, below, scale_is)

  high : b / 2 ^ k * 2 ^ k / 2 ^ 52 ≡ b / 2 ^ 52
  high = cleared_high b (2 ^ k) (2 ^ (52 - k)) (pow_pos k) parts

  cleared_value : HasValue (of_bits binary64 (b / 2 ^ k * 2 ^ k)) (sign b) N 1
  unfolding N
  cleared_value =
      let c = b / 2 ^ k * 2 ^ k in
      let v = normal_value c scale (ap (λ (z : ℕ). z % 2 ^ 11) high ∙ scale_is) X in
      let w : (2 ^ 52 + c % 2 ^ 52) * 2 ^ scale ≡ N * 2 ^ 1074 =
      ap (λ (z : ℕ). (2 ^ 52 + z) * 2 ^ scale) (cleared_low b (2 ^ k) (2 ^ (52 - k)) (pow_pos k) parts)
      ∙ ap (λ (z : ℕ). (z + b % 2 ^ 52 / 2 ^ k * 2 ^ k) * 2 ^ scale) (sym parts)
      ∙ ap (λ (z : ℕ). z * 2 ^ scale) (sym (add-mul (2 ^ (52 - k)) (b % 2 ^ 52 / 2 ^ k) (2 ^ k)))
      ∙ mul_assoc (2 ^ (52 - k) + b % 2 ^ 52 / 2 ^ k) (2 ^ k) (2 ^ scale)
      ∙ ap (λ (z : ℕ). (2 ^ (52 - k) + b % 2 ^ 52 / 2 ^ k) * z) top in
      whole_value (of_bits binary64 c) (sign b) ((2 ^ 52 + c % 2 ^ 52) * 2 ^ scale) N w
      (subst (λ (s : Bool). HasValue (of_bits binary64 c) s ((2 ^ 52 + c % 2 ^ 52) * 2 ^ scale) (2 ^ 1074)) (by_high c b high) v)

  whole_part : (2 ^ 52 + b % 2 ^ 52) * 2 ^ scale / 2 ^ 1074 ≡ N
  unfolding N
  whole_part =
      div_same ((2 ^ 52 + b % 2 ^ 52) * 2 ^ scale) (2 ^ 1074) (2 ^ 52 + b % 2 ^ 52) (2 ^ k) (pow_pos 1074) (pow_pos k)
      (mul_assoc (2 ^ 52 + b % 2 ^ 52) (2 ^ scale) (2 ^ k) ∙ ap (λ (z : ℕ). (2 ^ 52 + b % 2 ^ 52) * z) (mul_comm (2 ^ scale) (2 ^ k) ∙ top))
      ∙ ap (λ (z : ℕ). z / 2 ^ k) (add_comm (2 ^ 52) (b % 2 ^ 52) ∙ ap (λ (z : ℕ). b % 2 ^ 52 + z) (sym parts))
      ∙ add-mul-div_right (b % 2 ^ 52) (2 ^ (52 - k)) (pow_pos k)
      ∙ add_comm (b % 2 ^ 52 / 2 ^ k) (2 ^ (52 - k))

  N-le : N ≤ 2 ^ 53
  unfolding N
  N-le =
      let p : 2 ^ (52 - k) ≤ 2 ^ 52 = pow_mono {i = 52 - k} {j = 52} (omega arith) in
      let q : b % 2 ^ 52 / 2 ^ k ≤ b % 2 ^ 52 = div-le_self (b % 2 ^ 52) (2 ^ k) in
      let r : b % 2 ^ 52 < 2 ^ 52 = mod-lt b (lit< tt) in
      omega arith

  -- the bits below the point cleared: the whole part
  digits_whole : of_bits binary64 (b / 2 ^ k * 2 ^ k) ≡ trunc_of (of_bits binary64 b)
  digits_whole =
      is_whole b (b / 2 ^ k * 2 ^ k) ((2 ^ 52 + b % 2 ^ 52) * 2 ^ scale) N (normal_value b scale scale_is X) whole_part cleared_value
      (round_whole binary64 (sign b) N N-le)

pub zero_of : (s : Bool) → round binary64 s 0 1 ≡ fin s 0 (pos 0)
unfolding round
zero_of true = refl
zero_of false = refl

below_one : (b : ℕ) → expo b < 1023 → trunc_of (of_bits binary64 b) ≡ fin (sign b) 0 (pos 0)
below_one b h = go (expo b) refl
  where
    go : (f : ℕ) → expo b ≡ f → trunc_of (of_bits binary64 b) ≡ fin (sign b) 0 (pos 0)
    go zero e =
        let r : b % 2 ^ 52 * 2 ^ 0 < 2 ^ 1074 = lt_of_lt_of_le (shl_lt 52 0 (mod-lt b (lit< tt))) (pow_mono {i = 52} {j = 1074} (lit≤ tt)) in
        trunc_at (of_bits binary64 b) (sign b) (b % 2 ^ 52 * 2 ^ 0) (2 ^ 1074) (pow_pos 1074) (low_value b e)
        ∙ ap (λ (z : ℕ). round binary64 (sign b) z 1) (div-eq_of_lt r)
        ∙ zero_of (sign b)
    go (suc x) e =
        let y : 53 + x ≤ 1074 = omega arith in
        let q : 2 ^ 52 + b % 2 ^ 52 < 2 ^ 53 = omega (arith, mod-lt b {m = 2 ^ 52} (lit< tt)) in
        let r : (2 ^ 52 + b % 2 ^ 52) * 2 ^ x < 2 ^ 1074 = lt_of_lt_of_le (shl_lt 53 x q) (pow_mono y) in
        trunc_at (of_bits binary64 b) (sign b) ((2 ^ 52 + b % 2 ^ 52) * 2 ^ x) (2 ^ 1074) (pow_pos 1074) (normal_value b x e (omega arith))
        ∙ ap (λ (z : ℕ). round binary64 (sign b) z 1) (div-eq_of_lt r)
        ∙ zero_of (sign b)

pub sign_bit : (b : ℕ) → b < 2 ^ 64 → of_bits binary64 (b / 2 ^ 63 * 2 ^ 63) ≡ fin (sign b) 0 (pos 0)
unfolding of_bits
sign_bit b h = elim (split b (2 ^ 63)) [
  | inl l ↦
      let z : b / 2 ^ 63 * 2 ^ 63 ≡ 0 = omega arith in
      ap (of_bits binary64) z ∙ ap (λ (s : Bool). fin s 0 (pos 0)) (sym (lt-leb (2 ^ 63) b l))
  | inr l ↦
      let z : b / 2 ^ 63 * 2 ^ 63 ≡ 2 ^ 63 = omega arith in
      ap (of_bits binary64) z ∙ ap (λ (s : Bool). fin s 0 (pos 0)) (sym (le-leb (2 ^ 63) b l))
]

-- below 1 in size the whole part is a zero of the value's sign
small : (b : ℕ) → b < 2 ^ 64 → expo b < 1023 → of_bits binary64 (b / 2 ^ 63 * 2 ^ 63) ≡ trunc_of (of_bits binary64 b)
small b h k = sign_bit b h ∙ sym (below_one b k)

-- ---- the formula

-- the lowest k bits are to be cleared: below 1 in size all but the sign's, from 1 up to 2 ^ 53 the digits below the point
abbrev pub Clears : ℕ → ℕ → Type 0
Clears b k = ((expo b < 1023) × (k ≡ 63)) ⊎ ((1023 ≤ expo b) × (k + expo b ≡ 1075))

-- so many are fewer than 64
pub clears_lt : (b k : ℕ) → Clears b k → k < 64
clears_lt b k w = elim w [
  | inl p ↦ omega (arith, p.1)
  | inr p ↦ omega (arith, p.0, p.1)
]

-- what k bits were shifted out of is within 64 bits once it is shifted back
pub shifted_back : (b k : ℕ) → b < 2 ^ 64 → b / 2 ^ k * 2 ^ k % 2 ^ 64 ≡ b / 2 ^ k * 2 ^ k
shifted_back b k h = mod-eq_of_lt (lt_of_le_of_lt (div-mul-le_self b (2 ^ k)) h)

-- these bits shifted out, and zeros in: the whole part
pub shifted_whole : (b k : ℕ) → b < 2 ^ 64 → Clears b k → of_bits binary64 (b / 2 ^ k * 2 ^ k % 2 ^ 64) ≡ trunc_of (of_bits binary64 b)
shifted_whole b k h w = ap (of_bits binary64) (shifted_back b k h) ∙ elim w [
  | inl p ↦ ap (λ (n : ℕ). of_bits binary64 (b / 2 ^ n * 2 ^ n)) p.1 ∙ small b h p.0
  | inr p ↦ digits_whole b k p.1 (omega (arith, p.0, p.1))
]

-- which is no NaN's pattern
pub shifted_no_nan : (b k : ℕ) → b < 2 ^ 64 → Clears b k → T (not (nan_bits binary64 (b / 2 ^ k * 2 ^ k % 2 ^ 64)))
shifted_no_nan b k h w = subst (λ (n : ℕ). T (not (nan_bits binary64 n))) (sym (shifted_back b k h)) (elim w [
  | inl p ↦ no_nan (b / 2 ^ k * 2 ^ k) (subst (λ (n : ℕ). b / 2 ^ n * 2 ^ n % 2 ^ 63 ≤ 0x7ff0_0000_0000_0000) (sym p.1) (omega arith))
  | inr p ↦ no_nan (b / 2 ^ k * 2 ^ k) (omega (arith, p.1, high b k p.1 (omega (arith, p.0, p.1))))
])

ends : (q s : Bool) → cond q (inf s) nan ≡ trunc_of (cond q (inf s) nan)
unfolding trunc_of
ends true s = refl
ends false s = refl

-- from 2 ^ 53 up nothing is below the point
pub large : (b : ℕ) → 1075 < expo b → of_bits binary64 b ≡ trunc_of (of_bits binary64 b)
large b h = go (expo b) refl
  where
    go : (f : ℕ) → expo b ≡ f → of_bits binary64 b ≡ trunc_of (of_bits binary64 b)
    go zero e = absurd (omega arith)
    go (suc x) e = elim (split (suc x) 2047) [
      | inl l ↦
          let q = 2 ^ 52 + b % 2 ^ 52 in
          let n = q * 2 ^ (x - 1074) in
          let w : q * 2 ^ x ≡ n * 2 ^ 1074 =
          (let y : x ≡ x - 1074 + 1074 = omega arith in
          ap (λ (z : ℕ). q * 2 ^ z) y ∙ ap (λ (z : ℕ). q * z) (pow-add 2 (x - 1074) 1074) ∙ sym (mul_assoc q (2 ^ (x - 1074)) (2 ^ 1074))) in
          let v = normal_value b x e l in
          let Q : q < 2 ^ 53 = omega (arith, mod-lt b {m = 2 ^ 52} (lit< tt)) in
          let R : q * 2 ^ x < 2 ^ (1074 + 1024) = (let y : 53 + x ≤ 1074 + 1024 = omega arith in lt_of_lt_of_le (shl_lt 53 x Q) (pow_mono y)) in
          is_whole b b (q * 2 ^ x) n v (ap (λ (z : ℕ). z / 2 ^ 1074) w ∙ mul-div_cancel n (pow_pos 1074))
          (whole_value (of_bits binary64 b) (sign b) (q * 2 ^ x) n w v)
          (round_exact binary64 (sign b) n 1 q x (lit< tt) Q R (sym w ∙ sym (mul-one (q * 2 ^ x))))
      | inr l ↦
          let y : suc x ≡ 2047 = omega (arith, e, mod-lt (b / 2 ^ 52) {m = 2 ^ 11} (lit< tt)) in
          let i : of_bits binary64 b ≡ cond (eqb (b % 2 ^ 52) 0) (inf (sign b)) nan =
          of_bits_is b ∙ ap (λ (z : ℕ). of_fields binary64 (sign b) z (b % 2 ^ 52)) (e ∙ y) ∙ at_ones (sign b) (b % 2 ^ 52) in
          i ∙ ends (eqb (b % 2 ^ 52) 0) (sign b) ∙ ap trunc_of (sym i)
    ]
