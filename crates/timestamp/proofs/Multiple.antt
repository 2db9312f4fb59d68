-- The remainder of a binary64 value by 65,536, from its bits: with those below 65,536 cleared they are the bits of a multiple of 65,536, and what the value
-- is over that is exact. Assumes nothing.
use Rattle.std.proofs.Common.{◌≡◌, ℕ, zero, suc, ◌+◌, ◌-◌, ◌*◌, ◌/◌, ◌%◌, ◌^◌, ◌<◌, ◌≤◌, Bool, true, false, cond, not, ◌&&◌, T, eqb, ltb, leb, ℤ, pos}
use Rattle.std.proofs.Common.{negsuc, sym, refl, ap, ◌∙◌, subst, inl, inr, lt_of_lt_of_le, mod-lt, mod-eq_of_lt, mul_assoc, mul_comm, add-mul, one-mul}
use Rattle.std.proofs.Common.{zero-mul, mul-one, mul-pos, mul_right_comm, div-add-mod', mul-lt-mul_of_pos_right, arith, lit<, pow_pos, pow_mono, pow-add}
use Rattle.std.proofs.Common.{shl_lt, le-ltb, lt-ltb, eqb→eq}
use native.Mathlib.Nat.{eq_of_mul-eq-mul_right, mul-mod_left, mul-add-mod_self_right, mul-div_cancel, mul_left_comm, zero-lt-suc, pow-succ', pow-suc, lt_irrefl}
use Rattle.std.proofs.Math.Arith.{mod-mul}
use lib.Ieee.{Float, nan, inf, fin, binary64, up, down, round, sum, add, sub, neg, rem, fits, of_fields, of_bits, nan_bits}
use lib.Ieee.Bits.{of_bits-fits}
use lib.Ieee.Exact.{HasValue, round_exact}
use lib.Ieee.Fits.{round-fits, down_pos, up_pos, and_l}
use lib.Ieee.Scale.{round_same}
use Rattle.timestamp.specs.FloatTimestamps.{cycle64}
use Rattle.timestamp.proofs.Basics.{split}
use Rattle.timestamp.proofs.Patterns.{no_nan}
use Rattle.timestamp.proofs.Cleared.{sign, expo, of_bits_is, at_ones, normal_value, low_value, cleared_high, cleared_low, cleared, by_high, zero_of, sign_bit}

-- ---- a value is written in one way

even_odd : (m t : ℕ) → m % 2 ≡ 1 → m ≡ 2 * t → ⊥
even_odd m t o h = omega arith

odd_pow : (m n a b : ℕ) → m % 2 ≡ 1 → n % 2 ≡ 1 → m * 2 ^ a ≡ n * 2 ^ b → (m ≡ n) × (a ≡ b)
odd_pow m n zero zero o p h = (sym (mul-one m) ∙ h ∙ mul-one n, refl)
odd_pow m n zero (suc b) o p h = absurd (even_odd m (n * 2 ^ b) o (sym (mul-one m) ∙ h ∙ ap (λ (x : ℕ). n * x) (pow-succ' 2 b) ∙ mul_left_comm n 2 (2 ^ b)))
odd_pow m n (suc a) zero o p h = absurd (even_odd n (m * 2 ^ a) p (sym (mul-one n) ∙ sym h ∙ ap (λ (x : ℕ). m * x) (pow-succ' 2 a) ∙ mul_left_comm m 2 (2 ^ a)))
odd_pow m n (suc a) (suc b) o p h =
    let r = odd_pow m n a b o p (eq_of_mul-eq-mul_right 2 (zero-lt-suc 1) (m * 2 ^ a) (n * 2 ^ b)
    (mul_assoc m (2 ^ a) 2 ∙ ap (λ (x : ℕ). m * x) (sym (pow-suc 2 a)) ∙ h ∙ ap (λ (x : ℕ). n * x) (pow-suc 2 b) ∙ sym (mul_assoc n (2 ^ b) 2))) in
    (r.0, ap suc r.1)

-- two odd significands with one value
same_parts : (m n : ℕ) (e g : ℤ) → m % 2 ≡ 1 → n % 2 ≡ 1 → m * up e * down g ≡ n * up g * down e → (m ≡ n) × (e ≡ g)
same_parts m n (pos a) (pos b) o p h =
    let r = odd_pow m n a b o p (sym (mul-one (m * 2 ^ a)) ∙ h ∙ mul-one (n * 2 ^ b)) in (r.0, ap pos r.1)
same_parts m n (pos a) (negsuc b) o p h =
    let r = odd_pow m n (a + suc b) 0 o p
    (ap (λ (x : ℕ). m * x) (pow-add 2 a (suc b)) ∙ sym (mul_assoc m (2 ^ a) (2 ^ suc b)) ∙ h ∙ mul-one (n * 1)) in
    absurd (omega (arith, r.1))
same_parts m n (negsuc a) (pos b) o p h =
    let r = odd_pow m n 0 (b + suc a) o p
    (sym (mul-one (m * 1)) ∙ h ∙ mul_assoc n (2 ^ b) (2 ^ suc a) ∙ ap (λ (x : ℕ). n * x) (sym (pow-add 2 b (suc a)))) in
    absurd (omega (arith, r.1))
same_parts m n (negsuc a) (negsuc b) o p h =
    let r = odd_pow m n (suc b) (suc a) o p (ap (λ (x : ℕ). x * 2 ^ suc b) (sym (mul-one m)) ∙ h ∙ ap (λ (x : ℕ). x * 2 ^ suc a) (mul-one n)) in
    let q : a ≡ b = omega (arith, r.1) in
    (r.0, ap negsuc q)

-- a significand above 0 is odd
is_odd : (s : Bool) (m : ℕ) (e : ℤ) → T (fits binary64 (fin s (suc m) e)) → suc m % 2 ≡ 1
unfolding fits
is_odd s m e t =
    let A = eqb (suc m % 2) 1 in
    let B = ltb (suc m) (2 ^ 53) in
    let C = leb (down e) (2 ^ 1074) in
    let D = ltb (suc m * up e) (2 ^ 1024 * down e) in
    eqb→eq (suc m % 2) 1 (and_l A B (and_l (A && B) C (and_l (A && B && C) D t)))

two_up : (p : ℕ) → 0 < p → 2 * p ≡ 1 → ⊥
two_up p h e = omega arith

flat : (e : ℤ) → up e * down e ≡ 1 → e ≡ pos 0
flat (pos zero) h = refl
flat (pos (suc k)) h = absurd (two_up (2 ^ k) (pow_pos k) (sym (pow-succ' 2 k) ∙ sym (mul-one (2 ^ suc k)) ∙ h))
flat (negsuc k) h = absurd (two_up (2 ^ k) (pow_pos k) (sym (pow-succ' 2 k) ∙ sym (one-mul (2 ^ suc k)) ∙ h))

-- a zero's exponent is 0
zero_exp : (s : Bool) (e : ℤ) → T (fits binary64 (fin s zero e)) → e ≡ pos 0
unfolding fits
zero_exp s e t = flat e (eqb→eq (up e * down e) 1 t)

-- what is 0 / 1 is no other number
no_zero : (m : ℕ) (e g : ℤ) (a c : ℕ) → 0 < c → zero * up e * c ≡ a * down e → suc m * up g * c ≡ a * down g → ⊥
no_zero m e g zero c C v w = lt_irrefl 0 (subst (λ (x : ℕ). 0 < x) (w ∙ zero-mul (down g)) (mul-pos (mul-pos (zero-lt-suc m) (up_pos g)) C))
no_zero m e g (suc a) c C v w =
    lt_irrefl 0 (subst (λ (x : ℕ). 0 < x) (sym v ∙ ap (λ (x : ℕ). x * c) (zero-mul (up e)) ∙ zero-mul c) (mul-pos (zero-lt-suc a) (down_pos e)))

cross : (x y a d g c : ℕ) → 0 < c → x * c ≡ a * d → y * c ≡ a * g → x * g ≡ y * d
cross x y a d g c C v w =
    eq_of_mul-eq-mul_right c C (x * g) (y * d)
    (mul_right_comm x g c ∙ ap (λ (z : ℕ). z * g) v ∙ mul_right_comm a d g ∙ ap (λ (z : ℕ). z * d) (sym w) ∙ mul_right_comm y c d)

unique : (x y : Float) (s : Bool) (a c : ℕ) → 0 < c → T (fits binary64 x) → T (fits binary64 y) → HasValue x s a c → HasValue y s a c → x ≡ y
unique (fin t zero e) (fin u zero g) s a c C p q v w = λ i. fin ((v.0 ∙ sym w.0) i) zero ((zero_exp t e p ∙ sym (zero_exp u g q)) i)
unique (fin t zero e) (fin u (suc n) g) s a c C p q v w = absurd (no_zero n e g a c C v.1 w.1)
unique (fin t (suc m) e) (fin u zero g) s a c C p q v w = absurd (no_zero m g e a c C w.1 v.1)
unique (fin t (suc m) e) (fin u (suc n) g) s a c C p q v w =
    let r = same_parts (suc m) (suc n) e g (is_odd t m e p) (is_odd u n g q) (cross (suc m * up e) (suc n * up g) a (down e) (down g) c C v.1 w.1) in
    λ i. fin ((v.0 ∙ sym w.0) i) (r.0 i) (r.1 i)
unique nan y s a c C p q v w = absurd v
unique (inf t) y s a c C p q v w = absurd v
unique (fin t zero e) nan s a c C p q v w = absurd w
unique (fin t zero e) (inf u) s a c C p q v w = absurd w
unique (fin t (suc m) e) nan s a c C p q v w = absurd w
unique (fin t (suc m) e) (inf u) s a c C p q v w = absurd w

-- ---- the remainder and the difference of values, by what they are as fractions

mod_scale : (x k c : ℕ) → 0 < k → 0 < c → x % k * c ≡ x * c % (k * c)
mod_scale x k c K C =
    sym (mod-mul (x * c) {m = k} {c = c} K C ∙ ap (λ (z : ℕ). z % k * c + x * c % c) (mul-div_cancel x C)
    ∙ ap (λ (z : ℕ). x % k * c + z) (mul-mod_left x c) ∙ omega arith)

rem_at : (y : Float) (s : Bool) (a c : ℕ) → 0 < c → HasValue y s a c → rem binary64 y cycle64 ≡ round binary64 s (a % (2 ^ 16 * c)) c
unfolding rem
rem_at nan s a c C v = absurd v
rem_at (inf t) s a c C v = absurd v
rem_at (fin t m e) s a c C v =
    let x = m * up e in
    let d = down e in
    let D = down_pos e in
    let K : 0 < 1 * 2 ^ 16 * d = mul-pos (mul-pos (zero-lt-suc 0) (pow_pos 16)) D in
    let L : 0 < d * 1 = mul-pos D (zero-lt-suc 0) in
    let M : 0 < 2 ^ 16 * c = mul-pos (pow_pos 16) C in
    let h : x * 1 % (1 * 2 ^ 16 * d) * c ≡ a % (2 ^ 16 * c) * (d * 1) =
    mod_scale (x * 1) (1 * 2 ^ 16 * d) c K C
    ∙ ap (λ (z : ℕ). z * c % (1 * 2 ^ 16 * d * c)) (mul-one x)
    ∙ ap (λ (z : ℕ). z % (1 * 2 ^ 16 * d * c)) v.1
    ∙ ap (λ (z : ℕ). a * d % z) (ap (λ (z : ℕ). z * d * c) (one-mul (2 ^ 16)) ∙ mul_right_comm (2 ^ 16) d c)
    ∙ sym (mod_scale a (2 ^ 16 * c) d M D)
    ∙ ap (λ (z : ℕ). a % (2 ^ 16 * c) * z) (sym (mul-one d)) in
    ap (λ (b : Bool). round binary64 b (x * 1 % (1 * 2 ^ 16 * d)) (d * 1)) v.0
    ∙ round_same binary64 s (x * 1 % (1 * 2 ^ 16 * d)) (d * 1) (a % (2 ^ 16 * c)) c L C h

less : (u v a b w c : ℕ) → 0 < w → u * c ≡ a * w → v * c ≡ b * w → b < a → v < u
less u v a b w c W p q h = elim (split v u) [
  | inl l ↦ l
  | inr l ↦
      let x : b * w < a * w = mul-lt-mul_of_pos_right h W in
      let y : u * c ≤ v * c = native.Mathlib.Nat.mul-le-mul_right c l in
      absurd (omega arith)
]

over : (u v a b w c : ℕ) → v ≤ u → b ≤ a → u * c ≡ a * w → v * c ≡ b * w → (u - v) * c ≡ (a - b) * w
over u v a b w c l h p q =
    let x : u ≡ u - v + v = omega arith in
    let y : a ≡ a - b + b = omega arith in
    let e : (u - v) * c + v * c ≡ u * c = sym (add-mul (u - v) v c) ∙ ap (λ (z : ℕ). z * c) (sym x) in
    let f : (a - b) * w + b * w ≡ a * w = sym (add-mul (a - b) b w) ∙ ap (λ (z : ℕ). z * w) (sym y) in
    omega arith

difference : (s : Bool) (u v c : ℕ) → v < u → sum binary64 s u (not s) v c ≡ round binary64 s (u - v) c
unfolding sum
difference true u v c h =
    ap (λ (b : Bool). cond b (round binary64 false (v - u) c) (round binary64 (true && ltb v u) (u - v) c)) (le-ltb u v (omega arith))
    ∙ ap (λ (b : Bool). round binary64 (true && b) (u - v) c) (lt-ltb v u h)
difference false u v c h =
    ap (λ (b : Bool). cond b (round binary64 true (v - u) c) (round binary64 (false && ltb v u) (u - v) c)) (le-ltb u v (omega arith))

sub_at : (x y : Float) (s : Bool) (a b c : ℕ) → 0 < c → HasValue x s a c → HasValue y s b c → b < a → sub binary64 x y ≡ round binary64 s (a - b) c
unfolding sub add neg
sub_at nan y s a b c C v w h = absurd v
sub_at (inf t) y s a b c C v w h = absurd v
sub_at (fin t m e) nan s a b c C v w h = absurd w
sub_at (fin t m e) (inf u) s a b c C v w h = absurd w
sub_at (fin t m e) (fin u n d) s a b c C v w h =
    let de = down e in
    let dd = down d in
    let U = m * up e * dd in
    let V = n * up d * de in
    let W : 0 < de * dd = mul-pos (down_pos e) (down_pos d) in
    let p : U * c ≡ a * (de * dd) = mul_right_comm (m * up e) dd c ∙ ap (λ (z : ℕ). z * dd) v.1 ∙ mul_assoc a de dd in
    let q : V * c ≡ b * (de * dd) = mul_right_comm (n * up d) de c ∙ ap (λ (z : ℕ). z * de) w.1 ∙ mul_assoc b dd de ∙ ap (λ (z : ℕ). b * z) (mul_comm dd de) in
    let l : V < U = less U V a b (de * dd) c W p q h in
    ap (λ (z : Bool). sum binary64 z U (not u) V (de * dd)) v.0
    ∙ ap (λ (z : Bool). sum binary64 s U (not z) V (de * dd)) w.0
    ∙ difference s U V (de * dd) l
    ∙ round_same binary64 s (U - V) (de * dd) (a - b) c W C (over U V a b (de * dd) c (omega (arith, l)) (omega (arith, h)) p q)

-- ---- from the bits

-- 2 ^ 16 in the units of the smallest value
cycle_units : (k x : ℕ) → k + x ≡ 1090 → 2 ^ k * 2 ^ x ≡ 2 ^ 16 * 2 ^ 1074
cycle_units k x e = sym (pow-add 2 k x) ∙ ap (λ (z : ℕ). 2 ^ z) e ∙ pow-add 2 16 1074

-- below 65,536 in size a value is its own remainder
rem_low : (y : Float) (s : Bool) (q x : ℕ) → T (fits binary64 y) → HasValue y s (q * 2 ^ x) (2 ^ 1074) → q < 2 ^ 53 → x ≤ 1037 → rem binary64 y cycle64 ≡ y
rem_low y s q x F v Q X =
    let C : 0 < 2 ^ 1074 = pow_pos 1074 in
    let X' : 53 + x ≤ 1090 = omega arith in
    let l : q * 2 ^ x < 2 ^ 16 * 2 ^ 1074 = subst (λ (z : ℕ). q * 2 ^ x < z) (pow-add 2 16 1074) (lt_of_lt_of_le (shl_lt 53 x Q) (pow_mono {i = 53 + x} {j
    = 1090} X')) in
    let X'' : 53 + x ≤ 2098 = omega arith in
    let r : HasValue (round binary64 s (q * 2 ^ x) (2 ^ 1074)) s (q * 2 ^ x) (2 ^ 1074) =
    round_exact binary64 s (q * 2 ^ x) (2 ^ 1074) q x C Q (lt_of_lt_of_le (shl_lt 53 x Q) (pow_mono {i = 53 + x} {j = 2098} X'')) refl in
    rem_at y s (q * 2 ^ x) (2 ^ 1074) C v
    ∙ ap (λ (z : ℕ). round binary64 s z (2 ^ 1074)) (mod-eq_of_lt l)
    ∙ unique (round binary64 s (q * 2 ^ x) (2 ^ 1074)) y s (q * 2 ^ x) (2 ^ 1074) C (round-fits binary64 s (q * 2 ^ x) (2 ^ 1074)) F r v

pub below_cycle : (b : ℕ) → expo b < 1039 → of_bits binary64 b ≡ rem binary64 (of_bits binary64 b) cycle64
below_cycle b h = go (expo b) refl
  where
    go : (f : ℕ) → expo b ≡ f → of_bits binary64 b ≡ rem binary64 (of_bits binary64 b) cycle64
    go zero e =
        let q : b % 2 ^ 52 < 2 ^ 53 = omega (arith, mod-lt b {m = 2 ^ 52} (lit< tt)) in
        sym (rem_low (of_bits binary64 b) (sign b) (b % 2 ^ 52) 0 (of_bits-fits binary64 b) (low_value b e) q (omega arith))
    go (suc x) e =
        let q : 2 ^ 52 + b % 2 ^ 52 < 2 ^ 53 = omega (arith, mod-lt b {m = 2 ^ 52} (lit< tt)) in
        sym (rem_low (of_bits binary64 b) (sign b) (2 ^ 52 + b % 2 ^ 52) x (of_bits-fits binary64 b) (normal_value b x e (omega arith)) q (omega arith))

-- an infinity has no remainder, and neither has what is no number
none_of : (q s : Bool) → sub binary64 (cond q (inf s) nan) (cond q (inf s) nan) ≡ rem binary64 (cond q (inf s) nan) cycle64
unfolding sub add neg rem
none_of true true = refl
none_of true false = refl
none_of false s = refl

pub no_remainder : (b : ℕ) → expo b ≡ 2047 → sub binary64 (of_bits binary64 b) (of_bits binary64 b) ≡ rem binary64 (of_bits binary64 b) cycle64
no_remainder b e =
    let i : of_bits binary64 b ≡ cond (eqb (b % 2 ^ 52) 0) (inf (sign b)) nan =
    of_bits_is b ∙ ap (λ (z : ℕ). of_fields binary64 (sign b) z (b % 2 ^ 52)) e ∙ at_ones (sign b) (b % 2 ^ 52) in
    subst (λ (z : Float). sub binary64 z z ≡ rem binary64 z cycle64) (sym i) (none_of (eqb (b % 2 ^ 52) 0) (sign b))

-- where nothing is left, it is a zero of the value's sign
zero_left : (b a : ℕ) → b < 2 ^ 64 → HasValue (of_bits binary64 b) (sign b) a (2 ^ 1074) → a % (2 ^ 16 * 2 ^ 1074) ≡ 0
    → of_bits binary64 (b / 2 ^ 63 * 2 ^ 63) ≡ rem binary64 (of_bits binary64 b) cycle64
zero_left b a l v h =
    sign_bit b l
    ∙ sym (rem_at (of_bits binary64 b) (sign b) a (2 ^ 1074) (pow_pos 1074) v
    ∙ ap (λ (z : ℕ). round binary64 (sign b) z (2 ^ 1074)) h
    ∙ round_same binary64 (sign b) 0 (2 ^ 1074) 0 1 (pow_pos 1074) (zero-lt-suc 0) (zero-mul 1 ∙ sym (zero-mul (2 ^ 1074)))
    ∙ zero_of (sign b))

-- from 2 ^ 69 up all is a multiple
pub multiple_alone : (b : ℕ) → b < 2 ^ 64 → 1091 < expo b → (expo b ≡ 2047 → ⊥) → of_bits binary64 (b / 2 ^ 63 * 2 ^ 63) ≡ rem binary64 (of_bits binary64
    b) cycle64
multiple_alone b l h n = go (expo b) refl
  where
    go : (f : ℕ) → expo b ≡ f → of_bits binary64 (b / 2 ^ 63 * 2 ^ 63) ≡ rem binary64 (of_bits binary64 b) cycle64
    go zero e = absurd (omega arith)
    go (suc x) e =
        let w : expo b < 2 ^ 11 = mod-lt (b / 2 ^ 52) {m = 2 ^ 11} (lit< tt) in
        let q = 2 ^ 52 + b % 2 ^ 52 in
        let y : x ≡ x - 1090 + 1090 = omega arith in
        let p : q * 2 ^ x ≡ q * 2 ^ (x - 1090) * (2 ^ 16 * 2 ^ 1074) =
        ap (λ (z : ℕ). q * 2 ^ z) y ∙ ap (λ (z : ℕ). q * z) (pow-add 2 (x - 1090) 1090) ∙ sym (mul_assoc q (2 ^ (x - 1090)) (2 ^ 1090))
        ∙ ap (λ (z : ℕ). q * 2 ^ (x - 1090) * z) (pow-add 2 16 1074) in
        zero_left b (q * 2 ^ x) l (normal_value b x e (omega arith))
        (ap (λ (z : ℕ). z % (2 ^ 16 * 2 ^ 1074)) p ∙ mul-mod_left (q * 2 ^ (x - 1090)) (2 ^ 16 * 2 ^ 1074))

-- ---- from 2 ^ 16 to 2 ^ 69 in size: the lowest 1091 - expo b bits lie below 65,536
module _ (b k : ℕ) (l : b < 2 ^ 64) (is : k + expo b ≡ 1091) (K : k ≤ 52) where
  -- the field less one, by which the digits are scaled
  scale : ℕ
  scale = expo b - 1

  scale_is : expo b ≡ suc scale
  unfolding scale
  scale_is = omega arith

  X : suc scale < 2047
  X = omega (arith, is, scale_is)

  -- the digits below 65,536
  rest : ℕ
  rest = b % 2 ^ 52 % 2 ^ k

  parts : 2 ^ (52 - k) * 2 ^ k ≡ 2 ^ 52
  parts =
      let e' : 52 - k + k ≡ 52 = omega arith in
      sym (pow-add 2 (52 - k) k) ∙ ap (λ (z : ℕ). 2 ^ z) e'

  P-is : 2 ^ k * 2 ^ scale ≡ 2 ^ 16 * 2 ^ 1074
  P-is = cycle_units k scale (omega (arith, is, scale_is))

  high : b / 2 ^ k * 2 ^ k / 2 ^ 52 ≡ b / 2 ^ 52
  high = cleared_high b (2 ^ k) (2 ^ (52 - k)) (pow_pos k) parts

  whole : HasValue (of_bits binary64 b) (sign b) ((2 ^ 52 + b % 2 ^ 52) * 2 ^ scale) (2 ^ 1074)
  whole = normal_value b scale scale_is X

  kept : HasValue (of_bits binary64 (b / 2 ^ k * 2 ^ k)) (sign b) ((2 ^ 52 + b % 2 ^ 52 / 2 ^ k * 2 ^ k) * 2 ^ scale) (2 ^ 1074)
  kept =
      let c = b / 2 ^ k * 2 ^ k in
      let v = normal_value c scale (ap (λ (z : ℕ). z % 2 ^ 11) high ∙ scale_is) X in
      subst (λ (z : ℕ). HasValue (of_bits binary64 c) (sign b) ((2 ^ 52 + z) * 2 ^ scale) (2 ^ 1074)) (cleared_low b (2 ^ k) (2 ^ (52 - k)) (pow_pos k) parts)
      (subst (λ (s : Bool). HasValue (of_bits binary64 c) s ((2 ^ 52 + c % 2 ^ 52) * 2 ^ scale) (2 ^ 1074)) (by_high c b high) v)

  -- what is over the multiple
  over_kept : (2 ^ 52 + b % 2 ^ 52) * 2 ^ scale ≡ (2 ^ 52 + b % 2 ^ 52 / 2 ^ k * 2 ^ k) * 2 ^ scale + rest * 2 ^ scale
  unfolding rest
  over_kept =
      let e : b % 2 ^ 52 ≡ b % 2 ^ 52 / 2 ^ k * 2 ^ k + b % 2 ^ 52 % 2 ^ k = sym (div-add-mod' (b % 2 ^ 52) (2 ^ k)) in
      let f : 2 ^ 52 + b % 2 ^ 52 ≡ 2 ^ 52 + b % 2 ^ 52 / 2 ^ k * 2 ^ k + b % 2 ^ 52 % 2 ^ k = omega arith in
      ap (λ (z : ℕ). z * 2 ^ scale) f ∙ add-mul (2 ^ 52 + b % 2 ^ 52 / 2 ^ k * 2 ^ k) (b % 2 ^ 52 % 2 ^ k) (2 ^ scale)

  -- is what the remainder is
  left : (2 ^ 52 + b % 2 ^ 52) * 2 ^ scale % (2 ^ 16 * 2 ^ 1074) ≡ rest * 2 ^ scale
  unfolding rest
  left =
      ap (λ (z : ℕ). (2 ^ 52 + b % 2 ^ 52) * 2 ^ scale % z) (sym P-is)
      ∙ sym (mod_scale (2 ^ 52 + b % 2 ^ 52) (2 ^ k) (2 ^ scale) (pow_pos k) (pow_pos scale))
      ∙ ap (λ (z : ℕ). z * 2 ^ scale) (ap (λ (z : ℕ). (z + b % 2 ^ 52) % 2 ^ k) (sym parts) ∙ mul-add-mod_self_right (2 ^ (52 - k)) (2 ^ k) (b % 2 ^ 52))

  -- no bit was cleared exactly where there is nothing over it
  none_cleared : b / 2 ^ k * 2 ^ k ≡ b → rest ≡ 0
  unfolding rest
  none_cleared e =
      let f = cleared b (2 ^ k) (2 ^ (52 - k)) (pow_pos k) parts in
      let g : b / 2 ^ 52 * 2 ^ 52 + b % 2 ^ 52 ≡ b = div-add-mod' b (2 ^ 52) in
      let h : b % 2 ^ 52 / 2 ^ k * 2 ^ k + b % 2 ^ 52 % 2 ^ k ≡ b % 2 ^ 52 = div-add-mod' (b % 2 ^ 52) (2 ^ k) in
      omega arith

  some_cleared : (b / 2 ^ k * 2 ^ k ≡ b → ⊥) → 0 < rest
  unfolding rest
  some_cleared n = elim (split 0 (b % 2 ^ 52 % 2 ^ k)) [
    | inl p ↦ p
    | inr p ↦
        let f = cleared b (2 ^ k) (2 ^ (52 - k)) (pow_pos k) parts in
        let g : b / 2 ^ 52 * 2 ^ 52 + b % 2 ^ 52 ≡ b = div-add-mod' b (2 ^ 52) in
        let h : b % 2 ^ 52 / 2 ^ k * 2 ^ k + b % 2 ^ 52 % 2 ^ k ≡ b % 2 ^ 52 = div-add-mod' (b % 2 ^ 52) (2 ^ k) in
        absurd (n (omega arith))
  ]

  -- what is kept is no NaN's pattern
  pub kept_no_nan : T (not (nan_bits binary64 (b / 2 ^ k * 2 ^ k)))
  kept_no_nan = no_nan (b / 2 ^ k * 2 ^ k) (omega (arith, is, high))

  pub nothing_left : b / 2 ^ k * 2 ^ k ≡ b → of_bits binary64 (b / 2 ^ 63 * 2 ^ 63) ≡ rem binary64 (of_bits binary64 b) cycle64
  nothing_left e =
      zero_left b ((2 ^ 52 + b % 2 ^ 52) * 2 ^ scale) l whole (left ∙ ap (λ (z : ℕ). z * 2 ^ scale) (none_cleared e) ∙ zero-mul (2 ^ scale))

  pub taken_off : (b / 2 ^ k * 2 ^ k ≡ b → ⊥) → sub binary64 (of_bits binary64 b) (of_bits binary64 (b / 2 ^ k * 2 ^ k)) ≡ rem binary64 (of_bits binary64
      b) cycle64
  taken_off n =
      let a = (2 ^ 52 + b % 2 ^ 52) * 2 ^ scale in
      let m = (2 ^ 52 + b % 2 ^ 52 / 2 ^ k * 2 ^ k) * 2 ^ scale in
      let r = rest * 2 ^ scale in
      let p : 0 < r = mul-pos (some_cleared n) (pow_pos scale) in
      let d : a - m ≡ r = omega (arith, over_kept) in
      sub_at (of_bits binary64 b) (of_bits binary64 (b / 2 ^ k * 2 ^ k)) (sign b) a m (2 ^ 1074) (pow_pos 1074) whole kept (omega (arith, over_kept, p))
      ∙ ap (λ (z : ℕ). round binary64 (sign b) z (2 ^ 1074)) (d ∙ sym left)
      ∙ sym (rem_at (of_bits binary64 b) (sign b) a (2 ^ 1074) (pow_pos 1074) whole)
