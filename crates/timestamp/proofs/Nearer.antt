-- The nearest whole number, a half away from zero: what is left of a value is exact, and the code compares it with a half. Assumes nothing.
use Rattle.std.proofs.Common.{◌≡◌, ℕ, suc, ◌+◌, ◌-◌, ◌*◌, ◌/◌, ◌^◌, ◌<◌, ◌≤◌, Bool, true, false, cond, not, ◌&&◌, T, eqb, ltb, ℤ, pos, negsuc, sym, refl}
use Rattle.std.proofs.Common.{ap, ◌∙◌, subst, inl, inr, true≢false, le_of_eq, lt_of_lt_of_le, lt_of_le_of_lt, mul-le-mul_right, mul_assoc, mul_comm}
use Rattle.std.proofs.Common.{lt_of_mul-lt-mul_right, mul-lt-mul_of_pos_right, mul-pos, mul-one, not-le_of_lt, div-mul-le_self, le_of_mul-le-mul_right}
use Rattle.std.proofs.Common.{sub-le, arith, lit<, pow_pos, pow_mono, pow-add, shl_lt, le-ltb, lt-ltb, eqb-true}
use mathlib.Core.Bool.{false≢true}
use native.Mathlib.Nat.{mul-sub}
use native.Mathlib.Nat.{lt-div-mul-add, div-eq_of_lt-le}
use lib.Pow.{pow-lt}
use lib.Ieee.{Float, nan, inf, fin, binary64, up, down, round, sum, add, sub, neg, lt, le, eq, fits}
use lib.Ieee.Fits.{down_pos}
use lib.Ieee.Exact.{HasValue, round_exact}
use lib.Ieee.Scale.{round_same}
use borrow.Author.Tests.{eqb-false}
use Rattle.timestamp.specs.Whole.{trunc_of, round_of}
use Rattle.timestamp.proofs.Basics.{split, not_true, le_true, le_false, signs_apart}
use Rattle.timestamp.proofs.Whole.{one64, holds, whole_val, cancel, times, further}

-- 0.5
abbrev pub half : Float
half = fin false 1 (negsuc 0)

-- -0.5
abbrev pub minus_half : Float
minus_half = fin true 1 (negsuc 0)

-- ---- what is left, (a - q c) / c, of the sign s or 0
left_same : (a Q D c : ℕ) → (a * D - Q * D) * c ≡ (a - Q) * (c * D)
left_same a Q D c =
    ap (λ (z : ℕ). z * c) (ap (λ (z : ℕ). z - Q * D) (mul_comm a D) ∙ ap (λ (z : ℕ). D * a - z) (mul_comm Q D) ∙ sym (mul-sub D a Q))
    ∙ ap (λ (z : ℕ). z * c) (mul_comm D (a - Q)) ∙ mul_assoc (a - Q) D c ∙ ap (λ (z : ℕ). (a - Q) * z) (mul_comm D c)

abbrev picked : Bool → Bool → Bool → ℕ → ℕ → ℕ → Float
picked s x y A B C = cond x (round binary64 (not s) (B - A) C) (round binary64 (s && y) (A - B) C)

module _ (s : Bool) (m n q : ℕ) (e d : ℤ) (v : n * up d * 1 ≡ q * down d) (l : q * down e ≤ m * up e) where
  picks : picked s (ltb (m * up e * down d) (n * up d * down e)) (ltb (n * up d * down e) (m * up e * down d)) (m * up e * down d) (n * up d * down e)
      (down e * down d)
      ≡ round binary64 (s && ltb (q * down e) (m * up e)) (m * up e - q * down e) (down e)
  picks =
      let a = m * up e in
      let Q = q * down e in
      let D = down d in
      ap (λ (B : ℕ). picked s (ltb (a * D) B) (ltb B (a * D)) (a * D) B (down e * D)) (times (n * up d) q D (down e) v)
      ∙ ap (λ (x : Bool). picked s x (ltb (Q * D) (a * D)) (a * D) (Q * D) (down e * D)) (cancel a Q D (down_pos d) ∙ le-ltb a Q l)
      ∙ ap (λ (y : Bool). round binary64 (s && y) (a * D - Q * D) (down e * D)) (cancel Q a D (down_pos d))
      ∙ round_same binary64 (s && ltb Q a) (a * D - Q * D) (down e * D) (a - Q) (down e) (mul-pos (down_pos e) (down_pos d)) (down_pos e)
      (left_same a Q D (down e))

rest_is : (t : Float) (s : Bool) (q m : ℕ) (e : ℤ) → HasValue t s q 1 → q * down e ≤ m * up e
    → sub binary64 (fin s m e) t ≡ round binary64 (s && ltb (q * down e) (m * up e)) (m * up e - q * down e) (down e)
unfolding sub neg add sum
rest_is nan s q m e v l = absurd v
rest_is (inf t) s q m e v l = absurd v
rest_is (fin true n d) true q m e v l = picks true m n q e d v.1 l
rest_is (fin false n d) false q m e v l = picks false m n q e d v.1 l
rest_is (fin true n d) false q m e v l = absurd (true≢false v.0)
rest_is (fin false n d) true q m e v l = absurd (false≢true v.0)

-- it is exact
rest_val : (z s : Bool) (m : ℕ) (e : ℤ) → T (fits binary64 (fin s m e))
    → HasValue (round binary64 z (m * up e - m * up e / down e * down e) (down e)) z (m * up e - m * up e / down e * down e) (down e)
rest_val z s m (pos k) f =
    let r : m * 2 ^ k - m * 2 ^ k / 1 * 1 ≡ 0 = omega arith in
    subst (λ (y : ℕ). HasValue (round binary64 z y 1) z y 1) (sym r) (round_exact binary64 z 0 1 0 0 (lit< tt) (lit< tt) (lit< tt) refl)
rest_val z s m (negsuc k) f =
    let g = holds s m (negsuc k) f in
    let c = 2 ^ suc k in
    let r = m * 1 - m * 1 / c * c in
    let R : r < 2 ^ 53 = lt_of_le_of_lt (sub-le (m * 1) (m * 1 / c * c)) (lt_of_le_of_lt (le_of_eq (mul-one m)) g.0) in
    let K : suc k ≤ 1074 = small (suc k) 1074 g.1 in
    let j = 1074 - suc k in
    let jk : j + suc k ≡ 1074 = omega arith in
    let y : 53 + j ≤ 1074 + 1024 = omega arith in
    round_exact binary64 z r c r j (pow_pos (suc k)) R (lt_of_lt_of_le (shl_lt 53 j R) (pow_mono y))
    (ap (λ (x : ℕ). r * x) (ap (λ (x : ℕ). 2 ^ x) (sym jk) ∙ pow-add 2 j (suc k)) ∙ sym (mul_assoc r (2 ^ j) c))
  where
    small : (a b : ℕ) → 2 ^ a ≤ 2 ^ b → a ≤ b
    small a b h = elim (split b a) [ inl l ↦ absurd (not-le_of_lt (pow-lt {i = b} {j = a} l) h) | inr l ↦ l ]

-- ---- against a half
-- n / 1 over d is r / c, so d ≤ 2 n where c ≤ 2 r, and the other way round
cross_le : (n d r c : ℕ) → 0 < d → n * c ≡ r * d → d ≤ n * 2 → 0 < c → c ≤ r * 2
cross_le n d r c D e h C =
    let p = mul-le-mul_right c h in
    let q : c * d ≤ r * 2 * d = omega (arith, p, e) in
    le_of_mul-le-mul_right {k = d} q D

cross_lt : (n d r c : ℕ) → 0 < c → n * c ≡ r * d → n * 2 < d → r * 2 < c
cross_lt n d r c C e h =
    let p = mul-lt-mul_of_pos_right {k = c} h C in
    let q : r * 2 * d < c * d = omega (arith, p, e) in
    lt_of_mul-lt-mul_right d q

module _ (r c : ℕ) (C : 0 < c) where
  at_least : (y : Float) → HasValue y false r c → le half y ≡ true → c ≤ r * 2
  unfolding le lt eq
  at_least nan v h = absurd v
  at_least (inf t) v h = absurd v
  at_least (fin true n d) v h = absurd (true≢false v.0)
  at_least (fin false n d) v h = cross_le (n * up d) (down d) r c (down_pos d) v.1
      (omega (arith, le_true (eqb (1 * down d) (n * up d * 2)) true (eqb-true (1 * down d) (n * up d * 2)) h)) C

  under : (y : Float) → HasValue y false r c → le half y ≡ false → r * 2 < c
  unfolding le lt eq
  under nan v h = absurd v
  under (inf t) v h = absurd v
  under (fin true n d) v h = absurd (true≢false v.0)
  under (fin false n d) v h = cross_lt (n * up d) (down d) r c C v.1
      (omega (arith, le_false (eqb (1 * down d) (n * up d * 2)) (eqb-false (1 * down d) (n * up d * 2)) h))

  at_least⁻ : (y : Float) → HasValue y true r c → le y minus_half ≡ true → c ≤ r * 2
  unfolding le lt eq
  at_least⁻ nan v h = absurd v
  at_least⁻ (inf t) v h = absurd v
  at_least⁻ (fin false n d) v h = absurd (false≢true v.0)
  at_least⁻ (fin true n d) v h = cross_le (n * up d) (down d) r c (down_pos d) v.1
      (omega (arith, le_true (eqb (n * up d * 2) (1 * down d)) true (λ p. sym (eqb-true (n * up d * 2) (1 * down d) p)) h)) C

  under⁻ : (y : Float) → HasValue y true r c → le y minus_half ≡ false → r * 2 < c
  unfolding le lt eq
  under⁻ nan v h = absurd v
  under⁻ (inf t) v h = absurd v
  under⁻ (fin false n d) v h = absurd (false≢true v.0)
  under⁻ (fin true n d) v h = cross_lt (n * up d) (down d) r c C v.1
      (omega (arith, le_false (eqb (n * up d * 2) (1 * down d)) (λ p q. eqb-false (n * up d * 2) (1 * down d) p (sym q)) h))

  no_half : (y : Float) → HasValue y true r c → le half y ≡ true → ⊥
  unfolding le lt eq
  no_half nan v h = v
  no_half (inf t) v h = v
  no_half (fin false n d) v h = false≢true v.0
  no_half (fin true n d) v h = signs_apart (1 * down d) (n * up d * 2) (omega (arith, down_pos d)) h

  no_half⁻ : (y : Float) → HasValue y false r c → le y minus_half ≡ true → ⊥
  unfolding le lt eq
  no_half⁻ nan v h = v
  no_half⁻ (inf t) v h = v
  no_half⁻ (fin true n d) v h = true≢false v.0
  no_half⁻ (fin false n d) v h = signs_apart (n * up d * 2) (1 * down d) (omega (arith, down_pos d)) h

-- ---- the nearest
near_up : (a c : ℕ) → 0 < c → c ≤ (a - a / c * c) * 2 → (a * 2 + c) / (c * 2) ≡ a / c + 1
near_up a c C h =
    let p = div-mul-le_self a c in
    let u = lt-div-mul-add {a = a} {b = c} C in
    div-eq_of_lt-le (c * 2) (omega arith) (omega arith)

near_same : (a c : ℕ) → 0 < c → (a - a / c * c) * 2 < c → (a * 2 + c) / (c * 2) ≡ a / c
near_same a c C h =
    let p = div-mul-le_self a c in
    div-eq_of_lt-le (c * 2) (omega arith) (omega arith)

-- ---- the code's three ways
abbrev left : ℕ → ℤ → ℕ
left m e = m * up e - m * up e / down e * down e

abbrev part : Bool → ℕ → ℤ → Float
part s m e = round binary64 s (m * up e / down e) 1

module _ (s : Bool) (m : ℕ) (e : ℤ) (f : T (fits binary64 (fin s m e))) where
  -- the difference, where something is left and where nothing is
  some : m * up e / down e * down e < m * up e → HasValue (sub binary64 (fin s m e) (part s m e)) s (left m e) (down e)
  some l =
      subst (λ (y : Float). HasValue y s (left m e) (down e))
      (sym (rest_is (part s m e) s (m * up e / down e) m e (whole_val s m e f) (div-mul-le_self (m * up e) (down e))))
      (subst (λ (z : Bool). HasValue (round binary64 z (left m e) (down e)) s (left m e) (down e))
      (sym (ap (λ (b : Bool). s && b) (lt-ltb (m * up e / down e * down e) (m * up e) l) ∙ and_true s)) (rest_val s s m e f))
    where
      and_true : (b : Bool) → b && true ≡ b
      and_true true = refl
      and_true false = refl

  none : m * up e ≤ m * up e / down e * down e → HasValue (sub binary64 (fin s m e) (part s m e)) false (left m e) (down e)
  none l =
      subst (λ (y : Float). HasValue y false (left m e) (down e))
      (sym (rest_is (part s m e) s (m * up e / down e) m e (whole_val s m e f) (div-mul-le_self (m * up e) (down e))))
      (subst (λ (z : Bool). HasValue (round binary64 z (left m e) (down e)) false (left m e) (down e))
      (sym (ap (λ (b : Bool). s && b) (le-ltb (m * up e / down e * down e) (m * up e) l) ∙ and_false s)) (rest_val false s m e f))
    where
      and_false : (b : Bool) → b && false ≡ false
      and_false true = refl
      and_false false = refl

too_small : (a b c : ℕ) → 0 < c → a ≤ b → c ≤ (a - b) * 2 → ⊥
too_small a b c C l h = omega arith

nothing : (a b c : ℕ) → 0 < c → a ≤ b → (a - b) * 2 < c
nothing a b c C l = omega arith

-- a rest of 0.5 or more: the next whole number up is the nearest
pub up_half : (x : Float) → T (fits binary64 x) → le half (sub binary64 x (trunc_of x)) ≡ true → add binary64 (trunc_of x) one64 ≡ round_of x
unfolding trunc_of round_of le lt eq sub add neg
up_half nan f h = not_true h
up_half (inf true) f h = not_true h
up_half (inf false) f h = not_true h
up_half (fin true m e) f h = elim (split (m * up e / down e * down e) (m * up e)) [
  | inl l ↦ absurd (no_half (left m e) (down e) (down_pos e) (sub binary64 (fin true m e) (part true m e)) (some true m e f l) h)
  | inr l ↦ absurd (too_small (m * up e) (m * up e / down e * down e) (down e) (down_pos e) l
      (at_least (left m e) (down e) (down_pos e) (sub binary64 (fin true m e) (part true m e)) (none true m e f l) h))
]
up_half (fin false m e) f h = elim (split (m * up e / down e * down e) (m * up e)) [
  | inl l ↦ further (part false m e) false (m * up e / down e) (whole_val false m e f)
      ∙ ap (λ (z : ℕ). round binary64 false z 1) (sym (near_up (m * up e) (down e) (down_pos e)
      (at_least (left m e) (down e) (down_pos e) (sub binary64 (fin false m e) (part false m e)) (some false m e f l) h)))
  | inr l ↦ absurd (too_small (m * up e) (m * up e / down e * down e) (down e) (down_pos e) l
      (at_least (left m e) (down e) (down_pos e) (sub binary64 (fin false m e) (part false m e)) (none false m e f l) h))
]

-- a rest of -0.5 or less: the next one down is
pub down_half : (x : Float) → T (fits binary64 x) → le (sub binary64 x (trunc_of x)) minus_half ≡ true → sub binary64 (trunc_of x) one64 ≡ round_of x
unfolding trunc_of round_of le lt eq sub add neg
down_half nan f h = not_true h
down_half (inf true) f h = not_true h
down_half (inf false) f h = not_true h
down_half (fin false m e) f h = elim (split (m * up e / down e * down e) (m * up e)) [
  | inl l ↦ absurd (no_half⁻ (left m e) (down e) (down_pos e) (sub binary64 (fin false m e) (part false m e)) (some false m e f l) h)
  | inr l ↦ absurd (no_half⁻ (left m e) (down e) (down_pos e) (sub binary64 (fin false m e) (part false m e)) (none false m e f l) h)
]
down_half (fin true m e) f h = elim (split (m * up e / down e * down e) (m * up e)) [
  | inl l ↦ further (part true m e) true (m * up e / down e) (whole_val true m e f)
      ∙ ap (λ (z : ℕ). round binary64 true z 1) (sym (near_up (m * up e) (down e) (down_pos e)
      (at_least⁻ (left m e) (down e) (down_pos e) (sub binary64 (fin true m e) (part true m e)) (some true m e f l) h)))
  | inr l ↦ absurd (no_half⁻ (left m e) (down e) (down_pos e) (sub binary64 (fin true m e) (part true m e)) (none true m e f l) h)
]

-- any other rest: the whole part is
pub no_way : (x : Float) → T (fits binary64 x) → le half (sub binary64 x (trunc_of x)) ≡ false → le (sub binary64 x (trunc_of x)) minus_half ≡ false
    → trunc_of x ≡ round_of x
unfolding trunc_of round_of
no_way nan f h k = refl
no_way (inf s) f h k = refl
no_way (fin true m e) f h k = elim (split (m * up e / down e * down e) (m * up e)) [
  | inl l ↦ ap (λ (z : ℕ). round binary64 true z 1) (sym (near_same (m * up e) (down e) (down_pos e)
      (under⁻ (left m e) (down e) (down_pos e) (sub binary64 (fin true m e) (part true m e)) (some true m e f l) k)))
  | inr l ↦ ap (λ (z : ℕ). round binary64 true z 1) (sym (near_same (m * up e) (down e) (down_pos e)
      (nothing (m * up e) (m * up e / down e * down e) (down e) (down_pos e) l)))
]
no_way (fin false m e) f h k = elim (split (m * up e / down e * down e) (m * up e)) [
  | inl l ↦ ap (λ (z : ℕ). round binary64 false z 1) (sym (near_same (m * up e) (down e) (down_pos e)
      (under (left m e) (down e) (down_pos e) (sub binary64 (fin false m e) (part false m e)) (some false m e f l) h)))
  | inr l ↦ ap (λ (z : ℕ). round binary64 false z 1) (sym (near_same (m * up e) (down e) (down_pos e)
      (nothing (m * up e) (m * up e / down e * down e) (down e) (down_pos e) l)))
]
