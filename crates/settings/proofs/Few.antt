-- Samples needed and a rate that pass: 1 to 16 samples are left out at each end, and 3 to 64 are stored. Assumes nothing.
use Rattle.std.proofs.Common.{◌≡◌, ℕ, zero, suc, ◌+◌, ◌-◌, ◌*◌, ◌/◌, ◌^◌, ◌<◌, ◌≤◌, Bool, true, false, cond, ◌&&◌, T, ltb, leb, ◌⊎◌, ℤ, pos, sym, refl, ap}
use Rattle.std.proofs.Common.{◌∙◌, subst, inl, inr, true≢false, le_trans, le_of_suc-le-suc, mul-le-mul_right, div-lt_iff_lt-mul, mul-pos, le-div_iff_mul-le}
use Rattle.std.proofs.Common.{mul-one, le_of_mul-le-mul_right, mul-div_cancel, arith, lit<, lit≤, ltb-true, leb-true}
use mathlib.Core.Bool.{false≢true}
use lib.Ieee.{Float, nan, inf, fin, Format, binary64, low, emax, prec, up, down, odd, units, round, mul, div, lt, le, eq, of_int, to_unsigned}
use lib.Ieee.Fits.{down_pos}
use lib.Ieee.Bits.{is_true}
use lib.Ieee.Exact.{HasValue}
use lib.Ieee.Back.{round_whole}
use lib.Ieee.Order.{round_mono}
use lib.Ieee.Scale.{finite}
use Rattle.timestamp.specs.Whole.{ceil_of}
use Rattle.settings.specs.Settings.{at_least_one, discard_of, store_of, samples_pass}
use Rattle.timestamp.specs.Floats.{between, one64, two64, zero64}
use Rattle.settings.proofs.Tests.{le_at}
use Rattle.timestamp.proofs.Tests.{apart}
use Rattle.settings.proofs.Discard.{plus, round_plus, above_one, not_above_one}

-- ---- a float with the sign minus is not above 1

minus : Float → Bool
minus nan = false
minus (inf s) = s
minus (fin s m e) = s

odd_is_minus : (d q k l : ℕ) → T (minus (odd d true q k l))
unfolding odd minus
odd_is_minus d zero k l = tt
odd_is_minus d (suc q) k l = tt

units_minus : (f : Format) (q k : ℕ) → T (minus (units f true q k))
unfolding units minus
units_minus f q k = go (ltb (q * 2 ^ k) (2 ^ (low f + suc (emax f))))
  where
    go : (b : Bool) → T (minus (cond b (odd (suc (prec f)) true q k (low f)) (inf true)))
    go true = odd_is_minus (suc (prec f)) q k (low f)
    go false = tt

round_minus : (f : Format) (a c : ℕ) → T (minus (round f true a c))
unfolding round
round_minus f a c = units_minus f _ _

halved_minus : (x : Float) → T (minus x) → T (minus (div binary64 x two64))
unfolding div minus
halved_minus nan p = absurd p
halved_minus (inf true) p = tt
halved_minus (inf false) p = absurd p
halved_minus (fin true m e) p = round_minus binary64 (m * up e * 1) (1 * 2 * down e)
halved_minus (fin false m e) p = absurd p

minus_low : (x : Float) → T (minus x) → lt one64 x ≡ false
unfolding lt minus
minus_low nan p = absurd p
minus_low (inf true) p = refl
minus_low (inf false) p = absurd p
minus_low (fin true m e) p = refl
minus_low (fin false m e) p = absurd p

-- ---- bounds of floats with the sign plus

-- at most the whole number n
UpTo : ℕ → Float → Type 0
UpTo n nan = ⊥
UpTo n (inf s) = ⊥
UpTo n (fin true m e) = ⊥
UpTo n (fin false m e) = m * up e ≤ n * down e

-- a D ≤ b E and b ≡ n D, so a ≤ n E
scaled : (a e b d n : ℕ) → a * d ≤ b * e → b * 1 ≡ n * d → 0 < d → a ≤ n * e
scaled a e b d n h v D =
    let k = ap (λ (z : ℕ). z * e) v in
    let l : a * d ≤ n * e * d = omega (arith, h, k) in
    le_of_mul-le-mul_right l D

of_le_value : (n : ℕ) (x y : Float) → T (plus x) → T (le x y) → HasValue y false n 1 → UpTo n x
unfolding le lt eq UpTo
of_le_value n nan y p h v = absurd p
of_le_value n (inf true) y p h v = absurd p
of_le_value n (inf false) nan p h v = absurd h
of_le_value n (inf false) (inf s) p h v = absurd v
of_le_value n (inf false) (fin s m e) p h v = absurd h
of_le_value n (fin true m e) y p h v = absurd p
of_le_value n (fin false m e) nan p h v = absurd h
of_le_value n (fin false m e) (inf s) p h v = absurd v
of_le_value n (fin false m e) (fin true k d) p h v = absurd (true≢false v.0)
of_le_value n (fin false m e) (fin false k d) p h v = scaled (m * up e) (down e) (k * up d) (down d) n
    (le_at (m * up e * down d) (k * up d * down e) (is_true _ h)) v.1 (down_pos d)

-- a fraction that is at most n, rounded, is at most n
round_up_to : (n a c : ℕ) → n ≤ 2 ^ 53 → 0 < c → a ≤ n * c → UpTo n (round binary64 false a c)
round_up_to n a c s C h = of_le_value n (round binary64 false a c) (round binary64 false n 1) (round_plus binary64 a c)
    (round_mono binary64 a c n 1 C (lit< tt) (omega arith)) (round_whole binary64 false n s)

-- ---- the product and the quotient by 2

product_up_to : (n : ℕ) (x r : Float) → n ≤ 2 ^ 53 → HasValue x false n 1 → UpTo 1 r → UpTo n (mul binary64 x r)
unfolding mul UpTo
product_up_to n nan r s v u = absurd v
product_up_to n (inf t) r s v u = absurd v
product_up_to n (fin true m e) r s v u = absurd (true≢false v.0)
product_up_to n (fin false m e) nan s v u = absurd u
product_up_to n (fin false m e) (inf t) s v u = absurd u
product_up_to n (fin false m e) (fin true k d) s v u = absurd u
product_up_to n (fin false m e) (fin false k d) s v u =
    round_up_to n (m * up e * (k * up d)) (down e * down d) s (mul-pos (down_pos e) (down_pos d)) (fits_in (m * up e) (down e) (k * up d) (down d) v.1 u)
  where
    fits_in : (a e b d : ℕ) → a * 1 ≡ n * e → b ≤ 1 * d → a * b ≤ n * (e * d)
    fits_in a e b d h k = let l = mul-le-mul_right a k in let g = ap (λ (z : ℕ). z * d) h in omega arith

half_up_to : (n : ℕ) (x : Float) → n ≤ 2 ^ 53 → UpTo (n * 2) x → UpTo n (div binary64 x two64)
unfolding div UpTo
half_up_to n nan s u = absurd u
half_up_to n (inf t) s u = absurd u
half_up_to n (fin true m e) s u = absurd u
half_up_to n (fin false m e) s u = round_up_to n (m * up e * 1) (1 * 2 * down e) s (omega (arith, down_pos e)) (omega (arith, u))

-- ---- rounded up and cut to 16 bits

cut_value : (k : ℕ) (y : Float) → k < 2 ^ 16 → HasValue y false k 1 → to_unsigned 16 y ≡ k
unfolding to_unsigned
cut_value k nan s v = absurd v
cut_value k (inf t) s v = absurd v
cut_value k (fin true m e) s v = absurd (true≢false v.0)
cut_value k (fin false m e) s v =
    let q : m * up e / down e ≡ k = ap (λ (z : ℕ). z / down e) (sym (mul-one (m * up e)) ∙ v.1) ∙ mul-div_cancel k (down_pos e) in
    omega arith

-- the next whole number up
abbrev next : ℕ → ℤ → ℕ
next m e = (m * up e + (down e - 1)) / down e

next_few : (n m : ℕ) (e : ℤ) → m * up e ≤ n * down e → next m e ≤ n
next_few n m e h = le_of_suc-le-suc ((div-lt_iff_lt-mul (down_pos e)).1 (omega (arith, h, down_pos e)))

next_some : (m : ℕ) (e : ℤ) → 1 * down e < m * up e → 1 ≤ next m e
next_some m e h = (le-div_iff_mul-le (down_pos e)).1 (omega arith)

ceil_is : (m : ℕ) (e : ℤ) → next m e < 2 ^ 16 → to_unsigned 16 (ceil_of (fin false m e)) ≡ next m e
unfolding ceil_of
ceil_is m e h = cut_value (next m e) (round binary64 false (next m e) 1) h (round_whole binary64 false (next m e) (omega arith))

-- a number above 1 and at most n is n at most, rounded up, and 1 at least
ceil_few : (n : ℕ) (x : Float) → n < 2 ^ 16 → UpTo n x → lt one64 x ≡ true → (1 ≤ to_unsigned 16 (ceil_of x)) × (to_unsigned 16 (ceil_of x) ≤ n)
unfolding lt UpTo
ceil_few n nan s u h = absurd u
ceil_few n (inf t) s u h = absurd u
ceil_few n (fin true m e) s u h = absurd u
ceil_few n (fin false m e) s u h =
    let f = next_few n m e u in
    let c = ceil_is m e (omega (arith, f)) in
    let o = next_some m e (omega (arith, ltb-true (1 * down e) (m * up e * 1) h)) in
    (omega (arith, c, o), omega (arith, c, f))

-- ---- a rate from 0 to 1 has the sign plus and is at most 1, or it is -0

rate_cases : (r : Float) → le zero64 r ≡ true → le r one64 ≡ true → UpTo 1 r ⊎ T (minus r)
unfolding le lt eq UpTo minus
rate_cases nan h k = absurd (false≢true h)
rate_cases (inf true) h k = inr tt
rate_cases (inf false) h k = absurd (false≢true k)
rate_cases (fin true m e) h k = inr tt
rate_cases (fin false m e) h k = inl (omega (arith, le_at (m * up e * 1) (1 * down e) k))

product_minus : (n : ℕ) (x r : Float) → HasValue x false n 1 → T (finite r) → T (minus r) → T (minus (mul binary64 x r))
unfolding mul minus
product_minus n nan r v f p = absurd v
product_minus n (inf t) r v f p = absurd v
product_minus n (fin true m e) r v f p = absurd (true≢false v.0)
product_minus n (fin false m e) nan v f p = absurd p
product_minus n (fin false m e) (inf t) v f p = absurd f
product_minus n (fin false m e) (fin false k d) v f p = absurd p
product_minus n (fin false m e) (fin true k d) v f p = round_minus binary64 (m * up e * (k * up d)) (down e * down d)

finite_between : (r : Float) → le zero64 r ≡ true → le r one64 ≡ true → T (finite r)
unfolding le lt eq
finite_between nan h k = absurd (false≢true h)
finite_between (inf true) h k = absurd (false≢true h)
finite_between (inf false) h k = absurd (false≢true k)
finite_between (fin s m e) h k = tt

of_whole : (n : ℕ) → n ≤ 32 → HasValue (of_int binary64 (pos n)) false n 1
unfolding of_int
of_whole n h = round_whole binary64 false n (omega arith)

-- half of the outliers to be expected
abbrev half : ℕ → Float → Float
half needed rate = div binary64 (mul binary64 (of_int binary64 (pos needed)) rate) two64

half_cases : (n : ℕ) (r : Float) → n ≤ 32 → le zero64 r ≡ true → le r one64 ≡ true → UpTo 16 (half n r) ⊎ (lt one64 (half n r) ≡ false)
unfolding UpTo
half_cases n r h a b = elim (rate_cases r a b) [
  | inl u ↦ inl (half_up_to 16 (mul binary64 (of_int binary64 (pos n)) r) (lit≤ tt)
      (wider n 32 (mul binary64 (of_int binary64 (pos n)) r) h (product_up_to n (of_int binary64 (pos n)) r (omega arith) (of_whole n h) u)))
  | inr p ↦ inr (minus_low (half n r) (halved_minus (mul binary64 (of_int binary64 (pos n)) r)
      (product_minus n (of_int binary64 (pos n)) r (of_whole n h) (finite_between r a b) p)))
]
  where
    wider : (n k : ℕ) (x : Float) → n ≤ k → UpTo n x → UpTo k x
    wider n k nan h u = absurd u
    wider n k (inf s) h u = absurd u
    wider n k (fin true m e) h u = absurd u
    wider n k (fin false m e) h u = le_trans u (mul-le-mul_right (down e) h)

-- ---- the laws

module _ (needed : ℕ) (rate : Float) (pass : samples_pass needed rate ≡ true) where
  parts : (1 ≤ needed) × (needed ≤ 32) × (le zero64 rate ≡ true) × (le rate one64 ≡ true)
  unfolding samples_pass
  parts =
      let a = apart (leb 1 needed && leb needed 32) (between zero64 one64 rate) pass in
      let b = apart (leb 1 needed) (leb needed 32) a.0 in
      let c = apart (le zero64 rate) (le rate one64) a.1 in
      (leb-true 1 needed b.0, leb-true needed 32 b.1, c.0, c.1)

  -- 1 to 32 samples are needed
  pub needed_range : (1 ≤ needed) × (needed ≤ 32)
  needed_range = (parts.0, parts.1)

  -- the rate is from 0 to 1
  pub rate_range : T (le zero64 rate) × T (le rate one64)
  rate_range = (subst T (sym parts.2) tt, subst T (sym parts.3) tt)

  -- 1 to 16 samples are left out at each end
  pub discard_range : (1 ≤ discard_of needed rate) × (discard_of needed rate ≤ 16)
  unfolding discard_of
  discard_range = go (lt one64 (half needed rate)) refl
    where
      go : (b : Bool) → lt one64 (half needed rate) ≡ b → (1 ≤ to_unsigned 16 (ceil_of (at_least_one (half needed rate))))
          × (to_unsigned 16 (ceil_of (at_least_one (half needed rate))) ≤ 16)
      go false e = let o = not_above_one (half needed rate) e in (omega (arith, o), omega (arith, o))
      go true e = elim (half_cases needed rate parts.1 parts.2 parts.3) [
        | inl u ↦ subst (λ (x : Float). (1 ≤ to_unsigned 16 (ceil_of x)) × (to_unsigned 16 (ceil_of x) ≤ 16)) (sym (above_one (half needed rate) e))
            (ceil_few 16 (half needed rate) (lit< tt) u e)
        | inr n ↦ absurd (true≢false (sym e ∙ n))
      ]

  -- 3 to 64 samples are stored
  pub store_range : (3 ≤ store_of needed rate) × (store_of needed rate ≤ 64)
  store_range = let d = discard_range in (omega (arith, d.0, parts.0), omega (arith, d.1, parts.1))
