-- What settings that pass are like: each limit of refusal 1 by itself, and what follows for the derived numbers. Assumes nothing.
use Rattle.std.proofs.Common.{◌≡◌, ℕ, zero, suc, ◌+◌, ◌-◌, ◌*◌, ◌^◌, ◌<◌, ◌≤◌, Bool, true, false, cond, ◌&&◌, ◌||◌, T, eqb, leb, ℤ, pos, negsuc, sym, refl}
use Rattle.std.proofs.Common.{ap, ◌∙◌, subst, inl, inr, lt_of_lt_of_le, zero-lt-suc, mul_assoc, mul-pos, one-mul, mul-one, not-le_of_lt, arith, lit<, lit≤}
use Rattle.std.proofs.Common.{pow_pos, pow_mono, pow-add, shl_lt, ne_eqb, eqb-true, leb-true}
use mathlib.Core.Bool.{false≢true}
use lib.Pow.{pow-lt}
use lib.Signed.{le_z}
use lib.Ieee.{Float, nan, inf, fin, binary64, fits, unlike, up, down, round, mul, div, lt, le, eq, to_signed}
use lib.Ieee.Fits.{down_pos, up_pos}
use lib.Ieee.Bits.{is_true}
use lib.Ieee.Positive.{num, den}
use lib.Ieee.Exact.{HasValue, round_exact}
use lib.Ieee.Scale.{finite, round_same}
use Rattle.timestamp.specs.Timestamps.{bits_of}
use Rattle.timestamp.specs.Whole.{round_of}
use Rattle.timestamp.specs.FloatTimestamps.{stamp_of}
use Rattle.timestamp.proofs.Whole.{holds}
use Rattle.timestamp.proofs.Basics.{split, signs_apart}
use Rattle.settings.specs.declared.Settings.{Settings}
use Rattle.settings.specs.Tweening.{known_of}
use Rattle.settings.specs.Settings.{sixty64, lag_frames_of, lag_frame_count_of, samples_to_discard_of, samples_to_store_of}
use Rattle.timestamp.specs.Floats.{least64, sixty_four64, hour64, between, zero64, one64}
use Rattle.settings.specs.Settings.{seconds_pass, thresholds_pass, samples_pass, counts_pass, passes_of}
use Rattle.settings.proofs.Tests.{le_at}
use Rattle.timestamp.proofs.Tests.{apart}
use Rattle.settings.proofs.Discard.{plus, round_plus}
use Rattle.settings.proofs.Few.{discard_range, store_range}

-- x is finite and from lo to hi, as the tests of a program say it
pub record Limited (lo hi x : Float) : Type 0 where
  pub number : T (finite x)
  pub low : T (le lo x)
  pub high : T (le x hi)

is : (b : Bool) → b ≡ true → T b
is b p = subst T (sym p) tt

-- what lies between two finite floats is finite
finite_in : (lo hi x : Float) → T (finite lo) → T (finite hi) → le lo x ≡ true → le x hi ≡ true → T (finite x)
unfolding le lt eq
finite_in nan hi x p q h k = absurd p
finite_in (inf s) hi x p q h k = absurd p
finite_in (fin s m e) hi nan p q h k = absurd (false≢true h)
finite_in (fin s m e) hi (inf true) p q h k = absurd (false≢true h)
finite_in (fin s m e) nan (inf false) p q h k = absurd q
finite_in (fin s m e) (inf t) (inf false) p q h k = absurd q
finite_in (fin s m e) (fin t n d) (inf false) p q h k = absurd (false≢true k)
finite_in (fin s m e) hi (fin t n d) p q h k = tt

pub within_of : (lo hi x : Float) → T (finite lo) → T (finite hi) → between lo hi x ≡ true → Limited lo hi x
within_of lo hi x p q h =
    let a = apart (le lo x) (le x hi) h in
    record { number = finite_in lo hi x p q a.0 a.1; low = is _ a.0; high = is _ a.1 }

-- ---- a lag that is not negative, in frames

-- a whole number with the sign plus, cut
signed_plus : (x : Float) → T (plus x) → to_signed 15 x ≡ pos (bits_of (to_signed 15 x))
unfolding to_signed
signed_plus nan p = absurd p
signed_plus (inf true) p = absurd p
signed_plus (inf false) p = refl
signed_plus (fin true m e) p = absurd p
signed_plus (fin false m e) p = refl

round_of_plus : (x : Float) → T (plus x) → T (plus (round_of x))
unfolding round_of
round_of_plus nan p = absurd p
round_of_plus (inf true) p = absurd p
round_of_plus (inf false) p = p
round_of_plus (fin true m e) p = absurd p
round_of_plus (fin false m e) p = round_plus binary64 _ _

-- a quotient by a number that is not 0
quotient_is : (s : Bool) (m : ℕ) (e : ℤ) (n : ℕ) (d : ℤ) → div binary64 (fin s m e) (fin false (suc n) d) ≡ round binary64 (unlike s false)
    (m * up e * down d) (suc n * up d * down e)
unfolding div
quotient_is s m e n d = ap (λ (b : Bool). cond b (cond (eqb m 0) nan (inf (unlike s false)))
    (round binary64 (unlike s false) (m * up e * down d) (suc n * up d * down e))) (ne_eqb (suc n) 0 (omega arith))

-- it is plus, or it is -0 where the lag is
quotient_plus : (m : ℕ) (e : ℤ) (n : ℕ) (d : ℤ) → T (plus (div binary64 (fin false m e) (fin false (suc n) d)))
quotient_plus m e n d = subst (λ (x : Float). T (plus x)) (sym (quotient_is false m e n d)) (round_plus binary64 _ _)

quotient_zero : (e : ℤ) (n : ℕ) (d : ℤ) → div binary64 (fin true 0 e) (fin false (suc n) d) ≡ fin true 0 (pos 0)
unfolding round
quotient_zero e n d =
    quotient_is true 0 e n d ∙ round_same binary64 true (0 * up e * down d) (suc n * up d * down e) 0 1
    (mul-pos (mul-pos (zero-lt-suc n) (up_pos d)) (down_pos e)) (lit< tt) (none (up e) (down d) (suc n * up d * down e))
  where
    none : (a b c : ℕ) → 0 * a * b * 1 ≡ 0 * c
    none a b c = omega arith

no_frames : stamp_of (round_of (fin true 0 (pos 0))) ≡ pos 0
unfolding stamp_of round_of to_signed round
no_frames = refl

-- what is plus or -0 has a number of frames that is not negative
Counted : ℤ → Type 0
Counted z = z ≡ pos (bits_of z)

counted_plus : (x : Float) → T (plus x) → Counted (stamp_of (round_of x))
unfolding stamp_of Counted
counted_plus x p = signed_plus (round_of x) (round_of_plus x p)

counted_zero : Counted (stamp_of (round_of (fin true 0 (pos 0))))
unfolding Counted
counted_zero = no_frames ∙ sym (ap (λ (z : ℤ). pos (bits_of z)) no_frames)

some : (m u w : ℕ) → 0 < u → eqb (0 * 1 * w) (suc m * u * 1) && (false || eqb (0 * 1 * w) 0) ≡ true → ⊥
some m u w U h =
    let z : 0 * 1 * w ≡ suc m * u * 1 = eqb-true (0 * 1 * w) (suc m * u * 1) (apart (eqb (0 * 1 * w) (suc m * u * 1)) (false || eqb (0 * 1 * w) 0) h).0 in
    let p = mul-pos (zero-lt-suc m) U in
    omega arith

lag_counted : (lag timestep : Float) → le zero64 lag ≡ true → T (finite lag) → le least64 timestep ≡ true → T (finite timestep)
    → Counted (lag_frames_of lag timestep)
unfolding lag_frames_of le lt eq
lag_counted lag nan h p k q = absurd q
lag_counted lag (inf s) h p k q = absurd q
lag_counted nan (fin s n d) h p k q = absurd p
lag_counted (inf t) (fin s n d) h p k q = absurd p
lag_counted (fin t m e) (fin true n d) h p k q = absurd (signs_apart (1 * down d) (n * up d * 1024) (omega (arith, down_pos d)) k)
lag_counted (fin t m e) (fin false zero d) h p k q = absurd (none (1 * 1 * down d) (0 * up d * 1024) (omega (arith, down_pos d))
    (le_at (1 * 1 * down d) (0 * up d * 1024) k))
  where
    none : (a b : ℕ) → b < a → a ≤ b → ⊥
    none a b h k = omega arith
lag_counted (fin false m e) (fin false (suc n) d) h p k q = counted_plus (div binary64 (fin false m e) (fin false (suc n) d)) (quotient_plus m e n d)
lag_counted (fin true zero e) (fin false (suc n) d) h p k q = subst (λ (x : Float). Counted (stamp_of (round_of x))) (sym (quotient_zero e n d)) counted_zero
lag_counted (fin true (suc m) e) (fin false (suc n) d) h p k q = absurd (some m (up e) (down e) (up_pos e) h)

-- ---- 64 times a timestep is exact

small : (a b : ℕ) → 2 ^ a ≤ 2 ^ b → a ≤ b
small a b h = elim (split b a) [ inl l ↦ absurd (not-le_of_lt (pow-lt {i = b} {j = a} l) h) | inr l ↦ l ]

sixty_four_at : (m : ℕ) (e : ℤ) → T (fits binary64 (fin false m e)) → m * up e ≤ 1 * down e
    → HasValue (round binary64 false (64 * (m * up e)) (1 * down e)) false (64 * (m * up e)) (1 * down e)
sixty_four_at m (pos k) f h =
    let q = 64 * (m * 2 ^ k) in
    let Q : q < 2 ^ 53 = omega arith in
    round_exact binary64 false q 1 q 1074 (lit< tt) Q (lt_of_lt_of_le (shl_lt 53 1074 Q) (pow_mono {i = 53 + 1074} {j = 1074 + 1024} (lit≤ tt)))
    (sym (mul-one (q * 2 ^ 1074)))
sixty_four_at m (negsuc k) f h =
    let g = holds false m (negsuc k) f in
    let K : suc k ≤ 1074 = small (suc k) 1074 g.1 in
    let j = 1080 - suc k in
    let J : j + suc k ≡ 1080 = omega arith in
    let y : 53 + j ≤ 1074 + 1024 = omega arith in
    let P : 2 ^ j * 2 ^ suc k ≡ 2 ^ 1080 = sym (pow-add 2 j (suc k)) ∙ ap (λ (x : ℕ). 2 ^ x) J in
    round_exact binary64 false (64 * (m * 1)) (1 * 2 ^ suc k) m j (mul-pos (lit< tt) (pow_pos (suc k))) g.0
    (lt_of_lt_of_le (shl_lt 53 j g.0) (pow_mono y))
    (even m (2 ^ 1074) ∙ ap (λ (x : ℕ). m * x) (sym P) ∙ sym (mul_assoc m (2 ^ j) (2 ^ suc k)) ∙ ap (λ (x : ℕ). m * 2 ^ j * x) (sym (one-mul (2 ^ suc k))))
  where
    even : (m p : ℕ) → 64 * (m * 1) * p ≡ m * (64 * p)
    even m p = omega arith

-- the largest update maximum is 64 times the timestep, not rounded
pub sixty_four_exact : (t : Float) → T (fits binary64 t) → Limited least64 one64 t → HasValue (mul binary64 sixty_four64 t) false (64 * num t) (1 * den t)
unfolding mul le lt eq
sixty_four_exact nan f w = absurd w.number
sixty_four_exact (inf s) f w = absurd w.number
sixty_four_exact (fin true m e) f w = absurd (signs_apart (1 * down e) (m * up e * 1024) (omega (arith, down_pos e)) (is_true _ w.low))
sixty_four_exact (fin false m e) f w = sixty_four_at m e f (omega (arith, le_at (m * up e * 1) (1 * down e) (is_true _ w.high)))

-- ---- the laws

module _ (s : Settings) (pass : passes_of s ≡ true) where
  groups : (seconds_pass s ≡ true) × (thresholds_pass s ≡ true) × (counts_pass s ≡ true) × (known_of s.method ≡ true)
  unfolding passes_of
  groups =
      let a = apart (seconds_pass s && thresholds_pass s && counts_pass s) (known_of s.method) pass in
      let b = apart (seconds_pass s && thresholds_pass s) (counts_pass s) a.0 in
      let c = apart (seconds_pass s) (thresholds_pass s) b.0 in
      (c.0, c.1, b.1, a.1)

  seconds : (between least64 one64 s.timestep ≡ true) × (between least64 sixty64 s.blend ≡ true) × (between zero64 sixty64 s.lag ≡ true)
      × (le_z (lag_frame_count_of s) (pos 16383) ≡ true) × (between zero64 (mul binary64 sixty_four64 s.timestep) s.max ≡ true)
  unfolding seconds_pass
  seconds =
      let t = between least64 one64 s.timestep in
      let u = between least64 sixty64 s.blend in
      let v = between zero64 sixty64 s.lag in
      let w = le_z (lag_frame_count_of s) (pos 16383) in
      let a = apart (t && u && v && w) (between zero64 (mul binary64 sixty_four64 s.timestep) s.max) groups.0 in
      let b = apart (t && u && v) w a.0 in
      let c = apart (t && u) v b.0 in
      let d = apart t u c.0 in
      (d.0, d.1, c.1, b.1, a.1)

  thresholds : (between zero64 hour64 s.period ≡ true) × (between zero64 hour64 s.deviation ≡ true) × (between zero64 hour64 s.skip ≡ true)
  unfolding thresholds_pass
  thresholds =
      let t = between zero64 hour64 s.period in
      let u = between zero64 hour64 s.deviation in
      let a = apart (t && u) (between zero64 hour64 s.skip) groups.1 in
      let b = apart t u a.0 in
      (b.0, b.1, a.1)

  counts : (samples_pass s.needed s.rate ≡ true) × (1 ≤ s.m) × (s.m ≤ 64)
  unfolding counts_pass
  counts =
      let a = apart (samples_pass s.needed s.rate && leb 1 s.m) (leb s.m 64) groups.2 in
      let b = apart (samples_pass s.needed s.rate) (leb 1 s.m) a.0 in
      (b.0, leb-true 1 s.m b.1, leb-true s.m 64 a.1)

  -- the timestep is from 1/1024 to 1
  pub timestep_within : Limited least64 one64 s.timestep
  timestep_within = within_of least64 one64 s.timestep tt tt seconds.0

  -- the blend latency is from 1/1024 to 60
  pub blend_within : Limited least64 sixty64 s.blend
  blend_within = within_of least64 sixty64 s.blend tt tt seconds.1

  -- the lag latency is from 0 to 60
  pub lag_within : Limited zero64 sixty64 s.lag
  lag_within = within_of zero64 sixty64 s.lag tt tt seconds.2

  -- the request period, the deviation and the skip threshold are from 0 to 3,600
  pub period_within : Limited zero64 hour64 s.period
  period_within = within_of zero64 hour64 s.period tt tt thresholds.0

  pub deviation_within : Limited zero64 hour64 s.deviation
  deviation_within = within_of zero64 hour64 s.deviation tt tt thresholds.1

  pub skip_within : Limited zero64 hour64 s.skip
  skip_within = within_of zero64 hour64 s.skip tt tt thresholds.2

  -- the update maximum passes the tests against 0 and 64 times the timestep
  pub max_tests : T (le zero64 s.max) × T (le s.max (mul binary64 sixty_four64 s.timestep))
  max_tests = let a = apart (le zero64 s.max) (le s.max (mul binary64 sixty_four64 s.timestep)) seconds.4 in (is _ a.0, is _ a.1)

  -- 1 to 32 samples are needed, and the rate is from 0 to 1
  pub samples_pass_lem : samples_pass s.needed s.rate ≡ true
  samples_pass_lem = counts.0

  -- 1 to 16 samples are left out at each end
  pub discard_few : (1 ≤ samples_to_discard_of s) × (samples_to_discard_of s ≤ 16)
  discard_few = discard_range s.needed s.rate samples_pass_lem

  -- 3 to 64 samples are stored
  pub store_few : (3 ≤ samples_to_store_of s) × (samples_to_store_of s ≤ 64)
  store_few = store_range s.needed s.rate samples_pass_lem

  -- m is from 1 to 64
  pub steps_few : (1 ≤ s.m) × (s.m ≤ 64)
  steps_few = (counts.1, counts.2)

  -- the method is one of the three
  pub method_known : known_of s.method ≡ true
  method_known = groups.3

  -- the lag's frame count is the number of its bits, at most 16,383
  pub lag_few : (lag_frame_count_of s ≡ pos (bits_of (lag_frame_count_of s))) × (bits_of (lag_frame_count_of s) ≤ 16383)
  unfolding Counted
  lag_few =
      let t = apart (le least64 s.timestep) (le s.timestep one64) seconds.0 in
      let l = apart (le zero64 s.lag) (le s.lag sixty64) seconds.2 in
      let c = lag_counted s.lag s.timestep l.0 lag_within.number t.0 timestep_within.number in
      (c, leb-true (bits_of (lag_frame_count_of s)) 16383 (subst (λ (z : ℤ). le_z z (pos 16383) ≡ true) c seconds.3))
