-- `remainder` meets its contract: the bits below 65,536 are shifted out, and zeros in, and what is over them is left (proofs/Multiple.antt). Assumes nothing.
use Rattle.std.proofs.Common.{◌≡◌, ℕ, ◌+◌, ◌-◌, ◌/◌, ◌*◌, ◌%◌, ◌^◌, ◌<◌, ◌≤◌, true, not, T, sym, ap, ◌∙◌, subst, arith}
use lib.Bits.{bit_and}
use lib.Ieee.{Float, binary64, is_nan, fits, to_bits, of_bits, nan_bits, rem, sub}
use lib.Ieee.Bits.{of_bits-to_bits, to_bits-lt}
use Rattle.timestamp.specs.FloatTimestamps.{cycle64}
use Rattle.timestamp.proofs.Cleared.{expo, expo_is, nan_of, shifted_back}
use Rattle.timestamp.proofs.Patterns.{no_nan}
use Rattle.timestamp.proofs.Multiple.{below_cycle, no_remainder, multiple_alone, kept_no_nan, nothing_left, taken_off}
use Rattle.timestamp.proofs.remainder.Goals as goal
use Rattle.timestamp.proofs.remainder.Goals.{Start, Else-exponent-gt1091}

nan-left : (x : Float) → is_nan x ≡ true → x ≡ rem binary64 x cycle64
unfolding rem
nan-left x h = nan_of x h ∙ ap (λ (z : Float). rem binary64 z cycle64) (sym (nan_of x h))

held : (c : Start) → T (fits binary64 c.args.x)
held c = subst T (sym c.well_formed.0.1) tt

-- the bits
bits : Start → ℕ
bits c = to_bits binary64 c.args.x

is : (c : Start) → of_bits binary64 (bits c) ≡ c.args.x
unfolding bits
is c = of_bits-to_bits binary64 c.args.x (held c)

within : (c : Start) → bits c < 2 ^ 64
unfolding bits
within c = to_bits-lt binary64 c.args.x (held c)

pub returns-then-is_nan : goal.returns-then-is_nan
returns-then-is_nan c = nan-left c.args.x (sym c.is_nan.ensures.value ∙ c.if-is_nan.true)

pub returns-then-exponent-lt1039 : goal.returns-then-exponent-lt1039
unfolding bits
returns-then-exponent-lt1039 c =
    let s = c.before.before.before in
    subst (λ (z : Float). z ≡ rem binary64 z cycle64) (is s) (below_cycle (bits s) (omega (arith, expo_is (bits s), c.if-exponent-lt1039.true)))

pub returns-then-exponent-eq2047 : goal.returns-then-exponent-eq2047
unfolding bits
returns-then-exponent-eq2047 c =
    let s = c.before.before.before.before in
    subst (λ (z : Float). sub binary64 z z ≡ rem binary64 z cycle64) (is s) (no_remainder (bits s) (sym (expo_is (bits s)) ∙ c.if-exponent-eq2047.true))

-- the sign's bit alone is no NaN's pattern, and is within 64 bits
sign_no_nan : (b : ℕ) → b < 2 ^ 64 → T (not (nan_bits binary64 (b / 2 ^ 63 * 2 ^ 63 % 2 ^ 64)))
sign_no_nan b h = subst (λ (n : ℕ). T (not (nan_bits binary64 n))) (sym (shifted_back b 63 h)) (no_nan (b / 2 ^ 63 * 2 ^ 63) (omega arith))

pub float_from_bits-result : goal.float_from_bits-result
unfolding bits
float_from_bits-result c = let s = c.before.before.before.before.before in sign_no_nan (bits s) (within s)

pub returns-then-exponent-gt1091 : goal.returns-then-exponent-gt1091
unfolding bits
returns-then-exponent-gt1091 c =
    let s = c.before.before.before.before.before in
    ap (of_bits binary64) (shifted_back (bits s) 63 (within s))
    ∙ multiple_alone (bits s) (within s) (omega (arith, expo_is (bits s), c.if-exponent-gt1091.true)) (λ e. c.if-exponent-eq2047.false (expo_is (bits s) ∙ e))
    ∙ ap (λ (z : Float). rem binary64 z cycle64) (is s)

pub float_from_bits-result-then-multiple-bits : goal.float_from_bits-result-then-multiple-bits
unfolding bits
float_from_bits-result-then-multiple-bits c = let s = c.before.before.before.before.before.before in sign_no_nan (bits s) (within s)

-- ---- from 2 ^ 16 to 2 ^ 69 in size
module _ (c : Else-exponent-gt1091) where
  s : Start
  s = c.before.before.before.before.before

  -- the number of bits that are shifted out
  abbrev k : ℕ
  k = 1091 - bit_and (to_bits binary64 c.args.x / 2 ^ 52) 2047

  k-is : k + expo (bits s) ≡ 1091
  unfolding s bits
  k-is = omega (arith, expo_is (bits s), c.if-exponent-gt1091.false)

  few : k ≤ 52
  few = omega (arith, c.if-exponent-lt1039.false)

  -- the multiple of 65,536 as the code has it
  multiple : bits s / 2 ^ k * 2 ^ k % 2 ^ 64 ≡ bits s / 2 ^ k * 2 ^ k
  multiple = shifted_back (bits s) k (within s)

pub returns-then-multiple-bits : goal.returns-then-multiple-bits
unfolding bits s
returns-then-multiple-bits c =
    let d = c.before in
    ap (of_bits binary64) (shifted_back (bits (s d)) 63 (within (s d)))
    ∙ nothing_left (bits (s d)) (k d) (within (s d)) (k-is d) (few d) (sym (multiple d) ∙ c.if-multiple-bits.true)
    ∙ ap (λ (z : Float). rem binary64 z cycle64) (is (s d))

pub float_from_bits-result-2 : goal.float_from_bits-result-2
unfolding bits s
float_from_bits-result-2 c =
    let d = c.before in
    subst (λ (n : ℕ). T (not (nan_bits binary64 n))) (sym (multiple d)) (kept_no_nan (bits (s d)) (k d) (within (s d)) (k-is d) (few d))

pub returns : goal.returns
unfolding bits s
returns c =
    let d = c.before in
    ap (λ (z : Float). sub binary64 z (of_bits binary64 (bits (s d) / 2 ^ k d * 2 ^ k d % 2 ^ 64))) (sym (is (s d)))
    ∙ ap (λ (n : ℕ). sub binary64 (of_bits binary64 (bits (s d))) (of_bits binary64 n)) (multiple d)
    ∙ taken_off (bits (s d)) (k d) (within (s d)) (k-is d) (few d) (λ e. c.if-multiple-bits.false (multiple d ∙ e))
    ∙ ap (λ (z : Float). rem binary64 z cycle64) (is (s d))
