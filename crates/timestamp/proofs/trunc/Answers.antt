-- `trunc` meets its contract: the bits below the point are shifted out, and zeros in (proofs/Cleared.antt). Assumes nothing.
use Rattle.std.proofs.Common.{◌≡◌, ℕ, ◌^◌, ◌<◌, true, T, sym, ap, ◌∙◌, subst, inl, inr, arith}
use lib.Ieee.{Float, binary64, is_nan, fits, to_bits, of_bits}
use lib.Ieee.Bits.{of_bits-to_bits, to_bits-lt}
use Rattle.timestamp.specs.Whole.{trunc_of}
use Rattle.timestamp.proofs.Cleared.{expo_is, nan_of, Clears, clears_lt, shifted_whole, shifted_no_nan, large}
use Rattle.timestamp.proofs.trunc.Goals as goal
use Rattle.timestamp.proofs.trunc.Goals.{Joined-below_one, Start, then-below_one, else-below_one}

nan-stays : (x : Float) → is_nan x ≡ true → x ≡ trunc_of x
unfolding trunc_of
nan-stays x h = nan_of x h ∙ ap trunc_of (sym (nan_of x h))

held : (c : Start) → T (fits binary64 c.args.x)
held c = subst T (sym c.well_formed.0.1) tt

-- the bits
bits : Start → ℕ
bits c = to_bits binary64 c.args.x

is : (c : Start) → of_bits binary64 (bits c) ≡ c.args.x
unfolding bits
is c = of_bits-to_bits binary64 c.args.x (held c)

within : (c : Start) → bits c < 2 ^ 64
unfolding bits
within c = to_bits-lt binary64 c.args.x (held c)

pub returns-then-is_nan : goal.returns-then-is_nan
returns-then-is_nan c = nan-stays c.args.x (sym c.is_nan.ensures.value ∙ c.if-is_nan.true)

pub returns-then-exponent-gt1075 : goal.returns-then-exponent-gt1075
unfolding bits
returns-then-exponent-gt1075 c =
    let s = c.before.before.before in
    sym (is s) ∙ large (bits s) (omega (arith, expo_is (bits s), c.if-exponent-gt1075.true)) ∙ ap trunc_of (is s)

-- ---- up to 2 ^ 53
module _ (c : Joined-below_one) where
  s : Start
  s = c.before.before.before.before

  -- the number of bits that are shifted out is right
  clears : Clears (bits s) c.if-below_one.cleared
  unfolding s bits
  clears = elim c.if-below_one.branch [
    | then-below_one w ↦ inl (omega (arith, expo_is (bits s), w.if-below_one.true), omega (arith, w.cleared-is))
    | else-below_one w ↦ inr (
      omega (arith, expo_is (bits s), w.if-below_one.false),
      omega (arith, expo_is (bits s), w.if-below_one.false, c.if-exponent-gt1075.false, w.cleared-is),
    )
  ]

  few : c.if-below_one.cleared < 64
  few = clears_lt (bits s) c.if-below_one.cleared clears

pub float_from_bits-result : goal.float_from_bits-result
unfolding bits s
float_from_bits-result c = shifted_no_nan (bits (s c.before)) c.if-below_one.cleared (within (s c.before)) (clears c.before)

pub returns : goal.returns
unfolding bits s
returns c =
    shifted_whole (bits (s c.before)) c.if-below_one.cleared (within (s c.before)) (clears c.before) ∙ ap trunc_of (is (s c.before))
