-- What the difference that `wrapping_sub_u16` gives says of the order of two stamps. Assumes nothing.
use Rattle.std.proofs.Common.{◌≡◌, ℕ, zero, suc, ◌+◌, ◌%◌, ◌<◌, ◌≤◌, pos, refl, ap, ◌∙◌, arith}
use Rattle.std.specs.declared.cmp.Ordering.TheVariants.{Less, Equal, Greater}
use Rattle.timestamp.specs.Timestamps.{difference_of, signed_of, sign_of, order_of}
use Rattle.timestamp.proofs.Signed.{signed_low, signed_high}

-- a number above 0 has the sign Greater
sign_greater : (d : ℕ) → 0 < d → sign_of (pos d) ≡ Greater
sign_greater zero h = absurd (omega arith)
sign_greater (suc d) h = refl

module _ {a b : ℕ} (d : ℕ) (A : a < 65536) (B : b < 65536) (D : d < 65536) (e : (d + b) % 65536 ≡ a) where
  -- the number whose sum with b is a is their difference
  pub difference_is : difference_of a b ≡ d
  difference_is = omega arith

  -- the order of a and b is the sign of that number, read as signed
  order_is : order_of a b ≡ sign_of (signed_of d)
  unfolding order_of
  order_is = ap (λ (n : ℕ). sign_of (signed_of n)) difference_is

  -- no difference: equal
  pub order_equal : d ≡ 0 → order_of a b ≡ Equal
  order_equal z = order_is ∙ ap sign_of (signed_low d (omega arith) ∙ ap pos z)

  -- a difference of 1 to 32,767: greater
  pub order_greater : 0 < d → d < 32768 → order_of a b ≡ Greater
  order_greater n h = order_is ∙ ap sign_of (signed_low d h) ∙ sign_greater d n

  -- a difference of 32,768 to 65,535: less
  pub order_less : 32768 ≤ d → order_of a b ≡ Less
  order_less h = order_is ∙ ap sign_of (signed_high d h)
