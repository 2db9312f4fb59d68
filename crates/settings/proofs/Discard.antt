-- The number that `discard_count` gives: at least 1, and of 16 bits; and what rounds to the sign plus. Assumes nothing.
use Rattle.std.proofs.Common.{◌≡◌, ℕ, zero, suc, ◌+◌, ◌*◌, ◌^◌, ◌<◌, Bool, true, false, cond, not, T, ltb, ap}
use lib.Ieee.{Float, nan, inf, fin, Format, low, emax, prec, odd, units, round, lt, to_unsigned}
use lib.Ieee.Casts.{to_unsigned-lt}
use Rattle.timestamp.specs.Whole.{ceil_of}
use Rattle.settings.specs.Settings.{at_least_one, discard_of}
use Rattle.timestamp.specs.Floats.{one64}

-- no NaN, and the sign is plus
abbrev pub plus : Float → Bool
plus nan = false
plus (inf s) = not s
plus (fin s m e) = not s

odd_plus : (d q k l : ℕ) → T (plus (odd d false q k l))
unfolding odd
odd_plus d zero k l = tt
odd_plus d (suc q) k l = tt

units_plus : (f : Format) (q k : ℕ) → T (plus (units f false q k))
unfolding units
units_plus f q k = go (ltb (q * 2 ^ k) (2 ^ (low f + suc (emax f))))
  where
    go : (b : Bool) → T (plus (cond b (odd (suc (prec f)) false q k (low f)) (inf false)))
    go true = odd_plus (suc (prec f)) q k (low f)
    go false = tt

-- a fraction with the sign plus is rounded to one
pub round_plus : (f : Format) (a c : ℕ) → T (plus (round f false a c))
unfolding round
round_plus f a c = units_plus f _ _

-- the larger of x and 1, where x is above 1 and where it is not
pub above_one : (x : Float) → lt one64 x ≡ true → at_least_one x ≡ x
above_one x h = ap (λ (b : Bool). cond b x one64) h

pub not_above_one : (x : Float) → lt one64 x ≡ false → to_unsigned 16 (ceil_of (at_least_one x)) ≡ 1
unfolding ceil_of round to_unsigned
not_above_one x h = ap (λ (b : Bool). to_unsigned 16 (ceil_of (cond b x one64))) h

-- it is a number of 16 bits
pub discard_lt : (needed : ℕ) (rate : Float) → discard_of needed rate < 2 ^ 16
unfolding discard_of
discard_lt needed rate = to_unsigned-lt 16 _
