-- Laws of binary64 arithmetic for two requests of document 02: each is stated here by name, and proofs/ proves it under the same name in small letters. Nothing
-- uses the laws SixtyFiveSuffice, TweenUnit and SkipCycle yet; what they speak of is used by the laws of soundness.
-- The operations are IEEE 754's, the rounding of each included. Definitions only. Assumes nothing.
use Rattle.std.specs.Prelude.{ℕ, zero, suc, true, false, cond, pos, T, Float}
use Rattle.std.specs.Float.{fin, binary64}
use Rattle.std.specs.Float.Ieee.{lt, le, fits, add, sub, mul}
use Rattle.std.specs.Float.Ieee.Positive.{positive}
use Rattle.std.specs.Float.Ieee.Scale.{finite}
use Rattle.float_laws.specs.Fractions.{val}
use Rattle.float_laws.specs.Bounds.{Between}
use Rattle.timestamp.specs.FloatTimestamps.{half64, from_unwrapped}
use Rattle.refusals.specs.Limits.{most_frames}
use Rattle.timestamp.specs.Floats.{zero64, one64, tween_of, least64, sixty_four64}

-- ---- a timestep

-- t is a timestep: a finite binary64 value from 1/1024 to 1.
pub record Step (t : Float) : Type 0 where
  pub fits_t : T (fits binary64 t)
  pub finite_t : T (finite t)
  pub least : T (le least64 t)
  pub most : T (le t one64)

-- ---- the frames of an update: for request 13 of document 02

-- At most n additions of t to x, which end where the value is not below 0.
abbrev pub catch_up : ℕ → Float → Float → Float
catch_up zero x t = x
catch_up (suc n) x t = cond (lt x zero64) (catch_up n (add binary64 x t) t) x

-- So many additions suffice.
abbrev pub enough : ℕ
enough = most_frames

-- An update starts from o - d with 0 ≤ o ≤ t and 0 ≤ d ≤ 64 t, and adds t while the value is below 0: after at most 65 additions the value is from 0 to t.
unfoldable pub SixtyFiveSuffice : Type 0
SixtyFiveSuffice =
    (o d t : Float) → Step t → T (finite o) → T (finite d) → T (le zero64 o) → T (le o t) → T (le zero64 d) → T (le d (mul binary64 sixty_four64 t)) →
    T (le zero64 (catch_up enough (sub binary64 o d) t)) × T (le (catch_up enough (sub binary64 o d) t) t)

-- ---- the tween weight: for request 2 of document 02, by which refusal 27 goes

-- Where 0 ≤ o ≤ t and t is positive, the tween weight is finite and from 0 to 1.
unfoldable pub TweenUnit : Type 0
TweenUnit =
    (o t : Float) → T (finite o) → T (positive t) → T (le zero64 o) → T (le o t) →
    T (finite (tween_of o t)) × T (le zero64 (tween_of o t)) × T (le (tween_of o t) one64)

-- ---- a skip past the last stamp of a cycle: for request 2 of document 02

-- The float 32,767, the last stamp of a cycle.
abbrev pub last_stamp : Float
last_stamp = fin false 32767 (pos 0)

-- The float -32,768, the stamp after the last.
abbrev pub first_stamp : Float
first_stamp = fin true 1 (pos 15)

-- Where a skip's target x is above 32,767 and it sets the stamp -32,768, the overshoot is from 0 to the timestep.
unfoldable pub SkipCycle : Type 0
SkipCycle =
    (x t : Float) → T (finite x) → T (lt last_stamp x) → T (le x half64) → Step t →
    Between (val zero64) (mul binary64 (from_unwrapped (sub binary64 first_stamp x)) t) (val t)
