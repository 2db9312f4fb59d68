-- The tests of the clock: whether a number is finite, and the timer against the period. Assumes nothing.
use mathlib.Core.Path.{◌≡◌, refl, sym, ap}
use mathlib.Core.Bool.{Bool, cond, true, false}
use lib.Ieee.{Float, nan, inf, fin, lt, binary64, add}
use lib.Ieee.Scale.{finite}
use Rattle.std.specs.Float.{float_is_finite}
use Rattle.timestamp.specs.Floats.{zero64}
use Rattle.clocksync.specs.Clock.{timed_of, ticked_of}
use Rattle.clocksync.specs.declared.Clock.{Clock}
use Rattle.clocksync.specs.declared.Ticked.{Ticked}

-- ---- finite

pub finite_is : (t : Float) → float_is_finite t ≡ finite t
unfolding float_is_finite
finite_is nan = refl
finite_is (inf s) = refl
finite_is (fin s m e) = refl

-- ---- the request timer

-- above the period
pub ticked_over : (c : Clock) (period delta : Float) → lt period (add binary64 c.timer delta) ≡ true
    → ◌≡◌ {A = Ticked} (record { clock = timed_of c zero64; request = true }) (ticked_of c period delta)
unfolding ticked_of
ticked_over c period delta h = sym (ap (λ (b : Bool). cond {A = Ticked} b (record { clock = timed_of c zero64; request = true })
    (record { clock = timed_of c (add binary64 c.timer delta); request = false })) h)

-- and not
pub ticked_under : (c : Clock) (period delta : Float) → lt period (add binary64 c.timer delta) ≡ false
    → ◌≡◌ {A = Ticked} (record { clock = timed_of c (add binary64 c.timer delta); request = false }) (ticked_of c period delta)
unfolding ticked_of
ticked_under c period delta h = sym (ap (λ (b : Bool). cond {A = Ticked} b (record { clock = timed_of c zero64; request = true })
    (record { clock = timed_of c (add binary64 c.timer delta); request = false })) h)
