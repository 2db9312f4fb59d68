-- `timer_sound` meets its contract: finite, and at most 3,600. Assumes nothing.
use native.Mathlib.Omega.{arith}
use Rattle.std.proofs.lemmas.Grind.{common_steps}
use lib.Ieee.{of_bits}
use Rattle.clocksync.specs.Clock.{timer_ok}
use Rattle.clocksync.proofs.Tests.{finite_is}
use Rattle.clocksync.proofs.timer_sound.Goals as goal

pub returns-then-is_finite : goal.returns-then-is_finite
unfolding timer_ok of_bits
returns-then-is_finite c = let f = finite_is c.args.timer in grind (arith, common_steps, f)

pub returns-else-is_finite : goal.returns-else-is_finite
unfolding timer_ok of_bits
returns-else-is_finite c = let f = finite_is c.args.timer in grind (arith, common_steps, f)
