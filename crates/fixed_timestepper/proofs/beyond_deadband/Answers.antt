-- `beyond_deadband` meets its contract: a drift below half a timestep is none. Assumes nothing.
use native.Mathlib.Omega.{arith}
use lib.Ieee.{of_bits}
use Rattle.timestamp.proofs.Size.{size_below}
use Rattle.fixed_timestepper.proofs.beyond_deadband.Goals as goal

pub returns-then-abs-timestep : goal.returns-then-abs-timestep
unfolding of_bits
returns-then-abs-timestep c = grind (arith, size_below)

pub returns : goal.returns
unfolding of_bits
returns c = grind (arith, size_below)
