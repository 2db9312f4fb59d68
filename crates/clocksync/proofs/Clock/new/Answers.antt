-- `new` meets its contract. Assumes nothing.
use mathlib.Core.Path.{refl}
use lib.Ieee.{of_bits}
use Rattle.clocksync.specs.Clock.{new_of}
use Rattle.clocksync.proofs.Clock.new.Goals as goal

pub returns : goal.returns
unfolding new_of of_bits
returns c = refl
