-- `measured_offset` meets its contract: the operations in the definition's order. Assumes nothing.
use mathlib.Core.Path.{refl}
use lib.Ieee.{of_bits}
use Rattle.clocksync.specs.Offset.{offset_of}
use Rattle.clocksync.proofs.measured_offset.Goals as goal

pub returns : goal.returns
unfolding offset_of of_bits
returns c = refl
