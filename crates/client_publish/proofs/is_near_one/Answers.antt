-- `is_near_one` meets its contract: the size of the difference. Assumes nothing.
use native.Mathlib.Omega.{arith}
use lib.Ieee.{of_bits}
use Rattle.timestamp.proofs.Size.{size_below}
use Rattle.client_publish.specs.Publish.{near_one}
use Rattle.client_publish.proofs.is_near_one.Goals as goal

pub returns : goal.returns
unfolding of_bits near_one
returns c = grind (arith, size_below)
