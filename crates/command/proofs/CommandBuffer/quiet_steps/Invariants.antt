-- `quiet_steps` meets its contract. The loop's invariant: the least number of the entries passed. Assumes nothing.
use mathlib.Core.Path.{◌≡◌}
use lib.ListN.{take}
use Rattle.command.specs.Ranks.{quiet_among}
use Rattle.command.proofs.CommandBuffer.quiet_steps.Given as goal

abbrev pub invariant-loop-e : goal.invariant-loop-e
invariant-loop-e l = l.least ≡ quiet_among l.next.0 (take l.e-index l.e-items)
