-- `drain_all` meets its contract: an empty buffer is in its place where something is held. Assumes nothing.
use native.Mathlib.Omega.{arith}
use Rattle.command.proofs.Calls.{emptied_none, emptied_some}
use Rattle.command.proofs.CommandBuffer.drain_all.Goals as goal

pub returns-then-count-gt0 : goal.returns-then-count-gt0
returns-then-count-gt0 c = emptied_some _ c.held_count-count.ensures (λ e. omega (arith, c.if-count-gt0.true, e)) c.new.ensures

pub returns-else-count-gt0 : goal.returns-else-count-gt0
returns-else-count-gt0 c = emptied_none _ c.held_count-count.ensures (omega (arith, c.if-count-gt0.false))
