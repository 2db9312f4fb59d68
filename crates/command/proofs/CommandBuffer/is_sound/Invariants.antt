-- `is_sound` meets its contract. The loop's invariant: of the entries passed, those that break a rule are counted. Assumes nothing.
use Rattle.command.proofs.Breaches.{Tested}
use Rattle.command.proofs.CommandBuffer.is_sound.Given as goal

abbrev pub invariant-loop-e : goal.invariant-loop-e
invariant-loop-e l = Tested l.self.timestamp l.e-items l.e-index l.lo l.breaches
