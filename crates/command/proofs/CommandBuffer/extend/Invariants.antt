-- `extend` meets its contract. The loop's invariant: the entries passed that are in the span stand after those that were held. Assumes nothing.
use Rattle.command.specs.Ranks.{rank_within}
use Rattle.command.proofs.Extending.{Extended}
use Rattle.command.proofs.CommandBuffer.extend.Given as goal

abbrev pub invariant-loop-e : goal.invariant-loop-e
invariant-loop-e l = Extended l.initial.self (rank_within l.span.around l.span.from l.span.end) l.e-items l.e-index l.self
