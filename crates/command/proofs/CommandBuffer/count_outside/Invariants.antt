-- `count_outside` meets its contract. The loop's invariant: of the entries passed, those out of the span are counted. Assumes nothing.
use mathlib.Core.Path.{◌≡◌}
use mathlib.Core.Bool.{not}
use lib.ListN.{length, take}
use Rattle.command.specs.Lists.{filter_b}
use Rattle.command.specs.Ranks.{rank_within}
use Rattle.command.proofs.CommandBuffer.count_outside.Given as goal

abbrev pub invariant-loop-e : goal.invariant-loop-e
invariant-loop-e l = l.count ≡ length (filter_b (λ e. not (rank_within l.span.around l.span.from l.span.end e)) (take l.e-index l.e-items))
