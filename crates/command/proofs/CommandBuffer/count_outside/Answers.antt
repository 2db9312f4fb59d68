-- `count_outside` meets its contract. The loop's invariant: of the entries passed, those out of the span are counted. Assumes nothing.
use mathlib.Core.Bool.{not}
use native.Mathlib.Omega.{arith}
use Rattle.command.specs.Ranks.{rank_within}
use Rattle.command.proofs.Lists.{count_few}
use Rattle.command.proofs.CommandBuffer.count_outside.Goals as goal

pub overflow_add-count : goal.overflow_add-count
overflow_add-count c =
    let a = c.args in
    omega (arith, c.loop-e.invariant, count_few (λ e. not (rank_within a.span.around a.span.from a.span.end e)) c.held-e-items.result.now c.loop-e.e-index)
