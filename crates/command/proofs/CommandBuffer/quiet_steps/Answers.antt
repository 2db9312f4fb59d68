-- `quiet_steps` meets its contract. The loop's invariant: the least number of the entries passed. Assumes nothing.
use mathlib.Core.Path.{◌∙◌}
use native.Mathlib.Omega.{arith}
use lib.Seq.{take_all}
use Rattle.command.specs.Ranks.{quiet_among, quiet_steps_of}
use Rattle.command.proofs.Quiet.{quiet_took}
use Rattle.command.proofs.CommandBuffer.quiet_steps.Goals as goal

pub loop-e-preserved : goal.loop-e-preserved
loop-e-preserved c =
    rw (quiet_took c.add-next.result.0 c.held-e-items.result.now c.loop-e.e-index 0 c.loop-e-test.true)
    (omega (arith, c.loop-e.invariant, c.quiet_before.ensures, c.min-least.ensures))

pub returns : goal.returns
unfolding quiet_steps_of
returns c =
    let all = take_all c.loop-e.e-index c.held-e-items.result.now c.loop-e-test.false ∙ c.held-e-items.ensures.held in
    c.loop-e.invariant ∙ (λ i. quiet_among (c.add-next.ensures i) (all i))
