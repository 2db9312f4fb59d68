-- `catch_up` meets its contract. The invariant: what is left gives what the whole gives. Assumes nothing.
use Rattle.std.proofs.Common.{arith}
use Rattle.client_frame.proofs.Catching.{catching_start, catching_step, caught_up, caught_end, caught_as}
use Rattle.client_frame.proofs.Framing.{step_new_plays}
use Rattle.client_frame.proofs.catch_up.Goals as goal

pub loop-init : goal.loop-init
loop-init c = catching_start _ _ _ _ (omega arith)

pub returns-then-has_caught_up-clause-plays : goal.returns-then-has_caught_up-clause-plays
returns-then-has_caught_up-clause-plays c =
    caught_as _ c.args.scene.now c.last_completed_timestamp-old.ensures
    (caught_up c.loop.invariant c.new_timestamp.ensures c.has_caught_up.ensures c.if-has_caught_up.true)

pub returns-then-has_caught_up-clause-few : goal.returns-then-has_caught_up-clause-few
returns-then-has_caught_up-clause-few c = omega (arith, c.loop.invariant.at, c.loop.invariant.bound)

pub step_side_known-requires : goal.step_side_known-requires
step_side_known-requires c =
    (omega (arith, c.loop.invariant.at, c.loop.invariant.bound, c.requires.0, c.requires.1), rw c.new_side-side.ensures c.loop.invariant.known)

pub loop-preserved : goal.loop-preserved
loop-preserved c =
    catching_step c.loop.invariant c.loop-test.true c.new_timestamp.ensures c.has_caught_up.ensures c.if-has_caught_up.false c.new_side-side.ensures
    (step_new_plays _ c.new_side-side.ensures c.step_side_known.ensures.plays) (omega (arith, c.step_side_known.ensures.few)) c.step_side_known.ensures.known

pub returns-clause-plays : goal.returns-clause-plays
returns-clause-plays c = caught_as _ c.args.scene.now c.last_completed_timestamp-old.ensures (caught_end c.loop.invariant c.loop-test.false)

pub returns-clause-few : goal.returns-clause-few
returns-clause-few c = omega (arith, c.loop.invariant.at, c.loop.invariant.bound)
