-- `publish` meets its contract: four words at most. Assumes nothing.
use Rattle.std.proofs.Common.{arith}
use Rattle.client_frame.specs.Frame.{blended_by}
use Rattle.client_frame.proofs.Framing.{publishes_few}
use Rattle.client_frame.proofs.FrameStart.publish.Goals as goal

pub returns-clause-few : goal.returns-clause-few
returns-clause-few c = omega (arith, c.publish_state-state.ensures.puts.at, publishes_few (blended_by c.args.self.status c.args.self.loads) c.args.scene.now)
