-- `step` meets its contract: the frame by its parts. Assumes nothing.
use Rattle.client_frame.proofs.Framing.{frame_plays}
use Rattle.client_frame.proofs.step.Goals as goal

pub returns-clause-frames : goal.returns-clause-frames
returns-clause-frames c =
    frame_plays c.args.rules c.args.scene.now c.of-start.ensures c.open.ensures.plays c.show.ensures.plays c.stops.ensures
