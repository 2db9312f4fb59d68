-- `open` meets its contract: blending the weight moves on, and healthy nothing happens. Assumes nothing.
use Rattle.client.proofs.Happening.{plays_still}
use Rattle.client_frame.specs.Frame.{opened_of}
use Rattle.client_frame.proofs.FrameStart.open.Goals as goal

pub returns-in-Blending-clause-plays : goal.returns-in-Blending-clause-plays
unfolding opened_of
returns-in-Blending-clause-plays c = rw (c.in-Blending.is, c.blend_on.ensures) (plays_still _ _)

pub returns-in-Healthy-clause-plays : goal.returns-in-Healthy-clause-plays
unfolding opened_of
returns-in-Healthy-clause-plays c = rw (c.in-Fastforwarding.is, c.in-Healthy.is) (plays_still _ _)
