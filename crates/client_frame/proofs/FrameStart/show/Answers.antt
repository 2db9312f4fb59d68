-- `show` meets its contract: the worlds step, and then something is published. Assumes nothing.
use Rattle.client.proofs.Happening.{plays_then}
use Rattle.client_frame.specs.Frame.{shown_of}
use Rattle.client_frame.proofs.FrameStart.show.Goals as goal

pub returns-clause-plays : goal.returns-clause-plays
unfolding shown_of
returns-clause-plays c = plays_then _ c.simulate_next_frame.ensures.plays c.publish.ensures.plays
