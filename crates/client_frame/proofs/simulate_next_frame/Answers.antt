-- `simulate_next_frame` meets its contract: the old world steps, and the new one catches up from there. Assumes nothing.
use Rattle.client.proofs.Happening.{plays_then}
use Rattle.client_frame.specs.Frame.{simulated_of, stepped_side}
use Rattle.client_frame.proofs.simulate_next_frame.Goals as goal

pub returns-clause-plays : goal.returns-clause-plays
unfolding simulated_of stepped_side
returns-clause-plays c = plays_then _ (rw c.old_side-side.ensures at c.step_side.ensures.plays) c.catch_up.ensures.plays
