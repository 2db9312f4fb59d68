-- `reset_last_completed_timestamp` meets its contract: the move, and where it goes back the drain of what remains. Assumes nothing.
use Rattle.simulation.specs.World.{resets_back}
use Rattle.simulation.proofs.Rules.{reset_back, reset_on}
use Rattle.simulation.proofs.Simulation.reset_last_completed_timestamp.Goals as goal

pub returns-then-not-back-clause-does : goal.returns-then-not-back-clause-does
unfolding resets_back
returns-then-not-back-clause-does c = reset_on _ _ _ (cc) c.update_timestamp-leftout.ensures

pub returns-clause-does : goal.returns-clause-does
unfolding resets_back
returns-clause-does c = reset_back _ _ _ (cc) c.update_timestamp-leftout.ensures c.apply_all.ensures.applied
