-- `load_queued` meets its contract: where nothing is queued nothing happens. Assumes nothing.
use Rattle.client.proofs.Happening.{plays_still}
use Rattle.client_frame.specs.Frame.{loaded_queued}
use Rattle.client_frame.proofs.load_queued.Goals as goal

pub returns-in-None-clause-plays : goal.returns-in-None-clause-plays
unfolding loaded_queued
returns-in-None-clause-plays c = rw c.in-None.is (plays_still _ _)
