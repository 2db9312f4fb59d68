-- `timeskip` meets its contract: the drift decides, and the skip goes to the target rounded up. Assumes nothing.
use Rattle.fixed_timestepper.proofs.Ending.{skip_told, skip_made, skip_none}
use Rattle.fixed_timestepper.proofs.TimeKeeper.timeskip.Goals as goal

pub returns-then-not-skips-clause-skips : goal.returns-then-not-skips-clause-skips
returns-then-not-skips-clause-skips c =
    skip_none _ _ _ _ _ (skip_told _ _ _ _ c.last_completed_timestamp-stamp.ensures (rw c.after.ensures at c.skips.ensures) c.if-not-skips.true)

pub returns-clause-skips : goal.returns-clause-skips
returns-clause-skips c =
    skip_made _ _ _ _ c.requires.0
    (skip_told _ _ _ _ c.last_completed_timestamp-stamp.ensures (rw c.after.ensures at c.skips.ensures) c.if-not-skips.false)
    c.from_seconds-target.ensures c.ceil-corrected.ensures
    c.from.ensures c.sub.ensures c.as_seconds-overshoot.ensures c.reset_last_completed_timestamp.ensures
