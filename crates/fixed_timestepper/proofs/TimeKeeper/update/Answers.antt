-- `update` meets its contract: the frames, and where they ended by themselves the skip. Assumes nothing.
use Rattle.std.proofs.Common.{rules, inl, inr}
use mathlib.Core.Path.{refl}
use Rattle.refusals.specs.declared.Stop.TheVariants.{TooManyFrames, StatusStops}
use Rattle.fixed_timestepper.proofs.Updating.{update_done, update_stopped, advances_on}
use Rattle.fixed_timestepper.proofs.TimeKeeper.update.Goals as goal

pub advance-a-requires : goal.advance-a-requires
advance-a-requires c = (c.requires, refl)

pub returns-in-Done : goal.returns-in-Done
returns-in-Done c =
    advances_on (search (rules, c.timeskip.ensures.lent, c.advance-a.ensures.lent))
    (update_done _ _ _ _ _ c.last_completed_timestamp-stamp.ensures c.compensated_delta-c.ensures refl c.advance-a.ensures.advances
    c.in-Done.is c.timeskip.ensures.skips)

pub returns-in-TooManyFrames : goal.returns-in-TooManyFrames
returns-in-TooManyFrames c =
    advances_on (search (rules, c.advance-a.ensures.lent)) (elim c.in-TooManyFrames.is [
      | inl e ↦ update_stopped _ _ _ _ _ c.last_completed_timestamp-stamp.ensures c.compensated_delta-c.ensures refl TooManyFrames
          c.advance-a.ensures.advances e (λ r. refl)
      | inr e ↦ update_stopped _ _ _ _ _ c.last_completed_timestamp-stamp.ensures c.compensated_delta-c.ensures refl StatusStops
          c.advance-a.ensures.advances e (λ r. refl)
    ])
