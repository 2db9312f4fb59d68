-- `seconds_pass` meets its contract: a row of tests. Assumes nothing.
use Rattle.std.proofs.Common.{arith}
use Rattle.std.proofs.lemmas.Grind.{common_steps}
use lib.Ieee.{of_bits}
use Rattle.settings.specs.Settings.{seconds_pass}
use Rattle.settings.proofs.Lag.{lag_tested}
use Rattle.settings.proofs.seconds_pass.Goals as goal

pub returns-then-lag_frames-le-MOST_LAG_FRAMES : goal.returns-then-lag_frames-le-MOST_LAG_FRAMES
unfolding seconds_pass of_bits
returns-then-lag_frames-le-MOST_LAG_FRAMES c = grind (arith, common_steps, lag_tested)

pub returns-else-lag_frames-le-MOST_LAG_FRAMES : goal.returns-else-lag_frames-le-MOST_LAG_FRAMES
unfolding seconds_pass of_bits
returns-else-lag_frames-le-MOST_LAG_FRAMES c = grind (arith, common_steps, lag_tested)
