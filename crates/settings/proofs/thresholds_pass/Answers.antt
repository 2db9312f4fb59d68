-- `thresholds_pass` meets its contract: a row of tests. Assumes nothing.
use Rattle.std.proofs.Common.{arith}
use Rattle.std.proofs.lemmas.Grind.{common_steps}
use lib.Ieee.{of_bits}
use Rattle.settings.specs.Settings.{thresholds_pass}
use Rattle.settings.proofs.thresholds_pass.Goals as goal

pub returns-then-within-2 : goal.returns-then-within-2
unfolding thresholds_pass of_bits
returns-then-within-2 c = grind (arith, common_steps)

pub returns-else-within-2 : goal.returns-else-within-2
unfolding thresholds_pass of_bits
returns-else-within-2 c = grind (arith, common_steps)
