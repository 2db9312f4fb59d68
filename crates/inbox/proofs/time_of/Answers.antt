-- `time_of` meets its contract: the limits that it compares with are those of `time_ok`. Assumes nothing.
use Rattle.std.proofs.Common.{arith}
use Rattle.std.proofs.lemmas.Grind.{common_steps}
use lib.Ieee.{of_bits, neg}
use Rattle.inbox.specs.Inbox.{inbox_time_of}
use Rattle.inbox.proofs.time_of.Goals as goal

pub returns-in_err-require : goal.returns-in_err-require
unfolding inbox_time_of of_bits neg
returns-in_err-require c = grind (arith, common_steps)

pub returns : goal.returns
unfolding inbox_time_of of_bits neg
returns c = grind (arith, common_steps)
