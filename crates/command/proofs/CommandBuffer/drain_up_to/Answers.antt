-- `drain_up_to` meets its contract: what stays ranks above 32,768 around the stamp. Assumes nothing.
use mathlib.Core.Path.{refl}
use Rattle.command.proofs.Calls.{drained_is}
use Rattle.command.proofs.CommandBuffer.drain_up_to.Goals as goal

pub returns : goal.returns
returns c = drained_is _ _ refl refl c.sift.ensures
