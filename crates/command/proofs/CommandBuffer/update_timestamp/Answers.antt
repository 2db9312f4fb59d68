-- `update_timestamp` meets its contract: what stays ranks 16,385 to 49,150 around the new midpoint. Assumes nothing.
use mathlib.Core.Path.{refl}
use Rattle.command.proofs.Calls.{moved_is}
use Rattle.command.proofs.CommandBuffer.update_timestamp.Goals as goal

pub returns : goal.returns
returns c = moved_is _ _ refl refl c.sift.ensures refl
