-- `laid` meets its contract: the samples are copied over the first zeros. Assumes nothing.
use mathlib.Core.List.{◌++◌}
use lib.ListN.{length}
use lib.Ieee.{of_bits}
use Rattle.std.proofs.lemmas.List.{drop-replicate}
use Rattle.timestamp.specs.Floats.{zero64}
use Rattle.clocksync.proofs.laid.Goals as goal

pub returns : goal.returns
unfolding of_bits
returns c = λ k. c.copy_from_slice.ensures.after k ++ drop-replicate (length c.args.samples.now) 64 zero64 k
