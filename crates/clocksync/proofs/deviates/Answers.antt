-- `deviates` meets its contract: the library's size of the difference is the definition's to a comparison. Assumes nothing.
use mathlib.Core.Path.{ap, ◌∙◌}
use lib.Ieee.{lt}
use Rattle.clocksync.specs.Clock.{deviates_of}
use Rattle.timestamp.proofs.Size.{size_above}
use Rattle.clocksync.proofs.deviates.Goals as goal

pub returns : goal.returns
unfolding deviates_of
returns c = ap (lt c.args.deviation) c.abs.ensures.value ∙ size_above c.args.deviation _
