-- `times_ok` meets its contract: both ranges. Assumes nothing.
use lib.Ieee.{of_bits, neg}
use Rattle.session.specs.Calls.{times_ok}
use Rattle.timestamp.proofs.Tests.{row_fails, row_holds}
use Rattle.session.proofs.in_place.times_ok.Goals as goal

pub returns-then-within : goal.returns-then-within
unfolding times_ok of_bits neg
returns-then-within c = row_holds c.within.ensures c.if-within.true c.within-then-within.ensures

pub returns-else-within : goal.returns-else-within
unfolding times_ok of_bits neg
returns-else-within c = rw (c.if-within.false) (row_fails _ c.within.ensures c.if-within.false)
