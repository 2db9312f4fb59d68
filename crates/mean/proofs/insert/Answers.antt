-- `insert` meets its contract: those from the place on move up, one a turn. Assumes nothing.
use Rattle.mean.proofs.Lists.{insert_all}
use Rattle.mean.proofs.insert.Goals as goal

pub returns : goal.returns
returns c =
    insert_all c.args.x c.args.samples.now c.loop-slot.slot-items c.loop-slot.slot-index c.loop-slot.moved c.requires c.place-start.ensures.place
    c.loop-slot.auto.slot-items c.loop-slot-test.false c.loop-slot.invariant
