-- `load_snapshot` meets its contract: the drained base goes into the side, and the ledger counts it. Assumes nothing.
use lib.Ieee.{of_bits}
use Rattle.client_load.proofs.Loading.{readied, load_left, load_right}
use Rattle.client_load.proofs.load_snapshot.Goals as goal

pub returns-in-Left-clause-plays : goal.returns-in-Left-clause-plays
unfolding readied of_bits
returns-in-Left-clause-plays c =
    load_left c.args.scene.now c.args.side c.args.snapshot.stamp c.args.snapshot.handle c.drain_up_to.ensures c.in-Left.is
    c.apply_completed_snapshot-loaded.ensures c.count_load.ensures

pub returns-in-Right-clause-plays : goal.returns-in-Right-clause-plays
unfolding readied of_bits
returns-in-Right-clause-plays c =
    load_right c.args.scene.now c.args.side c.args.snapshot.stamp c.args.snapshot.handle c.drain_up_to.ensures c.in-Right.is
    c.apply_completed_snapshot-loaded-in-Right.ensures c.count_load-in-Right.ensures
