-- `publish_old_state` meets its contract: whether the old world is initialised decides. Assumes nothing.
use Rattle.client_publish.proofs.Showing.{old_shown, old_none}
use Rattle.client_publish.proofs.publish_old_state.Goals as goal

pub returns-then-old : goal.returns-then-old
returns-then-old c =
    old_shown _ c.old_side-side.ensures c.get_side-old.ensures c.if-old.true c.publish_side.ensures

pub returns : goal.returns
returns c =
    old_none _ c.old_side-side.ensures c.get_side-old.ensures c.if-old.false c.publish_none.ensures
