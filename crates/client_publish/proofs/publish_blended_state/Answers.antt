-- `publish_blended_state` meets its contract: whether each world is initialised decides. Assumes nothing.
use Rattle.client_publish.proofs.Showing.{blended_both, blended_new, blended_none}
use Rattle.client_publish.proofs.publish_blended_state.Goals as goal

pub returns-then-old : goal.returns-then-old
returns-then-old c =
    blended_both _ c.old_side.ensures c.get_side-old.ensures c.if-old.true c.publish_both.ensures

pub returns-then-new : goal.returns-then-new
returns-then-new c =
    blended_new _ c.old_side.ensures c.get_side-old.ensures c.if-old.false c.new_side-side.ensures c.get_side-new.ensures
    c.if-new.true c.publish_side.ensures

pub returns : goal.returns
returns c =
    blended_none _ c.old_side.ensures c.get_side-old.ensures c.if-old.false c.new_side-side.ensures c.get_side-new.ensures
    c.if-new.false c.publish_none.ensures
